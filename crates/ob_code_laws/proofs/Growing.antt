-- Objects of a run keep their contracts and stay, so that what refers to them goes on to do so.
use Rattle.std.proofs.Common.{◌≡◌, ℕ, List, [], ◌∷◌, Some, refl, ap, ◌∙◌}
use Rattle.ob_base.specs.declared.id.ContractId.{ContractId}
use Rattle.ob_table.specs.declared.seen.Kind.{Kind}
use Rattle.ob_table.specs.declared.seen.Kind.TheVariants as kind
use Rattle.ob_heap_spec.specs.Values.{Value, int_value, bool_value, text_value, reference}
use Rattle.ob_heap_spec.specs.Objects.{Object}
use Rattle.ob_heap_spec.specs.Contents.{object_at}
use Rattle.ob_code.specs.declared.image.ContractCode.{ContractCode}
use Rattle.ob_code.specs.declared.image.Image.{Image}
use Rattle.ob_machine_steps.specs.Slots.{Slots}
use Rattle.ob_verify_spec.specs.Kinds.{fits_contract}
use Rattle.ob_code_laws.specs.Kinds.{NamesObject, IsOfKind, AreOfKinds, IsFieldValue, HasFieldsOfKinds, IsObjectOf, Holds}

-- an object of this contract is there
pub record StaysAt (objects : List Object) (contract : ContractId) (n : ℕ) : Type 0 where
  pub object : Object
  pub there : object_at objects n ≡ Some object
  pub of : object.contract ≡ contract

-- each object stays, with its contract
pub record Grows (old new : List Object) : Type 0 where
  pub each : (n : ℕ) (o : Object) → object_at old n ≡ Some o → StaysAt new o.contract n

pub same_grows : (old new : List Object) → new ≡ old → Grows old new
same_grows old new e = record { each = λ n o at. record { object = o; there = ap (λ z. object_at z n) e ∙ at; of = refl } }

pub names_grows : (image : Image) (old new : List Object) → Grows old new → (c : ContractId) (n : ℕ) → NamesObject image old c n → NamesObject image new c n
names_grows image old new g c n h =
    let s : StaysAt new h.object.contract n = g.each n h.object h.there in
    record { object = s.object; there = s.there; fits = ap (λ z. fits_contract image z c) s.of ∙ h.fits }

pub kind_grows : (image : Image) (old new : List Object) → Grows old new → (x : Kind) (v : Value) → IsOfKind image old x v → IsOfKind image new x v
kind_grows image old new g kind.Int (int_value z) h = h
kind_grows image old new g kind.Bool (bool_value b) h = h
kind_grows image old new g kind.Text (text_value bytes) h = h
kind_grows image old new g (kind.Reference c) (reference n) h = names_grows image old new g c n h
kind_grows image old new g x v h = absurd h

pub kinds_grow : (image : Image) (old new : List Object) → Grows old new → (xs : List Kind) (vs : List Value) → AreOfKinds image old xs vs → AreOfKinds image new xs vs
kinds_grow image old new g [] [] h = h
kinds_grow image old new g (x ∷ xs) (v ∷ vs) h = (kind_grows image old new g x v h.0, kinds_grow image old new g xs vs h.1)
kinds_grow image old new g xs vs h = absurd h

pub object_grows : (old new : List Object) → Grows old new → (c : ContractId) (n : ℕ) → IsObjectOf old c n → IsObjectOf new c n
object_grows old new g c n h = let s : StaysAt new h.object.contract n = g.each n h.object h.there in record { object = s.object; there = s.there; of = s.of ∙ h.of }

pub field_grows : (image : Image) (old new : List Object) → Grows old new → (own : ContractCode) (k : ℕ) (v : Value) → IsFieldValue image old own k v → IsFieldValue image new own k v
field_grows image old new g own k v h = record { field = h.field; declared = h.declared; kind = kind_grows image old new g _ v h.kind }

pub fields_grow : (image : Image) (old new : List Object) → Grows old new → (o : Object) → HasFieldsOfKinds image old o → HasFieldsOfKinds image new o
fields_grow image old new g o h = record { own = h.own; of = h.of; contract = h.contract; fields = λ k v e. field_grows image old new g h.own k v (h.fields k v e) }

pub holds_grows : (image : Image) (old new : List Object) → Grows old new → (slots : Slots) (k : ℕ) (x : Kind) → Holds image old slots k x → Holds image new slots k x
holds_grows image old new g slots k x h = record { value = h.value; there = h.there; kind = kind_grows image old new g x h.value h.kind }
