-- What is so where a run starts.
use Rattle.std.proofs.Common.{◌≡◌, ℕ, suc, List, [], ◌∷◌, map, Option, Some, None, true, false, slice_get, refl, sym, ap, ◌∙◌, subst}
use Rattle.std.specs.Prelude.{option_map, IsSomeAnd, IfSome}
use Rattle.std.specs.Option.{option_map_or}
use Rattle.std.proofs.lemmas.Bool.{true≢false, and_parts, or_left, not_from_false}
use Rattle.std.proofs.lemmas.Option.{slice_get-map}
use Rattle.std.proofs.lemmas.List.Elements.{All-contains}
use Rattle.ob_base.specs.declared.id.ContractId.{ContractId}
use Rattle.ob_table.specs.declared.contract.Contract.{Contract}
use Rattle.ob_table.specs.declared.contract.Field.{Field}
use Rattle.ob_table.specs.declared.seen.Kind.{Kind}
use Rattle.ob_table.specs.declared.seen.Kind.TheVariants as kind
use Rattle.ob_heap_spec.specs.Values.{Value, int_value, bool_value, text_value, reference}
use Rattle.ob_heap_spec.specs.Objects.{Object}
use Rattle.ob_heap_spec.specs.Contents.{Content, IsValueOf, IsObject, IsContent, object_at}
use Rattle.ob_heap_spec.specs.Contents as contents
use Rattle.ob_heap_spec.specs.Worlds.{World, first_world}
use Rattle.ob_code.specs.declared.image.BodyCode.{BodyCode}
use Rattle.ob_code.specs.declared.image.ContractCode.{ContractCode}
use Rattle.ob_code.specs.declared.image.FieldCode.{FieldCode}
use Rattle.ob_code.specs.declared.image.Image.{Image}
use Rattle.ob_code.specs.declared.image.TypeCode.{TypeCode}
use Rattle.ob_code.specs.declared.image.TypeCode.TheVariants as type
use Rattle.ob_code.specs.Code.{body_code, is_interface, contract_code}
use Rattle.ob_code_table.specs.ImageTables.{type_of_code, field_of_code, contract_of_code, table_of_image}
use Rattle.ob_machine_steps.specs.Parts.{with_unit}
use Rattle.ob_machine_steps.specs.Entries.{MachineEntry, lock_receiver, entry_world, nobody, enters}
use Rattle.ob_verify_spec.specs.Kinds.{kind_of_type}
use Rattle.ob_verify_spec.specs.Frames.{kinds_of_params}
use Rattle.ob_verify_spec.specs.Laws.{HasBody}
use Rattle.ob_verify_spec.proofs.Listed.{from_get}
use Rattle.ob_code_laws.specs.Kinds.{NamesObject, IsOfKind, AreOfKinds, IsFieldValue, HasFieldsOfKinds, HaveFieldsOfKinds}
use Rattle.ob_code_laws.specs.Premises.{RefersAsDeclared, is_of, are_of, CanStart, MayRun}
use Rattle.ob_code_laws.specs.Keeping.{kind_given, entered_by}
use Rattle.ob_verify_spec.proofs.Cells.{some_same}
use Rattle.ob_code_laws.proofs.Growing.{names_grows, kinds_grow}
use Rattle.ob_code_laws.proofs.Worlds.{Follows, follows_same, follows_on, body_follows, receiver_locked}
use Rattle.ob_code_laws.proofs.Frames.{IsSound, Good, unit_good}
use Rattle.ob_code_laws.proofs.Calling.{body_found, object_good, object_made}

-- The objects.

value_start : (image : Image) (objects : List Object) (t : TypeCode) (v : Value) → IsValueOf objects (type_of_code t) v
    → ((c : ContractId) (m : ℕ) → kind_of_type t ≡ kind.Reference c → v ≡ reference m → NamesObject image objects c m) → IsOfKind image objects (kind_of_type t) v
value_start image objects type.Int (int_value z) h r = tt
value_start image objects type.Bool (bool_value b) h r = tt
value_start image objects type.Text (text_value bytes) h r = tt
value_start image objects (type.Reference c p) (reference m) h r = r c m refl refl
value_start image objects t v h r = absurd h

field_start : (image : Image) (objects : List Object) → RefersAsDeclared image objects → (n : ℕ) (o : Object) (own : ContractCode) → object_at objects n ≡ Some o
    → contract_code image o.contract ≡ Some own
    → (k : ℕ) (v : Value) → o.fields k ≡ Some v → (at : Option FieldCode) → slice_get own.fields k ≡ at → IsSomeAnd (option_map field_of_code at) (λ (f : Field). IsValueOf objects f.of v)
    → IsFieldValue image objects own k v
field_start image objects r n o own at of k v e None there h = absurd h
field_start image objects r n o own at of k v e (Some field) there h = record {
  field = field;
  declared = there;
  kind = value_start image objects field.of v h (λ c m same is. r.each n k m o own field c at of there same (e ∙ ap Some is));
}

object_start : (image : Image) (objects : List Object) → RefersAsDeclared image objects → (n : ℕ) (o : Object) → object_at objects n ≡ Some o → (own : Option ContractCode)
    → contract_code image o.contract ≡ own
    → IsSomeAnd (option_map contract_of_code own) (λ (c : Contract). contents.IsObjectOf objects c o) → HasFieldsOfKinds image objects o
object_start image objects r n o at None of h = absurd h
object_start image objects r n o at (Some own) of h = record {
  own = own;
  of = of;
  contract = h.contract;
  fields = λ k v e. field_start image objects r n o own at of k v e (slice_get own.fields k) refl
      (subst (λ (z : Option Field). IsSomeAnd z (λ (f : Field). IsValueOf objects f.of v)) (slice_get-map field_of_code own.fields k)
      (subst (λ (z : Option Value). IfSome z (λ v. IsSomeAnd (slice_get (map field_of_code own.fields) k) (λ (f : Field). IsValueOf objects f.of v))) e (h.values k)));
}

objects_start : (image : Image) (content : Content) → IsContent (table_of_image image) content → RefersAsDeclared image content.objects → HaveFieldsOfKinds image content.objects
objects_start image content is r = record {
  each = λ n o at.
      let one : IsObject (table_of_image image) content.objects o = All-contains (IsObject (table_of_image image) content.objects) content.objects o is.objects (from_get content.objects n o at) in
      object_start image content.objects r n o at (contract_code image o.contract) refl
      (subst (λ (z : Option Contract). IsSomeAnd z (λ (c : Contract). contents.IsObjectOf content.objects c o)) (slice_get-map contract_of_code image.contracts o.contract.0) one);
}

-- The arguments.

arg_start : (image : Image) (objects : List Object) (x : Kind) (v : Value) → is_of x v ≡ true → ((c : ContractId) (n : ℕ) → x ≡ kind.Reference c → v ≡ reference n → NamesObject image objects c n)
    → IsOfKind image objects x v
arg_start image objects kind.Int (int_value z) e r = tt
arg_start image objects kind.Bool (bool_value b) e r = tt
arg_start image objects kind.Text (text_value bytes) e r = tt
arg_start image objects (kind.Reference c) (reference n) e r = r c n refl refl
arg_start image objects x v e r = absurd (true≢false (sym e))

args_start : (image : Image) (objects : List Object) (xs : List Kind) (vs : List Value) → are_of xs vs ≡ true
    → ((k n : ℕ) (c : ContractId) → slice_get xs k ≡ Some (kind.Reference c) → slice_get vs k ≡ Some (reference n) → NamesObject image objects c n) → AreOfKinds image objects xs vs
args_start image objects [] [] e r = tt
args_start image objects (x ∷ xs) (v ∷ vs) e r =
    let p = and_parts (is_of x v) (are_of xs vs) e in
    (arg_start image objects x v p.0 (λ c n same is. r 0 n c (ap Some same) (ap Some is)), args_start image objects xs vs p.1 (λ k n c same is. r (suc k) n c same is))
args_start image objects xs vs e r = absurd (true≢false (sym e))

-- The entry.

-- an entry may be entered in a world, and is to give a result of a kind
pub record MayEnter (image : Image) (out : Option Kind) (e : MachineEntry) (w : World) : Type 0 where
  pub own : ContractCode
  pub body : BodyCode
  pub there : HasBody image e.contract own e.tx body
  pub contract : is_interface own ≡ false
  pub objects : HaveFieldsOfKinds image w.objects
  pub args : AreOfKinds image w.objects (kinds_of_params body) e.args
  pub receiver : (n : ℕ) → e.receiver ≡ Some n → NamesObject image w.objects e.contract n
  pub gives : kind_given (entered_by e.receiver) e.contract body ≡ out

pub sound : (image : Image) (content : Content) (e : MachineEntry) → MayRun image content e → IsSound image
sound image content e m = record { verified = m.verified; implements = m.implements; slots = m.slots }

pub may_enter : (image : Image) (content : Content) (e : MachineEntry) (m : MayRun image content e) (fuel : ℕ)
    → MayEnter image (kind_given (entered_by e.receiver) e.contract m.starts.body) e (entry_world image e content.objects fuel)
may_enter image content e m fuel =
    let start : CanStart image e = m.starts in
    let objects : HaveFieldsOfKinds image content.objects = objects_start image content m.objects m.refers in
    let locked = lock_receiver e.lock e.receiver (first_world content.objects fuel) in
    let first : Follows image content.objects locked.objects = follows_same image content.objects locked.objects objects (receiver_locked e.lock e.receiver (first_world content.objects fuel)) in
    let w = entry_world image e content.objects fuel in
    let f : Follows image content.objects w.objects = follows_on image content.objects locked.objects w.objects first
    (body_follows image e.contract (body_code image e.contract e.tx) e.receiver e.args locked first.kinds) in
    let found = body_found image e.contract start.own e.tx start.body start.there in
    record {
      own = start.own;
      body = start.body;
      there = start.there;
      contract = start.contract;
      objects = f.kinds;
      args = kinds_grow image content.objects w.objects f.grows (kinds_of_params start.body) e.args
          (args_start image content.objects (kinds_of_params start.body) e.args start.args (λ k n c same is. m.names.args k n start.body c found same is));
      receiver = λ n is. names_grows image content.objects w.objects f.grows e.contract n (m.names.receiver n is);
      gives = refl;
    }

enters_by : (image : Image) → IsSound image → (out : Option Kind) (e : MachineEntry) (w v : World) (m : MayEnter image out e w) → v.objects ≡ w.objects → (receiver : Option ℕ) → e.receiver ≡ receiver
    → Good image out (enters image e receiver v)
enters_by image s out e w v m same None is =
    object_made image s out nobody e.contract m.own m.body (Some e.tx) e.args v m.there.contract m.contract
    (λ tx same. subst (λ z. HasBody image e.contract m.own z m.body) (some_same same) m.there)
    (subst (HaveFieldsOfKinds image) (sym same) m.objects) (subst (λ z. AreOfKinds image z (kinds_of_params m.body) e.args) (sym same) m.args)
    (ap (λ z. kind_given (entered_by z) e.contract m.body) (sym is) ∙ m.gives)
enters_by image s out e w v m same (Some n) is =
    object_good image s out nobody e.contract e.tx m.own m.body n e.args v m.there
    (or_left _ _ (not_from_false _ (ap (λ (z : Option ContractCode). option_map_or is_interface z false) m.there.contract ∙ m.contract)))
    (subst (HaveFieldsOfKinds image) (sym same) m.objects) (subst (λ z. NamesObject image z e.contract n) (sym same) (m.receiver n is))
    (subst (λ z. AreOfKinds image z (kinds_of_params m.body) e.args) (sym same) m.args)
    (ap (λ z. kind_given (entered_by z) e.contract m.body) (sym is) ∙ m.gives)

pub enter_good : (image : Image) → IsSound image → (out : Option Kind) (e : MachineEntry) (w : World) → MayEnter image out e w → Good image out (with_unit w (enters image e e.receiver))
enter_good image s out e w m = unit_good image out w _ (λ v same. enters_by image s out e w v m same e.receiver refl)
