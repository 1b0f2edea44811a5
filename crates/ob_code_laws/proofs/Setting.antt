-- Instructions that set a slot.
use Rattle.std.proofs.Common.{◌≡◌, ◌≢◌, ℕ, ◌+◌, ◌<◌, [], ◌∷◌, length, Option, Some, Contains, slice_set, refl, sym, ap, ◌∙◌, subst, inl, inr}
use Rattle.std.specs.Prelude.{nat_lt, ◌==◌, option_map}
use Rattle.std.proofs.lemmas.Bool.{cases_eq, cond-true, cond-false, eq-eqb, ne_eqb, ltb-true}
use Rattle.ob_base.specs.declared.id.FieldId.{FieldId}
use Rattle.ob_base.specs.declared.operator.Operator.{Operator}
use Rattle.ob_table.specs.declared.seen.Kind.{Kind}
use Rattle.ob_heap_spec.specs.Values.{Value}
use Rattle.ob_heap_spec.specs.Objects.{Object}
use Rattle.ob_heap_spec.specs.Contents.{object_at}
use Rattle.ob_heap_spec.specs.Operations.{Operated, operated, overflows, other_kinds}
use Rattle.ob_code.specs.declared.image.FieldCode.{FieldCode}
use Rattle.ob_code.specs.declared.image.Image.{Image}
use Rattle.ob_code.specs.declared.instruction.Instruction.{Instruction}
use Rattle.ob_code.specs.declared.instruction.Instruction.TheVariants as is
use Rattle.ob_machine_steps.specs.Slots.{Slots, value_at, with_value_at}
use Rattle.ob_machine_steps.specs.Configurations.{Configuration}
use Rattle.ob_machine_steps.specs.Parts.{sets, this_object}
use Rattle.ob_machine_steps.specs.Straight.{operation, with_operated, op_step, copy_step, load_step}
use Rattle.ob_verify_spec.specs.Kinds.{kind_of_type}
use Rattle.ob_code.specs.Code.{contract_code}
use Rattle.ob_verify_spec.specs.Frames.{kind_of_field}
use Rattle.ob_verify_spec.specs.Instructions.{slot_set, leads, set_slot, done, effect}
use Rattle.ob_verify_spec.specs.Instructions as kinds
use Rattle.ob_verify_spec.specs.Ways.{IsAt}
use Rattle.ob_verify_spec.proofs.Cells.{some_same, cell-set_same, cell-set_other, set-length}
use Rattle.ob_verify_spec.proofs.Listed.{head}
use Rattle.ob_code_laws.specs.Kinds.{IsOfKind, Holds, IsFieldValue, HasFieldsOfKinds, IsObjectOf}
use Rattle.ob_code_laws.proofs.Basics.{where_true_some}
use Rattle.ob_code_laws.proofs.Worlds.{follows_same}
use Rattle.ob_code_laws.proofs.Operators.{Gives, operation_gives}
use Rattle.ob_code_laws.proofs.Frames.{code, IsRunning, Good, then_good, moved}

-- Kinds with one set.

pub set_slot_same : (k j : ℕ) (held : Option Kind) (s : kinds.KindsOfSlots) → j ≡ k → set_slot k held s j ≡ held
set_slot_same k j held s e = cond-true (j == k) held (s j) (eq-eqb j k e)

pub set_slot_other : (k j : ℕ) (held : Option Kind) (s : kinds.KindsOfSlots) → j ≢ k → set_slot k held s j ≡ s j
set_slot_other k j held s ne = cond-false (j == k) held (s j) (ne_eqb j k ne)

-- Slots with one set.

-- the slots after one is set
pub record SetTo (slots : Slots) (k : ℕ) (v : Value) (new : Slots) : Type 0 where
  pub count : length new ≡ length slots
  pub at : value_at new k ≡ Some v
  pub others : (j : ℕ) → j ≢ k → value_at new j ≡ value_at slots j

pub with_value : (slots : Slots) (k : ℕ) (v : Value) (new : Slots) → with_value_at slots k v ≡ Some new → SetTo slots k v new
with_value slots k v new e =
    let p = where_true_some (nat_lt k (length slots)) (slice_set slots k (Some v)) new e in
    record {
      count = ap length (sym p.1) ∙ set-length slots k (Some v);
      at = ap (λ z. value_at z k) (sym p.1) ∙ cell-set_same slots k (Some v) (ltb-true k (length slots) p.0);
      others = λ j ne. ap (λ z. value_at z j) (sym p.1) ∙ cell-set_other slots k j (Some v) ne;
    }

pub set_good : (image : Image) (out : Option Kind) (c : Configuration) (g : IsRunning image out c) (x : Instruction) → IsAt (code image c.world.objects c.top g.top.frame) c.top.at x
    → (k : ℕ) (v : Value) (held : Option Kind) → slot_set x ≡ Some k → Contains (leads c.top.at x) (c.top.at + 1)
    → ((j : ℕ) → done (effect (code image c.world.objects c.top g.top.frame) x) g.top.known j ≡ set_slot k held g.top.known j)
    → ((y : Kind) → held ≡ Some y → IsOfKind image c.world.objects y v) → Good image out (sets k v c)
set_good image out c g x at k v held slot lead after of = then_good image out (with_value_at c.top.slots k v) _ (λ slots e.
    let set : SetTo c.top.slots k v slots = with_value c.top.slots k v slots e in
    let named : (k ≢ 0) × (k < g.top.frame.body.slots) = g.top.frame.keeps.sets_within c.top.at k x at slot in
    moved image out c g x at (c.top.at + 1) lead slots c.top.tests c.world (follows_same image c.world.objects c.world.objects g.objects refl) set.count
    (set.others 0 (λ z. named.0 (sym z)))
    (λ j y lt h. elim (cases_eq j k) [
      | inl same ↦ record { value = v; there = ap (value_at slots) same ∙ set.at; kind = of y (sym (set_slot_same k j held g.top.known same) ∙ sym (after j) ∙ h) }
      | inr ne ↦
          let was : Holds image c.world.objects c.top.slots j y = g.top.holds j y lt (sym (set_slot_other k j held g.top.known ne) ∙ sym (after j) ∙ h) in
          record { value = was.value; there = set.others j ne ∙ was.there; kind = was.kind }
    ]))

pub copy_good : (image : Image) (out : Option Kind) (c : Configuration) (g : IsRunning image out c) (k a : ℕ) → IsAt (code image c.world.objects c.top g.top.frame) c.top.at (is.Copy k a)
    → Good image out (copy_step k a c)
copy_good image out c g k a at = then_good image out (value_at c.top.slots a) _ (λ v e.
    set_good image out c g (is.Copy k a) at k v (g.top.known a) refl (head (c.top.at + 1) []) (λ j. refl) (λ y h.
    let held : Holds image c.world.objects c.top.slots a y = g.top.holds a y (g.top.frame.keeps.reads_within c.top.at a (is.Copy k a) at (head a [])) h in
    subst (IsOfKind image c.world.objects y) (some_same (sym held.there ∙ e)) held.kind))

-- `this` is of the frame's contract
pub own_contract : (image : Image) (out : Option Kind) (c : Configuration) (g : IsRunning image out c) (o : Object) → object_at c.world.objects c.top.this ≡ Some o → o.contract ≡ c.top.contract
own_contract image out c g o at =
    let this : IsObjectOf c.world.objects c.top.contract c.top.this = g.top.frame.this in
    ap (λ (z : Object). z.contract) (some_same (sym at ∙ this.there)) ∙ this.of

pub own_fields : (image : Image) (out : Option Kind) (c : Configuration) (g : IsRunning image out c) (o : Object) → object_at c.world.objects c.top.this ≡ Some o
    → (k : ℕ) (v : Value) → o.fields k ≡ Some v → IsFieldValue image c.world.objects g.top.frame.own k v
own_fields image out c g o at k v e =
    let kept : HasFieldsOfKinds image c.world.objects o = g.objects.each c.top.this o at in
    let same : kept.own ≡ g.top.frame.own = some_same (sym kept.of ∙ ap (contract_code image) (own_contract image out c g o at) ∙ g.top.frame.there.contract) in
    subst (λ z. IsFieldValue image c.world.objects z k v) same (kept.fields k v e)

pub load_good : (image : Image) (out : Option Kind) (c : Configuration) (g : IsRunning image out c) (k : ℕ) (field : FieldId)
    → IsAt (code image c.world.objects c.top g.top.frame) c.top.at (is.Load k field)
    → Good image out (load_step k field c)
load_good image out c g k field at = then_good image out (this_object c) _ (λ o there. then_good image out (o.fields field.0) _ (λ v e.
    let here = code image c.world.objects c.top g.top.frame in
    set_good image out c g (is.Load k field) at k v (kind_of_field here field.0) refl (head (c.top.at + 1) []) (λ j. refl) (λ y h.
    let f : IsFieldValue image c.world.objects g.top.frame.own field.0 v = own_fields image out c g o there field.0 v e in
    let same : kind_of_type f.field.of ≡ y = some_same (ap (option_map (λ (z : FieldCode). kind_of_type z.of)) (sym f.declared) ∙ h) in
    subst (λ z. IsOfKind image c.world.objects z v) same f.kind)))

operated_good : (image : Image) (out : Option Kind) (c : Configuration) (k line : ℕ) (x : Operated) (y : Kind) → Gives image c.world.objects y x
    → ((v : Value) → IsOfKind image c.world.objects y v → Good image out (sets k v c)) → Good image out (with_operated line c.world x (λ v. sets k v c))
operated_good image out c k line (operated v) y h go = go v h
operated_good image out c k line overflows y h go = tt
operated_good image out c k line other_kinds y h go = tt

pub op_good : (image : Image) (out : Option Kind) (c : Configuration) (g : IsRunning image out c) (k : ℕ) (o : Operator) (a b line : ℕ)
    → IsAt (code image c.world.objects c.top g.top.frame) c.top.at (is.Op k o a b line)
    → Good image out (op_step k o a b line c)
op_good image out c g k o a b line at = then_good image out (operation o c.top.slots a b) _ (λ x e.
    operated_good image out c k line x (kinds.kind_given o) (operation_gives image c.world.objects o c.top.slots a b x e) (λ v h.
    set_good image out c g (is.Op k o a b line) at k v (Some (kinds.kind_given o)) refl (head (c.top.at + 1) []) (λ j. refl)
    (λ y same. subst (λ z. IsOfKind image c.world.objects z v) (some_same same) h)))

-- a slot gets a value of a kind
pub set_const_good : (image : Image) (out : Option Kind) (c : Configuration) (g : IsRunning image out c) (x : Instruction) → IsAt (code image c.world.objects c.top g.top.frame) c.top.at x
    → (k : ℕ) (v : Value) (y : Kind) → slot_set x ≡ Some k → leads c.top.at x ≡ (c.top.at + 1) ∷ []
    → ((j : ℕ) → done (effect (code image c.world.objects c.top g.top.frame) x) g.top.known j ≡ set_slot k (Some y) g.top.known j)
    → IsOfKind image c.world.objects y v → Good image out (sets k v c)
set_const_good image out c g x at k v y slot lead after of =
    set_good image out c g x at k v (Some y) slot (subst (λ z. Contains z (c.top.at + 1)) (sym lead) (head (c.top.at + 1) [])) after
    (λ z e. subst (λ q. IsOfKind image c.world.objects q v) (some_same e) of)
