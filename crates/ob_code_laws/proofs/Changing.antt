-- Instructions that change `this`.
use Rattle.std.proofs.Common.{◌≡◌, ℕ, zero, suc, ◌+◌, ◌<◌, List, [], ◌∷◌, length, map, Option, Some, None, Bool, true, false, Contains, slice_get, refl, sym, ap, ◌∙◌, subst, arith, ◌⊎◌, inl, inr}
use Rattle.std.specs.Prelude.{if◌then◌else◌, nat_lt, nat_eq, not, ◌&&◌, option_map}
use Rattle.std.specs.List.{list_all}
use Rattle.std.proofs.lemmas.Bool.{ltb-true, eqb-true, not-false, not-true, and_parts}
use Rattle.std.proofs.lemmas.List.Elements.{Contains-append_left, Contains-append_right}
use Rattle.ob_base.specs.declared.id.FieldId.{FieldId}
use Rattle.ob_base.specs.declared.id.StateId.{StateId}
use Rattle.ob_table.specs.declared.seen.Kind.{Kind}
use Rattle.ob_heap_spec.specs.Values.{Value, Numbered, nothing, put}
use Rattle.ob_heap_spec.specs.Objects.{Object, with_field}
use Rattle.ob_heap_spec.specs.Contents.{object_at}
use Rattle.ob_heap_spec.specs.Worlds.{edit_object}
use Rattle.ob_code.specs.declared.image.FieldCode.{FieldCode}
use Rattle.ob_code.specs.declared.image.Image.{Image}
use Rattle.ob_code.specs.declared.instruction.Instruction.{Instruction}
use Rattle.ob_code.specs.declared.instruction.Instruction.TheVariants as is
use Rattle.ob_code.specs.Code.{contract_code}
use Rattle.ob_code_table.specs.Images.{has_field_code}
use Rattle.ob_machine_steps.specs.Slots.{Slots, value_at}
use Rattle.ob_machine_steps.specs.Configurations.{Configuration}
use Rattle.ob_machine_steps.specs.Parts.{this_object}
use Rattle.ob_machine_steps.specs.Changing.{GivenSlots, edits_this, store_step, given_values, are_available, value_given, object_changed, is_locked_out, change_step}
use Rattle.ob_verify_spec.specs.Kinds.{kind_of_type}
use Rattle.ob_verify_spec.specs.Frames.{CodeFrame, kind_of_field}
use Rattle.ob_verify_spec.specs.Instructions.{fields_named, leads, Need, of_kind, need_of, needs_of_given, done, effect}
use Rattle.ob_verify_spec.specs.Conditions.{bad_jump, bad_slot, bad_field, bad_call, no_fuel_mark, may_go_on}
use Rattle.ob_verify_spec.specs.Ways.{IsAt}
use Rattle.ob_verify_spec.proofs.Cells.{some_same, none_some}
use Rattle.ob_verify_spec.proofs.Listed.{not_empty, head, behind, cases, each_passes}
use Rattle.ob_code_laws.specs.Kinds.{IsOfKind, Holds, AreMet, IsFieldValue}
use Rattle.ob_code_laws.proofs.Basics.{then_some}
use Rattle.ob_code_laws.proofs.Worlds.{edit_follows}
use Rattle.ob_code_laws.proofs.Frames.{IsSound, code, IsRunning, Good, then_good, if_good, need_met, stays}
use Rattle.ob_code_laws.proofs.Setting.{own_contract, own_fields}

-- What an instruction names is there.

-- the tests of fields and calls of an instruction at which no condition holds
pub named_well : (f : CodeFrame) (i : ℕ) (x : Instruction) → may_go_on f i x ≡ true → (bad_field f x ≡ false) × (bad_call f x ≡ false)
named_well f i x e =
    let a = and_parts (not (bad_jump f x) && not (bad_slot f i x) && not (bad_field f x) && not (bad_call f x)) (not (no_fuel_mark f i x)) e in
    let b = and_parts (not (bad_jump f x) && not (bad_slot f i x) && not (bad_field f x)) (not (bad_call f x)) a.0 in
    let c = and_parts (not (bad_jump f x) && not (bad_slot f i x)) (not (bad_field f x)) b.0 in
    (not-true (bad_field f x) c.1, not-true (bad_call f x) b.1)

within : {A : Type 0} (xs : List A) (k : ℕ) → k < length xs → (x : A) × (slice_get xs k ≡ Some x)
within [] k lt = absurd (omega arith)
within (x ∷ xs) zero lt = (x, refl)
within (x ∷ xs) (suc k) lt = within xs k (omega arith)

pub field_there : (f : CodeFrame) (x : Instruction) (field : FieldId) → bad_field f x ≡ false → Contains (fields_named x) field → (z : FieldCode) × (slice_get f.own.fields field.0 ≡ Some z)
field_there f x field e c =
    let all = not-false (list_all (λ (z : FieldId). nat_lt z.0 (length f.own.fields)) (fields_named x)) e in
    let lt : field.0 < length f.own.fields = ltb-true field.0 (length f.own.fields) (each_passes (λ (z : FieldId). nat_lt z.0 (length f.own.fields)) (fields_named x) field all c) in
    within f.own.fields field.0 lt

-- what a slot holds is a value for a field, where the field's needs are met
field_value : (image : Image) (c : Configuration) (f : CodeFrame) (k a : ℕ) (z : FieldCode) (v : Value) → slice_get f.own.fields k ≡ Some z
    → ((n : Need) → Contains (need_of a (kind_of_field f k)) n → AreMet image c.world.objects c.top.slots n) → value_at c.top.slots a ≡ Some v → IsFieldValue image c.world.objects f.own k v
field_value image c f k a z v at met e =
    let same : kind_of_field f k ≡ Some (kind_of_type z.of) = ap (option_map (λ (y : FieldCode). kind_of_type y.of)) at in
    let h : Holds image c.world.objects c.top.slots a (kind_of_type z.of) = met (of_kind a (kind_of_type z.of))
    (subst (λ y. Contains (need_of a y) (of_kind a (kind_of_type z.of))) (sym same) (head (of_kind a (kind_of_type z.of)) [])) in
    record { field = z; declared = at; kind = subst (IsOfKind image c.world.objects (kind_of_type z.of)) (some_same (sym h.there ∙ e)) h.kind }

-- `this` becomes another, with values of its fields' kinds
edits_good : (image : Image) (out : Option Kind) (c : Configuration) (g : IsRunning image out c) (x : Instruction) → IsAt (code image c.world.objects c.top g.top.frame) c.top.at x
    → Contains (leads c.top.at x) (c.top.at + 1) → ((k : ℕ) → done (effect (code image c.world.objects c.top g.top.frame) x) g.top.known k ≡ g.top.known k) → (f : Object → Object)
    → ((o : Object) → (f o).contract ≡ o.contract)
    → ((o : Object) → object_at c.world.objects c.top.this ≡ Some o → (k : ℕ) (v : Value) → (f o).fields k ≡ Some v → IsFieldValue image c.world.objects g.top.frame.own k v)
    → Good image out (edits_this f c)
edits_good image out c g x at lead same f contract fields =
    stays image out c g x at (c.top.at + 1) lead c.top.tests (edit_object f c.top.this c.world) (edit_follows image c.world c.top.this f g.objects (λ o there. contract o) (λ o there.
    record {
      own = g.top.frame.own;
      of = ap (contract_code image) (contract o ∙ own_contract image out c g o there) ∙ g.top.frame.there.contract;
      contract = g.top.frame.contract;
      fields = fields o there;
    })) same

-- A field is set.

-- things of which one is put, each of which meets a predicate
put_if : (P : ℕ → Value → Type 0) (xs : Numbered Value) (k : ℕ) (v : Value) (j : ℕ) (w : Value) → P k v → ((i : ℕ) (z : Value) → xs i ≡ Some z → P i z) → (b : Bool) → nat_eq j k ≡ b
    → (if b then Some v else xs j) ≡ Some w → P j w
put_if P xs k v j w h all true same e = subst (λ z. P z w) (sym (eqb-true j k same)) (subst (P k) (some_same e) h)
put_if P xs k v j w h all false same e = all j w e

put_each : (P : ℕ → Value → Type 0) (xs : Numbered Value) (k : ℕ) (v : Value) → P k v → ((j : ℕ) (w : Value) → xs j ≡ Some w → P j w) → (j : ℕ) (w : Value) → put xs k v j ≡ Some w → P j w
put_each P xs k v h all j w e = put_if P xs k v j w h all (nat_eq j k) refl e

pub store_good : (image : Image) → IsSound image → (out : Option Kind) (c : Configuration) (g : IsRunning image out c) (field : FieldId) (a : ℕ)
    → IsAt (code image c.world.objects c.top g.top.frame) c.top.at (is.Store field a)
    → Good image out (store_step image field a c)
store_good image s out c g field a at =
    then_good image out (value_at c.top.slots a) _ (λ v e. then_good image out (this_object c) _ (λ o there. then_good image out (contract_code image o.contract) _ (λ own of.
    let here = code image c.world.objects c.top g.top.frame in
    let z = field_there here (is.Store field a) field (named_well here c.top.at (is.Store field a) (g.top.frame.keeps.goes c.top.at (is.Store field a) at)).0 (head field []) in
    let value : IsFieldValue image c.world.objects g.top.frame.own field.0 v = field_value image c here field.0 a z.0 v z.1 (need_met image s out c g (is.Store field a) at) e in
    if_good image out (has_field_code own o.state field.0) _ None
    (edits_good image out c g (is.Store field a) at (head (c.top.at + 1) []) (λ k. refl) (with_field field.0 v) (λ p. refl) (λ p at_p k w h.
    put_each (IsFieldValue image c.world.objects g.top.frame.own) p.fields field.0 v value (own_fields image out c g p at_p) k w h)) tt)))

-- The state changes.

pub given_need : (f : CodeFrame) (given : GivenSlots) (g : FieldId × ℕ) (n : Need) → Contains given g → Contains (need_of g.1 (kind_of_field f g.0.0)) n → Contains (needs_of_given f given) n
given_need f [] g n c d = absurd (not_empty g c)
given_need f (first ∷ given) g n c d = elim (cases first g given c) [
  | inl e ↦ Contains-append_left (need_of first.1 (kind_of_field f first.0.0)) (needs_of_given f given) n (subst (λ z. Contains (need_of z.1 (kind_of_field f z.0.0)) n) (sym e) d)
  | inr h ↦ Contains-append_right (need_of first.1 (kind_of_field f first.0.0)) (needs_of_given f given) n (given_need f given g n h d)
]

pub given_named : (given : GivenSlots) (g : FieldId × ℕ) → Contains given g → Contains (map (λ (pair : FieldId × ℕ). pair.0) given) g.0
given_named [] g c = absurd (not_empty g c)
given_named (first ∷ given) g c = elim (cases first g given c) [
  | inl e ↦ subst (λ (z : FieldId × ℕ). Contains (map (λ (pair : FieldId × ℕ). pair.0) (first ∷ given)) z.0) e (head first.0 (map (λ (pair : FieldId × ℕ). pair.0) given))
  | inr h ↦ behind first.0 g.0 (map (λ (pair : FieldId × ℕ). pair.0) given) (given_named given g h)
]

given_each : (P : ℕ → Value → Type 0) (slots : Slots) (gs : GivenSlots) (before got : Numbered Value) → ((g : FieldId × ℕ) (v : Value) → Contains gs g → value_at slots g.1 ≡ Some v → P g.0.0 v)
    → ((k : ℕ) (v : Value) → before k ≡ Some v → P k v) → given_values slots gs before ≡ Some got → (k : ℕ) (v : Value) → got k ≡ Some v → P k v
given_each P slots [] before got each all e k v h = all k v (ap (λ (z : Numbered Value). z k) (some_same e) ∙ h)
given_each P slots (g ∷ gs) before got each all e k v h =
    let f = then_some (value_at slots g.1) (λ w. given_values slots gs (put before g.0.0 w)) got e in
    given_each P slots gs (put before g.0.0 f.0) got (λ x w c. each x w (behind g x gs c)) (put_each P before g.0.0 f.0 (each g f.0 (head g gs) f.1) all) f.2 k v h

changed_cases : (b : Bool) (got old : Option Value) (v : Value) → value_given got (if b then old else None) ≡ Some v → (got ≡ Some v) ⊎ (old ≡ Some v)
changed_cases b (Some w) old v e = inl e
changed_cases true None old v e = inr e
changed_cases false None old v e = absurd (none_some e)

pub change_good : (image : Image) → IsSound image → (out : Option Kind) (c : Configuration) (g : IsRunning image out c) (state : StateId) (given : GivenSlots)
    → IsAt (code image c.world.objects c.top g.top.frame) c.top.at (is.Change state given) → Good image out (change_step image state given c)
change_good image s out c g state given at = then_good image out (contract_code image c.top.contract) _ (λ own of. then_good image out (given_values c.top.slots given nothing) _ (λ got e.
    if_good image out (is_locked_out c c.top.this) _ _ tt (then_good image out (this_object c) _ (λ o there. if_good image out (are_available own state given) _ None
    (let here = code image c.world.objects c.top g.top.frame in
    let named = (named_well here c.top.at (is.Change state given) (g.top.frame.keeps.goes c.top.at (is.Change state given) at)).0 in
    let values : (k : ℕ) (v : Value) → got k ≡ Some v → IsFieldValue image c.world.objects g.top.frame.own k v =
    given_each (IsFieldValue image c.world.objects g.top.frame.own) c.top.slots given nothing got (λ x v has held.
    let z = field_there here (is.Change state given) x.0 named (given_named given x has) in
    field_value image c here x.0.0 x.1 z.0 v z.1 (λ n d. need_met image s out c g (is.Change state given) at n (given_need here given x n has d)) held)
    (λ k v h. absurd (none_some h)) e in
    edits_good image out c g (is.Change state given) at (head (c.top.at + 1) []) (λ k. refl) (object_changed own state got) (λ p. refl) (λ p at_p k w h.
    elim (changed_cases (has_field_code own (Some state) k) (got k) (p.fields k) w h) [
      | inl new ↦ values k w new
      | inr old ↦ own_fields image out c g p at_p k w old
    ])) tt))))
