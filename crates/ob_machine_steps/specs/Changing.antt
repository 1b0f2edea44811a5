-- Instructions that change `this`: a field is set, or the state changes (Coblenz et al., TOPLAS 42(3), 2020; the test of a lock is
-- this project's own).
use Rattle.std.specs.Prelude.{ℕ, Bool, ◌&&◌, List, [], ◌∷◌, Option, Some, None, if◌then◌else◌}
use Rattle.std.specs.List.{list_all}
use Rattle.ob_base.specs.Optional.{◌>>=◌}
use Rattle.ob_base.specs.declared.id.FieldId.{FieldId}
use Rattle.ob_base.specs.declared.id.StateId.{StateId}
use Rattle.ob_heap_spec.specs.Values.{Value, Numbered, nothing, put}
use Rattle.ob_heap_spec.specs.Objects.{Object, with_field}
use Rattle.ob_heap_spec.specs.Worlds.{edit_object, by_state}
use Rattle.ob_heap_spec.specs.Marks.{is_locked}
use Rattle.ob_code.specs.declared.image.ContractCode.{ContractCode}
use Rattle.ob_code.specs.declared.image.Image.{Image}
use Rattle.ob_code.specs.Code.{contract_code}
use Rattle.ob_code_table.specs.Images.{has_field_code}
use Rattle.ob_machine_steps.specs.Slots.{Slots, value_at}
use Rattle.ob_machine_steps.specs.Configurations.{Configuration, Next, abort}
use Rattle.ob_machine_steps.specs.Parts.{with_world, goes_on, this_object}

-- `this` becomes what f makes of it, and the next instruction follows
abbrev pub edits_this : (Object → Object) → Configuration → Option Next
edits_this f c = goes_on (with_world (edit_object f c.top.this c.world) c)

-- `store`: a field of `this` that is available in its state gets what a slot holds
abbrev pub store_step : Image → FieldId → ℕ → Configuration → Option Next
store_step image field a c =
    value_at c.top.slots a >>= λ v.
    this_object c >>= λ o.
    contract_code image o.contract >>= λ own.
    if has_field_code own o.state field.0 then edits_this (with_field field.0 v) c else None

-- Changes of state.

-- fields with the slots of their values
abbrev pub GivenSlots : Type 0
GivenSlots = List (FieldId × ℕ)

-- the values that fields are given, after those of earlier ones
abbrev pub given_values : Slots → GivenSlots → Numbered Value → Option (Numbered Value)
given_values slots [] got = Some got
given_values slots (g ∷ gs) got = value_at slots g.1 >>= λ v. given_values slots gs (put got g.0.0 v)

-- whether each field that is given is available in a state
abbrev pub are_available : ContractCode → StateId → GivenSlots → Bool
are_available own state given = list_all (λ g. has_field_code own (Some state) g.0.0) given

-- what a field has after a change: what it was given, or else what it had
abbrev pub value_given : Option Value → Option Value → Option Value
value_given None old = old
value_given (Some v) old = Some v

-- the object in its new state: a field that is available there has what it was given, or keeps its value; any other has none
abbrev pub object_changed : ContractCode → StateId → Numbered Value → Object → Object
object_changed own state got o = record o {
  state = Some state;
  fields = λ k. value_given (got k) (if has_field_code own (Some state) k then o.fields k else None);
}

-- whether the body on an object is share-entered while that is locked
abbrev pub is_locked_out : Configuration → ℕ → Bool
is_locked_out c n = c.top.share_entered && is_locked c.world n

-- `this` changes its state, with these values given
abbrev pub changes_to : ContractCode → StateId → GivenSlots → Numbered Value → Configuration → Option Next
changes_to own state given got c =
    this_object c >>= λ o.
    if are_available own state given then edits_this (object_changed own state got) c else None

-- `change`: `this` changes its state; the run aborts where its body is share-entered and it is locked
abbrev pub change_step : Image → StateId → GivenSlots → Configuration → Option Next
change_step image state given c =
    contract_code image c.top.contract >>= λ own.
    given_values c.top.slots given nothing >>= λ got.
    if is_locked_out c c.top.this then Some (abort (by_state c.top.this None) c.world)
    else changes_to own state given got c
