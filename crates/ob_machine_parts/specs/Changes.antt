-- What the code asks before it changes an object, and what it puts into its fields (this project's own).
use Rattle.std.specs.Prelude.{ℕ, Bool, Option, Some, None, is_some, if◌then◌else◌}
use Rattle.std.specs.List.{list_all}
use Rattle.ob_base.specs.Optional.{◌>>=◌}
use Rattle.ob_base.specs.declared.id.FieldId.{FieldId}
use Rattle.ob_base.specs.declared.id.StateId.{StateId}
use Rattle.ob_heap_spec.specs.Values.{Value, Numbered}
use Rattle.ob_heap_spec.specs.Contents.{object_at}
use Rattle.ob_heap_spec.specs.Objects.{Object, with_field}
use Rattle.ob_heap_spec.specs.Worlds.{World, edit_object}
use Rattle.ob_code.specs.declared.image.ContractCode.{ContractCode}
use Rattle.ob_code.specs.declared.image.Image.{Image}
use Rattle.ob_code.specs.Code.{contract_code}
use Rattle.ob_code_table.specs.Images.{has_field_code}
use Rattle.ob_machine_steps.specs.Slots.{Slots, value_at}
use Rattle.ob_machine_steps.specs.Changing.{GivenSlots}

-- whether a field of an object is available in its state, if its contract is there
abbrev pub is_storable : Image → FieldId → Object → Option Bool
is_storable image field o = contract_code image o.contract >>= λ own. Some (has_field_code own o.state field.0)

-- a field of the object of a number, which is available in its state, gets what a slot holds
abbrev pub stored : Image → FieldId → ℕ → ℕ → Slots → World → Option World
stored image field a n slots w =
    object_at w.objects n >>= λ o.
    is_storable image field o >>= λ may.
    if may then (value_at slots a >>= λ v. Some (edit_object (with_field field.0 v) n w)) else None

-- whether a slot is set
abbrev pub is_set : Slots → ℕ → Bool
is_set slots k = is_some (value_at slots k)

-- whether each slot that is given to a field is set
abbrev pub are_given : Slots → GivenSlots → Bool
are_given slots given = list_all (λ g. is_set slots g.1) given

-- what an object keeps in a state: the values of the fields that are available there
abbrev pub kept_in : ContractCode → StateId → Numbered Value → Numbered Value
kept_in own state fields = λ k. if has_field_code own (Some state) k then fields k else None
