-- How much text the instances of a program are made of, and how much that may be (this project's own).
use Rattle.std.specs.Prelude.{ℕ, ◌+◌, ◌-◌, ◌*◌, ◌/◌, Bool, not, ◌&&◌, ◌||◌, nat_lt, List, length, is_some}
use Rattle.std.specs.List.{sum_by}
use Rattle.std.specs.Option.{option_map_or}
use Rattle.ob_base.specs.Limits.{most_copied, most_walked}
use Rattle.ob_tree.specs.Members.{Contract}
use Rattle.ob_tree.specs.declared.name.PermNode.{PermNode}
use Rattle.ob_tree.specs.declared.name.PermNode.TheVariants.{Mode, States}
use Rattle.ob_resolve_spec.specs.Declarations.{Program, declared_contract}
use Rattle.ob_generic_spec.specs.Instances.{instances_of}
use Rattle.ob_generic_spec.specs.TypeFaults.{least_type_fault}
use Rattle.ob_generic_spec.specs.declared.instance.Instance.{Instance}

-- the bytes of a contract or an interface: from its name to its closing brace
abbrev pub bytes_of_contract : Contract → ℕ
bytes_of_contract c = c.end.end - c.span.start

-- how many states stand in the place of a permission parameter: none for a mode
abbrev pub count_of_states : PermNode → ℕ
count_of_states (Mode mode span) = 0
count_of_states (States states) = length states

-- how many times an instance counts these bytes: once more for each 4 states of its argument, and once more for each 512 bytes of
-- its name, since these may stand wherever a parameter does
abbrev pub times_copied : Instance → ℕ
times_copied x = 1 + count_of_states x.argument.perm / 4 + length x.name / 512

-- the bytes that an instance is made of
abbrev pub copied_by : Program → Instance → ℕ
copied_by program x =
    option_map_or (λ c. bytes_of_contract c * times_copied x) (declared_contract program x.contract) 0

-- the bytes that instances are made of
abbrev pub copied_by_all : Program → List Instance → ℕ
copied_by_all program = sum_by (copied_by program)

-- whether the instances of a program are made of too much text: of more than is looked through, or, where no type has a fault, of
-- more than their tree may be made of
abbrev pub is_too_much_text : Program → Bool
is_too_much_text program =
    nat_lt most_walked (copied_by_all program (instances_of program))
    || not (is_some (least_type_fault program)) && nat_lt most_copied (copied_by_all program (instances_of program))
