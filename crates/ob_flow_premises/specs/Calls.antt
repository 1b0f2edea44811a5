-- Parts of the rules of calls that the check works out on their own.
use Rattle.std.specs.Prelude.{ℕ, Option, Some, None, nat_lt, if◌then◌else◌, not, List, ◌++◌}
use Rattle.ob_base.specs.Faults.{under_test, this_in_constructor}
use Rattle.ob_base.specs.declared.fault.Span.{Span}
use Rattle.ob_table.specs.declared.contract.Signature.{Signature}
use Rattle.ob_table_spec.specs.WellFormed.{kind_of_resolved}
use Rattle.ob_silica.specs.declared.place.Operand.{Operand}
use Rattle.ob_silica_places.specs.Known.{Known, known}
use Rattle.ob_silica_places.specs.Parameters.{Parameter, parameters}
use Rattle.ob_flow_spec.specs.Contexts.{BodyFrame, field_count, type_of_field, exit_of_field, constructs, Context, TestedPlaces, tests_field}
use Rattle.ob_flow_spec.specs.Premises.{Premise, one, each}
use Rattle.ob_flow_spec.specs.Uses.{Read, uses_place}
use Rattle.ob_flow_spec.specs.Binding.{read_of, reads_of, each_once, keeps_fields, gives_all, given_all}
use Rattle.ob_flow_spec.specs.Calling.{enters_field}

-- what is known of a field that a call on `this` leaves
abbrev pub field_after : BodyFrame → Signature → ℕ → Option Known
field_after b s f = Some (known (kind_of_resolved (type_of_field b f)) (exit_of_field b s f))

-- the same for all of the contract's fields, and nothing of others
abbrev pub fields_after : BodyFrame → Signature → ℕ → Option Known
fields_after b s f = if nat_lt f (field_count b) then field_after b s f else None

-- what a call is asked for before anything is given
abbrev pub may_call : BodyFrame → Context → Operand → List Read → List Parameter → List Premise
may_call b g receiver rs ps = uses_place b g (read_of receiver) ++ each_once rs ps

-- what a call on `this` is asked for before anything is given
abbrev pub may_call_this : BodyFrame → TestedPlaces → Span → Signature → List Operand → List Read → List Parameter
    → List Premise
may_call_this b ts at s args rs ps =
    one this_in_constructor at (not (constructs b))
    ++ each_once rs ps
    ++ keeps_fields (reads_of args) (parameters s)
    ++ one under_test at (not (tests_field ts))

-- places are given to parameters: none stands twice, once of it for an owner, and each is given
abbrev pub passes : BodyFrame → TestedPlaces → Context → List Read → List Parameter → List Premise
passes b ts g rs ps = each_once rs ps ++ gives_all b ts g rs ps

-- what a call is asked for
abbrev pub calls_with : BodyFrame → TestedPlaces → Context → Operand → List Read → List Parameter → List Premise
calls_with b ts g receiver rs ps = may_call b g receiver rs ps ++ gives_all b ts g rs ps

-- what a call on `this` is asked for
abbrev pub enters : BodyFrame → TestedPlaces → Context → Span → Signature → List Operand → List Read → List Parameter
    → List Premise
enters b ts g at s args rs ps =
    may_call_this b ts at s args rs ps
    ++ gives_all b ts g rs ps
    ++ each (field_count b) (enters_field b g (given_all g rs ps) at s)
