-- The rules of calls and of `new` (Coblenz et al., TOPLAS 42(3), 2020, "Silica"; the premises and their order are this
-- project's own).
use Rattle.std.specs.Prelude.{ℕ, not, ◌||◌, List, ◌∷◌, ◌++◌, Option, Some, None, nat_lt, if◌then◌else◌}
use Rattle.ob_base.specs.Faults.{field_mismatch, under_test, this_in_constructor}
use Rattle.ob_base.specs.declared.fault.Span.{Span}
use Rattle.ob_base.specs.declared.id.ContractId.{ContractId}
use Rattle.ob_table.specs.declared.contract.ResolvedType.TheVariants.{Reference}
use Rattle.ob_table.specs.declared.contract.Signature.{Signature}
use Rattle.ob_table_spec.specs.WellFormed.{kind_of_resolved}
use Rattle.ob_silica.specs.declared.place.Operand.{Operand}
use Rattle.ob_silica_places.specs.Parameters.{parameters, all_parameters}
use Rattle.ob_silica_places.specs.Known.{known}
use Rattle.ob_silica_places.specs.Places.{slot, field, this}
use Rattle.ob_flow_spec.specs.Premises.{Premise, one, each}
use Rattle.ob_flow_spec.specs.Contexts.{BodyFrame, constructs, field_count, type_of_field, entry_of_field, exit_of_field, Context, put, known_as, is_held_as, maybe_there, TestedPlaces, tests_field}
use Rattle.ob_flow_spec.specs.Uses.{Read, uses_place}
use Rattle.ob_flow_spec.specs.Binding.{read_of, reads_of, each_once, keeps_fields, gives_all, given_all, passed, with_result}

-- Making an object: no argument stands twice, once of it for an owner, and each is given to its parameter.
abbrev pub makes_object : BodyFrame → TestedPlaces → Context → Signature → List Operand → List Premise
makes_object b ts g s args = each_once (reads_of args) (parameters s) ++ gives_all b ts g (reads_of args) (parameters s)

-- the context after a `new`: the slot has what the constructor gives
abbrev pub after_new : BodyFrame → Context → ℕ → ContractId → Signature → List Operand → Context
after_new b g k contract s args =
    put (passed b g (reads_of args) (parameters s)) (slot k) (Some (known_as (Reference contract s.exit)))

-- the receiver and the arguments of a call
abbrev pub all_reads : Operand → List Operand → List Read
all_reads receiver args = read_of receiver ∷ reads_of args

-- Calling a transaction of another object: the receiver is used, none of it and of the arguments stands twice, once of it
-- for an owner, and each is given.
abbrev pub calls_object : BodyFrame → TestedPlaces → Context → Operand → ContractId → Signature → List Operand → List Premise
calls_object b ts g receiver contract s args =
    uses_place b g (read_of receiver)
    ++ each_once (all_reads receiver args) (all_parameters contract s)
    ++ gives_all b ts g (all_reads receiver args) (all_parameters contract s)

-- the context after a call
abbrev pub after_call : BodyFrame → Context → Option ℕ → Operand → ContractId → Signature → List Operand → Context
after_call b g k receiver contract s args =
    with_result (passed b g (all_reads receiver args) (all_parameters contract s)) k s.result

-- `this` and the arguments of a call on `this`, whose faults about `this` stand at its own span
abbrev pub reads_with_this : Span → List Operand → List Read
reads_with_this at args = record { location = this; span = at } ∷ reads_of args

-- the context once `this` and the arguments were given
abbrev pub given_with_this : BodyFrame → Context → Span → Signature → List Operand → Context
given_with_this b g at s args = given_all g (reads_with_this at args) (all_parameters b.here s)

-- a field that may be there is held as the call wants it
abbrev pub enters_field : BodyFrame → Context → Context → Span → Signature → ℕ → List Premise
enters_field b before g at s f =
    one field_mismatch at (not (maybe_there b before f) || is_held_as (g (field f)) (entry_of_field b s f))

-- Calling a transaction of `this`: no constructor does; nothing stands twice, once of it for an owner, and no field is lent;
-- no field is under test; `this` and the arguments are given; and each field that may be there is held as the call wants it.
abbrev pub calls_this : BodyFrame → TestedPlaces → Context → Span → Signature → List Operand → List Premise
calls_this b ts g at s args =
    one this_in_constructor at (not (constructs b))
    ++ each_once (reads_with_this at args) (all_parameters b.here s)
    ++ keeps_fields (reads_of args) (parameters s)
    ++ one under_test at (not (tests_field ts))
    ++ gives_all b ts g (reads_with_this at args) (all_parameters b.here s)
    ++ each (field_count b) (enters_field b g (given_with_this b g at s args) at s)

-- each field has the permission with which the call leaves it
abbrev pub fields_left : BodyFrame → Signature → Context → Context
fields_left b s g (slot k) = g (slot k)
fields_left b s g (field f) =
    if nat_lt f (field_count b) then Some (known (kind_of_resolved (type_of_field b f)) (exit_of_field b s f)) else None

-- the context after a call on `this`
abbrev pub after_call_on_this : BodyFrame → Context → Span → Option ℕ → Signature → List Operand → Context
after_call_on_this b g at k s args =
    with_result (fields_left b s (passed b g (reads_with_this at args) (all_parameters b.here s))) k s.result
