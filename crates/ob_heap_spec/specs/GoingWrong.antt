-- The five ways in which a run goes wrong: each is a test that fails where it goes so (Coblenz et al., TOPLAS 42(3),
-- 2020, where the rules have no step; the list is this project's own).
use Rattle.std.specs.Prelude.{ℕ, Bool, true, false, not, ◌&&◌, ◌||◌, ◌==◌, List, length, zip, Option, Some, is_some}
use Rattle.std.specs.Option.{option_map_or, option_and_then}
use Rattle.std.specs.List.{list_all}
use Rattle.ob_base.specs.declared.id.ContractId.{ContractId}
use Rattle.ob_base.specs.declared.id.StateId.{StateId}
use Rattle.ob_base.specs.declared.permission.Perm.{Perm}
use Rattle.ob_perm.specs.Permissions.{owns}
use Rattle.ob_perm.specs.Masks.{permission_of}
use Rattle.ob_table.specs.Statements.{Statement, resolved_stage, resolved_change, Statements, and_statement}
use Rattle.ob_table.specs.Tables.{ClassTable}
use Rattle.ob_table.specs.declared.contract.ResolvedType.{ResolvedType}
use Rattle.ob_table.specs.declared.contract.ResolvedType.TheVariants.{Reference}
use Rattle.ob_table.specs.declared.contract.Param.{Param}
use Rattle.ob_table.specs.declared.contract.Signature.{Signature}
use Rattle.ob_table.specs.declared.contract.Contract.{Contract}
use Rattle.ob_heap_spec.specs.Values.{Value, referred}
use Rattle.ob_heap_spec.specs.Objects.{Object, has_field, has_all_values, is_in_states}
use Rattle.ob_heap_spec.specs.Contents.{object_at}

-- 1. A field of `this` is read that its state lacks or that has no value, or assigned that its state lacks, or given
-- that the new state lacks.

-- (1) whether a field of an object can be read: it is available in its state, and has a value
abbrev pub is_readable : Contract → Object → ℕ → Bool
is_readable c o k = has_field c o.state k && is_some (o.fields k)

-- (1) whether it can be assigned: it is available in its state
abbrev pub is_assignable : Contract → Object → ℕ → Bool
is_assignable c o k = has_field c o.state k

-- (1) whether it can be given with a change to a state: it is available there
abbrev pub is_givable : Contract → StateId → ℕ → Bool
is_givable c s k = has_field c (Some s) k

-- 2. A state change leaves an available field without a value (`has_all_values`), or the end of a constructor does, or
-- that end leaves an object of a contract with states in none.

-- whether an object of a contract with states is in one
abbrev pub has_its_state : Contract → Object → Bool
has_its_state c o = length c.states == 0 || is_some o.state

-- (2) whether a constructor may end with its object so
abbrev pub is_finished : Contract → Object → Bool
is_finished c o = has_all_values c o && has_its_state c o

-- 3. At a call or a `new`, the object of an owning receiver or parameter is in none of its declared states.

-- whether the object of a number is in one of the states of a permission, if that is the owner's
abbrev pub is_held_within : ClassTable → List Object → ContractId → Perm → Option ℕ → Bool
is_held_within table objects contract p n =
    not (owns (permission_of p))
    || option_map_or (is_in_states table contract p) (option_and_then (object_at objects) n) false

-- the same of the object of a value, by its type
abbrev pub is_within : ClassTable → List Object → ResolvedType → Value → Bool
is_within table objects (Reference contract p) v = is_held_within table objects contract p (referred v)
is_within table objects kind v = true

-- (3) whether arguments may be passed to a call or a `new`
abbrev pub may_pass : ClassTable → List Object → List Param → List Value → Bool
may_pass table objects params args = list_all (λ pair. is_within table objects pair.0.of pair.1) (zip params args)

-- (3) whether a transaction of a contract may begin on the object of a number
abbrev pub may_begin : ClassTable → List Object → ContractId → Signature → ℕ → List Value → Bool
may_begin table objects here s this args =
    is_held_within table objects here s.entry (Some this) && may_pass table objects s.params args

-- 4. At a return, the object of an owning exit, of a result or of a constructor's result is in none of its declared
-- states.

-- the type of a parameter with the permission at the exit
abbrev pub type_at_exit : ResolvedType → Perm → ResolvedType
type_at_exit (Reference contract p) exit = Reference contract exit
type_at_exit kind exit = kind

-- whether the objects of the arguments are as they may be left
abbrev pub may_leave_args : ClassTable → List Object → List Param → List Value → Bool
may_leave_args table objects params args =
    list_all (λ pair. is_within table objects (type_at_exit pair.0.of pair.0.exit) pair.1) (zip params args)

-- whether the object of the result is as it is declared, if there is one
abbrev pub may_give : ClassTable → List Object → Option ResolvedType → Option Value → Bool
may_give table objects (Some kind) (Some v) = is_within table objects kind v
may_give table objects kind v = true

-- (4) whether a transaction or a constructor may return
abbrev pub may_return : ClassTable → List Object → ContractId → Signature → ℕ → List Value → Option Value → Bool
may_return table objects here s this args result =
    is_held_within table objects here s.exit (Some this)
    && may_leave_args table objects s.params args
    && may_give table objects s.result result

-- 5. A staged statement isn't followed by another one for the same state or by the change to it.

-- whether a row of staged statements for a state goes on so, up to the change to it
abbrev pub is_row : StateId → Statements → Bool
is_row s (and_statement (resolved_stage t given span) rest) = s.0 == t.0 && is_row s rest
is_row s (and_statement (resolved_change t given span) rest) = s.0 == t.0
is_row s rest = false

-- (5) whether a statement may have these after it
abbrev pub is_followed : Statement → Statements → Bool
is_followed (resolved_stage s given span) rest = is_row s rest
is_followed statement rest = true
