-- What holds where a call or a `new` derives (Coblenz et al., TOPLAS 42(3), 2020, "Silica"; the facts are this
-- project's own).
use Rattle.std.specs.Prelude.{ℕ, ◌<◌, List, IsTrue, IsFalse}
use Rattle.ob_base.specs.declared.fault.Span.{Span}
use Rattle.ob_base.specs.declared.id.ContractId.{ContractId}
use Rattle.ob_table.specs.declared.contract.Signature.{Signature}
use Rattle.ob_silica.specs.declared.place.Operand.{Operand}
use Rattle.ob_silica_places.specs.Parameters.{parameters, all_parameters}
use Rattle.ob_silica_places.specs.Places.{field, located}
use Rattle.ob_flow_spec.specs.Contexts.{BodyFrame, constructs, field_count, entry_of_field, Context, is_held_as, maybe_there, TestedPlaces, tests_field}
use Rattle.ob_flow_spec.specs.Binding.{reads_of}
use Rattle.ob_flow_spec.specs.Calling.{all_reads, reads_with_this, given_with_this}
use Rattle.ob_flow_laws.specs.Uses.{CanUse}
use Rattle.ob_flow_laws.specs.Binding.{EachOnce, KeepsFields, CanGiveAll}

-- an object can be made: no argument stands twice, once of it for an owner, and each can be given to its parameter
pub record CanMake (b : BodyFrame) (ts : TestedPlaces) (g : Context) (s : Signature)
    (args : List Operand) : Type 0 where
  pub once : EachOnce (reads_of args) (parameters s)
  pub gives : CanGiveAll b ts g (reads_of args) (parameters s)

-- A transaction of another object can be called: the receiver can be used, none of it and of the arguments stands
-- twice, once of it for an owner, and each can be given.
pub record CanCall (b : BodyFrame) (ts : TestedPlaces) (g : Context) (receiver : Operand) (contract : ContractId)
    (s : Signature) (args : List Operand) : Type 0 where
  pub usable : CanUse b g (located receiver)
  pub once : EachOnce (all_reads receiver args) (all_parameters contract s)
  pub gives : CanGiveAll b ts g (all_reads receiver args) (all_parameters contract s)

-- A transaction of `this` can be called: no constructor runs; nothing stands twice, once of it for an owner, and no
-- field is lent; no field is under test; `this` and the arguments can be given; and each field that may be there is
-- then held as the call wants it.
pub record CanCallThis (b : BodyFrame) (ts : TestedPlaces) (g : Context) (at : Span) (s : Signature)
    (args : List Operand) : Type 0 where
  pub no_constructor : IsFalse (constructs b)
  pub once : EachOnce (reads_with_this at args) (all_parameters b.here s)
  pub keeps : KeepsFields (reads_of args) (parameters s)
  pub untested : IsFalse (tests_field ts)
  pub gives : CanGiveAll b ts g (reads_with_this at args) (all_parameters b.here s)
  pub enters : (f : ℕ) → f < field_count b → IsTrue (maybe_there b g f)
      → IsTrue (is_held_as (given_with_this b g at s args (field f)) (entry_of_field b s f))
