-- What a body runs in (Coblenz et al., TOPLAS 42(3), 2020, "Dynamic semantics"; how it is given is this project's own).
use Rattle.std.specs.Prelude.{ℕ, suc, Bool, List, [], ◌∷◌, Option}
use Rattle.ob_base.specs.declared.id.ContractId.{ContractId}
use Rattle.ob_base.specs.declared.id.TxId.{TxId}
use Rattle.ob_table.specs.Tables.{ClassTable}
use Rattle.ob_table.specs.declared.seen.Seen.{Seen}
use Rattle.ob_table.specs.declared.seen.Kind.{Kind}
use Rattle.ob_table.specs.declared.contract.Contract.{Contract}
use Rattle.ob_table.specs.declared.contract.Param.{Param}
use Rattle.ob_table_spec.specs.WellFormed.{kind_of_resolved}
use Rattle.ob_heap_spec.specs.Values.{Value, Numbered, nothing, put}
use Rattle.ob_heap_spec.specs.Worlds.{World, RunOutcome}

-- what stays while a body runs: the class table, the number of `this`, the number of its contract and the contract, and
-- whether the body is share-entered: whether it was called on an object that others share
pub record SourceFrame : Type 0 where
  pub table : ClassTable
  pub this : ℕ
  pub here : ContractId
  pub own : Contract
  pub share_entered : Bool

-- a variable: its value, and its declared kind
pub record SourceVariable : Type 0 where
  pub value : Value
  pub kind : Kind

-- an operand of a call or a state change: its value, or the name of a reference, whose value is read last
pub data SourceOperand : Type 0 where
  known : Value → SourceOperand
  named : Seen → SourceOperand

-- a field, by its number, that a state change gives an operand
abbrev pub SourceGiven : Type 0
SourceGiven = ℕ × SourceOperand

-- what statements change of a frame: the variables by their numbers, and what staged statements have given so far
pub record Locals : Type 0 where
  pub variables : Numbered SourceVariable
  pub staged : List SourceGiven

-- the variables of parameters, numbered from k
abbrev pub variables_from : ℕ → List Param → List Value → Numbered SourceVariable
variables_from k [] values = nothing
variables_from k (p ∷ params) [] = nothing
variables_from k (p ∷ params) (v ∷ values) =
    put (variables_from (suc k) params values) k (record { value = v; kind = kind_of_resolved p.of })

-- what a body starts with: its parameters, numbered from 1
abbrev pub first_locals : List Param → List Value → Locals
first_locals params values = record { variables = variables_from 1 params values; staged = [] }

-- what is called: a transaction of an object, by the number that its declared contract or interface has for it; one of
-- `this`; the constructor of a contract
pub data Callee : Type 0 where
  of_object : ℕ → ContractId → TxId → Callee
  of_this : SourceFrame → TxId → Callee
  of_new : ContractId → Callee

-- the meaning of calls: what a call with these arguments comes to, with its result if it has one
abbrev pub Calls : Type 0
Calls = Callee → List Value → World → RunOutcome (Option Value)

-- what a statement comes to: the body goes on, or it returns, with a value or without one
pub data Flow : Type 0 where
  goes_on : Locals → Flow
  returns : Option Value → Flow
