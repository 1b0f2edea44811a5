-- What a body does up to its return, and the marks of what comes in and goes out (Coblenz et al., TOPLAS 42(3), 2020,
-- "Dynamic semantics"; marks are this project's own).
use Rattle.std.specs.Prelude.{ℕ, List, [], ◌∷◌, Option, Some, None}
use Rattle.ob_base.specs.declared.id.ContractId.{ContractId}
use Rattle.ob_base.specs.declared.id.TxId.{TxId}
use Rattle.ob_base.specs.declared.permission.Perm.{Perm}
use Rattle.ob_table.specs.Tables.{body_at}
use Rattle.ob_table.specs.declared.contract.ResolvedType.{ResolvedType}
use Rattle.ob_table.specs.declared.contract.ResolvedType.TheVariants.{Reference}
use Rattle.ob_table.specs.declared.contract.Param.{Param}
use Rattle.ob_table.specs.declared.contract.Signature.{Signature}
use Rattle.ob_heap_spec.specs.Values.{Value, reference}
use Rattle.ob_heap_spec.specs.Worlds.{World, RunOutcome, gives, ◌>>=◌, if_right, with_some}
use Rattle.ob_heap_spec.specs.Marks.{comes_into}
use Rattle.ob_source_meaning.specs.Frames.{SourceFrame, first_locals, Calls, Flow, goes_on, returns}
use Rattle.ob_heap_spec.specs.GoingWrong.{may_return}
use Rattle.ob_source_meaning.specs.Statements.{run_all}

-- Marks of what comes in and goes out.

-- arguments come into their parameters, one after another
abbrev pub args_come : List Param → List Value → World → World
args_come [] args w = w
args_come (p ∷ params) [] w = w
args_come (p ∷ params) (v ∷ args) w = args_come params args (comes_into p.of v w)

-- the object of a number comes into a call as `this`, or out of a constructor, with this permission
abbrev pub this_comes : ContractId → Perm → ℕ → World → World
this_comes contract p n w = comes_into (Reference contract p) (reference n) w

-- a result goes out as it is declared
abbrev pub result_goes : Option ResolvedType → Option Value → World → World
result_goes (Some kind) (Some v) w = comes_into kind v w
result_goes kind v w = w

-- what comes into a call: the receiver, and then the arguments
abbrev pub comes_in : ContractId → Signature → ℕ → List Value → World → World
comes_in contract s n args w = args_come s.params args (this_comes contract s.entry n w)

-- Bodies.

-- the result with which a body ends
abbrev pub result_of : Flow → Option Value
result_of (goes_on ls) = None
result_of (returns result) = result

-- what a body comes to, up to its return
abbrev pub run_body : Calls → SourceFrame → TxId → Signature → List Value → World → RunOutcome (Option Value)
run_body calls f tx s args w =
    with_some (body_at f.table f.here tx)
    (λ body. run_all calls f body.statements (first_locals s.params args) w
    >>= (λ flow w1. if_right (may_return f.table w1.objects f.here s f.this args (result_of flow))
    (gives (result_of flow) w1)))

-- a transaction of `this`: the body, and then the mark of its result
abbrev pub run_transaction : Calls → SourceFrame → TxId → Signature → List Value → World → RunOutcome (Option Value)
run_transaction calls f tx s args w =
    run_body calls f tx s args w >>= (λ result w1. gives result (result_goes s.result result w1))
