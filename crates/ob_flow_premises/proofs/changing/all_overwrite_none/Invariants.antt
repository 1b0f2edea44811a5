use Rattle.std.proofs.Common.{◌≡◌, drop}
use Rattle.ob_flow_spec.specs.Premises.{for_all, first_failing}
use Rattle.ob_flow_spec.specs.Changing.{overwrites_none}
use Rattle.ob_flow_context.specs.View.{context_of}
use Rattle.ob_flow_premises.proofs.changing.all_overwrite_none.Given as goal

abbrev pub invariant-loop-one : goal.invariant-loop-one
invariant-loop-one l = first_failing (for_all l.given (overwrites_none l.frame (context_of l.context))) ≡ first_failing (for_all (drop l.one-index l.given) (overwrites_none l.frame (context_of l.context)))
