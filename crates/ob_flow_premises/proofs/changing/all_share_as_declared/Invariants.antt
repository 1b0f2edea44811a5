use Rattle.std.proofs.Common.{◌≡◌, drop}
use Rattle.ob_flow_spec.specs.Premises.{for_all, first_failing}
use Rattle.ob_flow_spec.specs.Changing.{shares_as_declared}
use Rattle.ob_flow_context.specs.View.{context_of}
use Rattle.ob_flow_premises.proofs.changing.all_share_as_declared.Given as goal

abbrev pub invariant-loop-one : goal.invariant-loop-one
invariant-loop-one l = first_failing (for_all l.given (shares_as_declared l.frame (context_of l.filled) (context_of l.context))) ≡ first_failing (for_all (drop l.one-index l.given) (shares_as_declared l.frame (context_of l.filled) (context_of l.context)))
