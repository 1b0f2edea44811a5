use Rattle.std.proofs.Common.{◌≡◌}
use Rattle.ob_flow_spec.specs.Premises.{first_failing}
use Rattle.ob_flow_spec.specs.Returning.{leaves_params}
use Rattle.ob_flow_context.specs.View.{context_of}
use Rattle.ob_flow_premises.proofs.ParamLemmas.{params_from}
use Rattle.ob_flow_premises.proofs.returning.leaves_params.Given as goal

abbrev pub invariant-loop-number : goal.invariant-loop-number
invariant-loop-number l = first_failing (leaves_params l.frame (context_of l.context) l.at 1 l.params)
    ≡ first_failing (params_from l.frame (context_of l.context) l.at l.params l.number)
