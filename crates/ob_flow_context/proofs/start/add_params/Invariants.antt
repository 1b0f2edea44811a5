use Rattle.std.proofs.Common.{◌≡◌, ◌++◌, take}
use Rattle.ob_flow_context.specs.View.{all_known}
use Rattle.ob_flow_context.proofs.BeginningLemmas.{params_in_order}
use Rattle.ob_flow_context.proofs.start.add_params.Given as goal

abbrev pub invariant-loop-param : goal.invariant-loop-param
invariant-loop-param l = all_known l.known ≡ all_known l.fn.known ++ params_in_order (take l.param-index l.params)
