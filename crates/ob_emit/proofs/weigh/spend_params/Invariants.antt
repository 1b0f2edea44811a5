use Rattle.std.proofs.Common.{◌≡◌, ◌+◌, drop}
use Rattle.ob_weight_laws.specs.Counting.{size_of_params}
use Rattle.ob_emit.proofs.weigh.spend_params.Given as goal

abbrev pub invariant-loop-param : goal.invariant-loop-param
invariant-loop-param l = l.left + size_of_params l.params ≡ l.fn.left + size_of_params (drop l.param-index l.params)
