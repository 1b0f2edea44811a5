use Rattle.std.proofs.Common.{◌≡◌, ◌+◌, drop}
use Rattle.ob_lower_spec.specs.Forms.{params_from}
use Rattle.ob_lower_parts.specs.Visible.{newest_first}
use Rattle.ob_lower_parts.proofs.variables.Variables.of_params.Given as goal

abbrev pub invariant-loop-index : goal.invariant-loop-index
invariant-loop-index l = newest_first l.items.items ≡ params_from (l.index + 1) (drop l.index l.params)
