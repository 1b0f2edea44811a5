use Rattle.std.proofs.Common.{◌≡◌, take}
use Rattle.ob_lower_parts.specs.Visible.{newest_first, variable_at}
use Rattle.ob_lower_parts.proofs.variables.find.Given as goal

abbrev pub invariant-loop-index : goal.invariant-loop-index
invariant-loop-index l =
    variable_at (newest_first (take l.index l.variables)) l.local ≡ variable_at (newest_first l.variables) l.local
