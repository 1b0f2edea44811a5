use Rattle.std.proofs.Common.{◌≡◌, ◌++◌, drop}
use Rattle.ob_flow_premises.specs.Loops.{all_kinds}
use Rattle.ob_flow_premises.proofs.looping.all_kinds.Given as goal

abbrev pub invariant-loop-one : goal.invariant-loop-one
invariant-loop-one l = l.kinds ++ all_kinds (drop l.one-index l.known) ≡ all_kinds l.known
