use Rattle.ob_verify_spec.proofs.Passes.{weight, ComesToKnown}
use Rattle.ob_verify.proofs.known.settle.Given as goal

abbrev pub invariant-loop-rows : goal.invariant-loop-rows
invariant-loop-rows l = ComesToKnown l.frame l.rows.items

abbrev pub decreases-loop-rows : goal.decreases-loop-rows
decreases-loop-rows l = weight l.frame l.rows.items
