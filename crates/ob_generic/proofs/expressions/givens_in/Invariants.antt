use Rattle.std.proofs.Common.{◌≡◌, take, map}
use Rattle.ob_tree.specs.StmtsView.{given_of}
use Rattle.ob_generic_spec.specs.InstanceBodies.{given_in}
use Rattle.ob_generic.proofs.expressions.givens_in.Given as goal

abbrev pub invariant-loop-one : goal.invariant-loop-one
invariant-loop-one l = map given_of l.out ≡ map (given_in l.own) (map given_of (take l.one-index l.given))
