use Rattle.std.proofs.Common.{◌≡◌, drop, map}
use Rattle.std.specs.List.{flat_map}
use Rattle.ob_tree.specs.StmtsView.{given_of}
use Rattle.ob_generic_spec.specs.Uses.{types_in_given}
use Rattle.ob_generic_walk.specs.Seen.{met}
use Rattle.ob_generic_walk.proofs.statements.walk_givens.Given as goal

abbrev pub invariant-loop-one : goal.invariant-loop-one
invariant-loop-one l =
    met l.around l.found (flat_map types_in_given (map given_of (drop l.one-index l.given)))
    ≡ met l.around l.fn.found (flat_map types_in_given (map given_of l.given))
