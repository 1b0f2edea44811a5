use Rattle.std.proofs.Common.{◌≡◌, drop}
use Rattle.ob_tree.specs.ExprsView.{exprs_of}
use Rattle.ob_generic_spec.specs.Uses.{types_in_exprs}
use Rattle.ob_generic_walk.specs.Seen.{met}
use Rattle.ob_generic_walk.proofs.expressions.+walk.Given as goal

abbrev pub invariant-walk_args-loop-arg : goal.invariant-walk_args-loop-arg
invariant-walk_args-loop-arg l =
    met l.around l.found (types_in_exprs (exprs_of (drop l.arg-index l.args)))
    ≡ met l.around l.fn.found (types_in_exprs (exprs_of l.args))
