use Rattle.std.proofs.Common.{◌≡◌, drop, length}
use Rattle.ob_tree.specs.ExprsView.{exprs_of}
use Rattle.ob_resolve_spec.specs.ExpressionSites.{needed_args}
use Rattle.ob_resolve_scope.specs.Around.{around_of}
use Rattle.ob_resolve_sites.specs.Noted.{noted}
use Rattle.ob_resolve_statements.proofs.expressions.walk_needed.Given as goal

abbrev pub invariant-loop-kind : goal.invariant-loop-kind
invariant-loop-kind l =
    noted l.least
    (needed_args (around_of l.around) l.scope (drop (length l.yielded) l.kinds)
    (exprs_of (drop (length l.yielded) l.args)))
    ≡ noted l.fn.least (needed_args (around_of l.around) l.scope l.kinds (exprs_of l.args))
