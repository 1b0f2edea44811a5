use Rattle.std.proofs.Common.{◌≡◌, drop}
use Rattle.ob_tree.specs.ExprsView.{exprs_of}
use Rattle.ob_resolve_spec.specs.ExpressionSites.{args_sites}
use Rattle.ob_resolve_scope.specs.Around.{around_of}
use Rattle.ob_resolve_sites.specs.Noted.{noted}
use Rattle.ob_resolve_statements.proofs.expressions.+walk.Given as goal

abbrev pub invariant-walk_args-loop-arg : goal.invariant-walk_args-loop-arg
invariant-walk_args-loop-arg l =
    noted l.least (args_sites (around_of l.around) l.scope (exprs_of (drop l.arg-index l.args)))
    ≡ noted l.fn.least (args_sites (around_of l.around) l.scope (exprs_of l.args))
