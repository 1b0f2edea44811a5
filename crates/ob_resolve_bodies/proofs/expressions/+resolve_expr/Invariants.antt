use Rattle.std.proofs.Common.{◌≡◌, map, drop}
use Rattle.ob_tree.specs.ExprsView.{exprs_of}
use Rattle.ob_table.specs.ExpressionsView.{expression_of}
use Rattle.ob_resolve_spec.specs.Bodies.{resolved_args}
use Rattle.ob_resolve_scope.specs.Around.{around_of}
use Rattle.ob_resolve_bodies.specs.Resolved.{before_arguments}
use Rattle.ob_resolve_bodies.proofs.expressions.+resolve_expr.Given as goal

abbrev pub invariant-resolve_args-loop-arg : goal.invariant-resolve_args-loop-arg
invariant-resolve_args-loop-arg l =
    before_arguments (map expression_of l.resolved) (resolved_args (around_of l.around) l.scope
    (exprs_of (drop l.arg-index l.args)))
    ≡ resolved_args (around_of l.around) l.scope (exprs_of l.args)
