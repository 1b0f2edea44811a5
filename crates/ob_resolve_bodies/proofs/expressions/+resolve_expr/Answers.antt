use Rattle.std.proofs.Common.{map, ap, ◌∙◌}
use Rattle.ob_tree.specs.ExprsView.{exprs_of}
use Rattle.ob_table.specs.ExpressionsView.{expression_of}
use Rattle.ob_resolve_spec.specs.Bodies.{resolved_args}
use Rattle.ob_resolve_scope.specs.Around.{around_of}
use Rattle.ob_resolve_bodies.proofs.ResolvedLemmas.{call_made, args_turn, args_all}
use Rattle.ob_resolve_bodies.proofs.expressions.+resolve_expr.Goals as goal

pub resolve_call-returns : goal.resolve_call-returns
resolve_call-returns t c =
    let given = c.in_ok-args.ensures ∙ ap (λ es. resolved_args (around_of c.args.around.now) c.args.scope.now
    (exprs_of es)) c.as_slice.ensures in
    call_made (around_of c.args.around.now) c.args.scope.now c.args.call.now c.args.span c.kind_of_receiver-kind.result
    c.in_ok-receiver.receiver c.in_ok-contract.contract c.in_ok-tx.tx c.in_ok-args.args c.in_ok-receiver.ensures
    c.kind_of_receiver-kind.ensures c.in_ok-contract.ensures c.in_ok-tx.ensures given

pub resolve_args-loop-arg-preserved : goal.resolve_args-loop-arg-preserved
resolve_args-loop-arg-preserved t c =
    rw c.in_ok-push.ensures.ok (args_turn (around_of c.args.around.now) c.args.scope.now c.loop-arg.resolved
    c.in_ok-resolve_expr.field-0 c.args.args.now c.loop-arg.arg-index c.arg-item.result c.loop-arg-test.true
    c.arg-item.is c.in_ok-resolve_expr.ensures ∙ c.loop-arg.invariant)

pub resolve_args-returns : goal.resolve_args-returns
resolve_args-returns t c =
    args_all (around_of c.args.around.now) c.args.scope.now
    (map expression_of c.loop-arg.resolved) c.args.args.now c.loop-arg.arg-index c.loop-arg-test.false
    ∙ c.loop-arg.invariant
