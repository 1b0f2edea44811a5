use Rattle.std.proofs.Common.{arith}
use Rattle.std.proofs.lemmas.Result.{err_from_is_err_and}
use Rattle.ob_flow_context.specs.View.{context_of, tested_of}
use Rattle.ob_flow_context.proofs.ListLemmas.{giving_turn_at, giving_fails_at}
use Rattle.ob_flow_context.proofs.lists.give_all.Goals as goal

pub returns-in_err-give : goal.returns-in_err-give
returns-in_err-give c =
    let failed = err_from_is_err_and c.from_residual.result c.from_residual.ensures.1 in
    rw (failed.1, failed.2) (giving_fails_at c.args.frame.now (tested_of c.args.tested.now)
    (context_of c.args.context.now) c.args.reads.now c.args.params.now c.loop-i.i (context_of c.loop-i.context) _ _
    c.in_err-give.field-0.0 (omega arith) (omega arith) c.loop-i.invariant c.in_err-give.ensures)

pub loop-i-preserved : goal.loop-i-preserved
loop-i-preserved c = giving_turn_at c.args.frame.now (tested_of c.args.tested.now) (context_of c.args.context.now) c.args.reads.now
    c.args.params.now c.loop-i.i (context_of c.loop-i.context) (context_of c.give.new.context) _ _ (omega arith) (omega arith)
    c.loop-i.invariant c.in_ok-give.ensures
