use Rattle.std.proofs.Common.{◌∙◌, arith}
use Rattle.std.proofs.lemmas.Result.{err_from_is_err_and}
use Rattle.ob_flow_context.proofs.OnceLemmas.{once_turn_at, once_fails_at}
use Rattle.ob_flow_context.proofs.once.each_once.Goals as goal

pub returns-in_err-must : goal.returns-in_err-must
returns-in_err-must c =
    let failed = err_from_is_err_and c.from_residual.result c.from_residual.ensures.1 in
    rw (failed.1, failed.2) (once_fails_at c.args.reads.now c.args.params.now c.loop-i.i _
    c.is_again-again.result c.in_err-must.field-0.0 (omega arith) c.is_again-again.ensures c.loop-i.invariant
    c.in_err-must.ensures)

pub loop-i-preserved : goal.loop-i-preserved
loop-i-preserved c = c.loop-i.invariant ∙ once_turn_at c.args.reads.now c.args.params.now c.loop-i.i _
    c.is_again-again.result (omega arith) c.is_again-again.ensures c.in_ok-must.ensures
