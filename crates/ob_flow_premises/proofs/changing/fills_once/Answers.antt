use Rattle.std.proofs.Common.{◌∙◌}
use Rattle.std.proofs.lemmas.Result.{err_from_is_err_and}
use Rattle.ob_flow_premises.proofs.GivenLemmas.{once_turn_at, once_fails_at}
use Rattle.ob_flow_premises.proofs.changing.fills_once.Goals as goal

pub returns-in_err-fills_once_at : goal.returns-in_err-fills_once_at
returns-in_err-fills_once_at c =
    let failed = err_from_is_err_and c.from_residual.result c.from_residual.ensures.1 in
    rw (failed.1, failed.2) (once_fails_at c.args.frame.now c.args.given.now c.loop-number.number
    c.in_err-fills_once_at.field-0.0 c.loop-number-test.true c.loop-number.invariant c.in_err-fills_once_at.ensures)

pub loop-number-preserved : goal.loop-number-preserved
loop-number-preserved c = c.loop-number.invariant ∙ once_turn_at c.args.frame.now c.args.given.now c.loop-number.number
    c.loop-number-test.true c.in_ok-fills_once_at.ensures
