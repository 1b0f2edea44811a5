use Rattle.std.proofs.lemmas.Result.{err_from_is_err_and}
use Rattle.ob_flow_context.specs.View.{context_of, tested_of}
use Rattle.ob_flow.proofs.FormsLemmas.{value_fails, owning_fails}
use Rattle.ob_flow.proofs.returning.leave.Goals as goal

pub returns-in_err-give_value : goal.returns-in_err-give_value
returns-in_err-give_value c =
    let failed = err_from_is_err_and c.from_residual.result c.from_residual.ensures.1 in
    rw (failed.1, failed.2) (value_fails c.args.frame.now (tested_of c.args.tested.now) (context_of c.args.context.now)
    c.args.at c.args.value c.in_err-give_value.field-0.0 c.in_err-give_value.ensures)

pub returns-in_err-still_own : goal.returns-in_err-still_own
returns-in_err-still_own c =
    let failed = err_from_is_err_and c.from_residual-in_err-still_own.result c.from_residual-in_err-still_own.ensures.1 in
    rw (failed.1, failed.2) (owning_fails c.args.frame.now (tested_of c.args.tested.now) (context_of c.args.context.now)
    (context_of c.give_value.new.context) c.args.at c.args.value c.in_err-still_own.field-0.0
    c.in_ok-give_value.ensures.0 c.in_ok-give_value.ensures.1 c.in_err-still_own.ensures)
