use Rattle.std.proofs.lemmas.Result.{err_from_is_err_and}
use Rattle.ob_flow.proofs.BodyLemmas.{fails_body}
use Rattle.ob_flow.proofs.bodies.check.Goals as goal

pub returns-in_err-check_terms-clause-fault : goal.returns-in_err-check_terms-clause-fault
returns-in_err-check_terms-clause-fault c =
    let failed = err_from_is_err_and c.from_residual-in_err-check_terms.result c.from_residual-in_err-check_terms.ensures.1 in
    rw (failed.1, failed.2)
    (fails_body c.args.table.now c.args.body.now c.in-Some.frame c.as_slice.result.now c.as_slice-2.result.now c.new-tested.result _ _
    c.in-Some.ensures c.as_slice.ensures c.as_slice-2.ensures c.new-tested.ensures c.in_ok-context.ensures c.in_err-check_terms.ensures)
