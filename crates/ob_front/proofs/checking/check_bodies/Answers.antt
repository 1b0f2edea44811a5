use Rattle.std.proofs.lemmas.Result.{err_from_is_err_and}
use Rattle.ob_front.proofs.MiddleTurns.{numbered_at, fails_here, derives_turn, end_derives}
use Rattle.ob_front.proofs.checking.check_bodies.Goals as goal

pub check-requires-clause-states : goal.check-requires-clause-states
check-requires-clause-states c =
    numbered_at c.args.bodies.now c.loop-body.body-index c.body-item.result c.loop-body-test.true c.body-item.is c.requires.states

pub returns-in_err-check-clause-fault : goal.returns-in_err-check-clause-fault
returns-in_err-check-clause-fault c =
    let failed = err_from_is_err_and c.from_residual.result c.from_residual.ensures.1 in
    rw (failed.1, failed.2)
    (fails_here c.args.table.now c.args.bodies.now c.loop-body.body-index c.body-item.result _ c.loop-body-test.true c.body-item.is
    c.loop-body.invariant c.in_err-check.ensures.fault)

pub loop-body-preserved : goal.loop-body-preserved
loop-body-preserved c =
    derives_turn c.args.table.now c.args.bodies.now c.loop-body.body-index c.body-item.result _ c.loop-body-test.true c.body-item.is
    c.in_ok-check.ensures.derives c.loop-body.invariant

pub returns-clause-derive : goal.returns-clause-derive
returns-clause-derive c = end_derives c.args.table.now c.args.bodies.now c.loop-body.body-index c.loop-body-test.false c.loop-body.invariant
