use Rattle.std.proofs.Common.{arith}
use Rattle.ob_disk_spec.proofs.Behind.{behind_then}
use Rattle.ob_journal.proofs.Appends.{body_during, both_during, both_held}
use Rattle.ob_journal.proofs.appending.put_record.Goals as goal

pub returns-in_err-durable_write-clause-crash : goal.returns-in_err-durable_write-clause-crash
returns-in_err-durable_write-clause-crash g c = λ size place j closed payload is was.
    body_during size place j closed payload c.args.gate c.args.built.now is _ was _ c.durable_write.ensures.crash

pub returns-in_err-durable_write-2-clause-crash : goal.returns-in_err-durable_write-2-clause-crash
returns-in_err-durable_write-2-clause-crash g c = λ size place j closed payload is was.
    both_during size place j closed payload c.args.gate c.args.built.now is _ was _ c.in_ok-durable_write.ensures.written _ c.durable_write.ensures.crash c.durable_write-2.ensures.crash

pub returns-clause-crash : goal.returns-clause-crash
returns-clause-crash g c = λ size place j closed payload is was.
    both_during size place j closed payload c.args.gate c.args.built.now is _ was _ c.in_ok-durable_write.ensures.written _ c.durable_write.ensures.crash c.durable_write-2.ensures.crash

pub returns-clause-held : goal.returns-clause-held
returns-clause-held g c = λ size place j closed payload is was.
    both_held size place j closed payload c.args.gate c.args.built.now is _ was _ c.in_ok-durable_write.ensures.written _ c.in_ok-durable_write-2.ensures.written

pub returns-in_err-durable_write-clause-behind : goal.returns-in_err-durable_write-clause-behind
returns-in_err-durable_write-clause-behind g c = λ size within. c.durable_write.ensures.behind size (omega (arith, within))

pub returns-in_err-durable_write-2-clause-behind : goal.returns-in_err-durable_write-2-clause-behind
returns-in_err-durable_write-2-clause-behind g c = λ size within.
    behind_then size _ _ _ (c.durable_write.ensures.behind size (omega (arith, within))) (c.durable_write-2.ensures.behind size (omega (arith, within)))

pub returns-clause-behind : goal.returns-clause-behind
returns-clause-behind g c = λ size within.
    behind_then size _ _ _ (c.durable_write.ensures.behind size (omega (arith, within))) (c.durable_write-2.ensures.behind size (omega (arith, within)))
