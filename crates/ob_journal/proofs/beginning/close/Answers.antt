use Rattle.std.proofs.Common.{arith}
use Rattle.ob_disk_spec.proofs.Moments.{during_to, quiet}
use Rattle.ob_disk_spec.proofs.Behind.{behind_quiet, behind_then}
use Rattle.ob_journal.proofs.Opens.{twice_quiet, ready_before, ready_closed, gate_torn, gate_there, closed_over, kept_over}
use Rattle.ob_journal.proofs.beginning.close.Goals as goal

pub returns-in_err-sync-clause-crash : goal.returns-in_err-sync-clause-crash
returns-in_err-sync-clause-crash g c = λ o start was. quiet _ _ _ c.sync.ensures.quiet (ready_before o c.args.at start c.args.closed _ was)

pub returns-in_err-settle-clause-crash : goal.returns-in_err-settle-clause-crash
returns-in_err-settle-clause-crash g c = λ o start was. twice_quiet _ _ _ _ c.sync.ensures.quiet c.settle.ensures.quiet (ready_before o c.args.at start c.args.closed _ was)

pub returns-then-closed-clause-crash : goal.returns-then-closed-clause-crash
returns-then-closed-clause-crash g c = λ o start was. twice_quiet _ _ _ _ c.sync.ensures.quiet c.settle.ensures.quiet (ready_before o c.args.at start c.args.closed _ was)

pub returns-then-closed-clause-closed : goal.returns-then-closed-clause-closed
returns-then-closed-clause-closed g c = λ o start was.
    (twice_quiet _ _ _ _ c.sync.ensures.quiet c.settle.ensures.quiet (ready_closed o c.args.at start c.args.closed _ c.if-closed.true was)).now

pub returns-then-closed-clause-written : goal.returns-then-closed-clause-written
returns-then-closed-clause-written g c =
    kept_over c.args.closed (g.D.Disk.view c.args.disk.now) (g.D.Disk.view c.sync.new.self) (g.D.Disk.view c.settle.new.disk) c.args.at c.if-closed.true c.in_ok-sync.ensures.same c.sync.ensures.quiet c.in_ok-settle.ensures.durable c.in_ok-settle.ensures.same

pub returns-in_err-durable_write-clause-crash : goal.returns-in_err-durable_write-clause-crash
returns-in_err-durable_write-clause-crash g c = λ o start was. during_to _ _ _ _ c.durable_write.ensures.crash (gate_torn o c.args.at start c.args.closed _ c.if-closed.false was)

pub returns-clause-crash : goal.returns-clause-crash
returns-clause-crash g c = λ o start was. during_to _ _ _ _ c.durable_write.ensures.crash (gate_torn o c.args.at start c.args.closed _ c.if-closed.false was)

pub returns-clause-closed : goal.returns-clause-closed
returns-clause-closed g c = λ o start was. gate_there o c.args.at start c.args.closed _ c.if-closed.false was _ c.in_ok-durable_write.ensures.written

pub returns-clause-written : goal.returns-clause-written
returns-clause-written g c = closed_over c.args.closed _ c.args.at _ c.if-closed.false c.in_ok-durable_write.ensures.written

pub returns-in_err-sync-clause-behind : goal.returns-in_err-sync-clause-behind
returns-in_err-sync-clause-behind g c = λ size within. behind_quiet size _ _ c.sync.ensures.quiet

pub returns-in_err-settle-clause-behind : goal.returns-in_err-settle-clause-behind
returns-in_err-settle-clause-behind g c = λ size within. behind_then size _ _ _ (behind_quiet size _ _ c.sync.ensures.quiet) (behind_quiet size _ _ c.settle.ensures.quiet)

pub returns-then-closed-clause-behind : goal.returns-then-closed-clause-behind
returns-then-closed-clause-behind g c = λ size within. behind_then size _ _ _ (behind_quiet size _ _ c.sync.ensures.quiet) (behind_quiet size _ _ c.settle.ensures.quiet)

pub returns-in_err-durable_write-clause-behind : goal.returns-in_err-durable_write-clause-behind
returns-in_err-durable_write-clause-behind g c = λ size within. c.durable_write.ensures.behind size (omega (arith, within))

pub returns-clause-behind : goal.returns-clause-behind
returns-clause-behind g c = λ size within. c.durable_write.ensures.behind size (omega (arith, within))
