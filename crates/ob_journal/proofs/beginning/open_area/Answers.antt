use Rattle.std.proofs.Common.{arith, ◌∷◌, []}
use Rattle.ob_disk_spec.proofs.Behind.{behind_quiet, behind_then}
use Rattle.ob_journal.proofs.Opens.{settle_during, opening_during, opening_there, over_settled}
use Rattle.ob_journal.proofs.beginning.open_area.Goals as goal

pub returns-in_err-settle-clause-crash : goal.returns-in_err-settle-clause-crash
returns-in_err-settle-clause-crash g c = λ o start was. settle_during o c.args.at start _ _ was c.settle.ensures.quiet

pub returns-in_err-durable_write-clause-crash : goal.returns-in_err-durable_write-clause-crash
returns-in_err-durable_write-clause-crash g c = λ o start was.
    opening_during o c.args.at start _ _ was c.settle.ensures.quiet c.in_ok-settle.ensures.durable c.in_ok-settle.ensures.same _ c.durable_write.ensures.crash

pub returns-clause-crash : goal.returns-clause-crash
returns-clause-crash g c = λ o start was.
    opening_during o c.args.at start _ _ was c.settle.ensures.quiet c.in_ok-settle.ensures.durable c.in_ok-settle.ensures.same _ c.durable_write.ensures.crash

pub returns-clause-opened : goal.returns-clause-opened
returns-clause-opened g c = λ o start was.
    opening_there o c.args.at start _ _ was c.settle.ensures.quiet c.in_ok-settle.ensures.durable c.in_ok-settle.ensures.same _ c.in_ok-durable_write.ensures.written

pub returns-clause-written : goal.returns-clause-written
returns-clause-written g c = over_settled (g.D.Disk.view c.args.disk.now) (g.D.Disk.view c.settle.new.disk) (g.D.Disk.view c.durable_write.new.disk) c.args.at (1 ∷ []) c.in_ok-settle.ensures.same c.in_ok-durable_write.ensures.written

pub returns-in_err-settle-clause-behind : goal.returns-in_err-settle-clause-behind
returns-in_err-settle-clause-behind g c = λ size within. behind_quiet size _ _ c.settle.ensures.quiet

pub returns-in_err-durable_write-clause-behind : goal.returns-in_err-durable_write-clause-behind
returns-in_err-durable_write-clause-behind g c = λ size within. behind_then size _ _ _ (behind_quiet size _ _ c.settle.ensures.quiet) (c.durable_write.ensures.behind size (omega (arith, within)))

pub returns-clause-behind : goal.returns-clause-behind
returns-clause-behind g c = λ size within. behind_then size _ _ _ (behind_quiet size _ _ c.settle.ensures.quiet) (c.durable_write.ensures.behind size (omega (arith, within)))
