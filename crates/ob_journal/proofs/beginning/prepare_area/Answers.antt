use Rattle.std.proofs.Common.{arith}
use Rattle.ob_disk_spec.proofs.Moments.{during_then}
use Rattle.ob_disk_spec.proofs.Behind.{behind_then, behind_write}
use Rattle.ob_journal.proofs.Opens.{area_during, area_shut, area_put}
use Rattle.ob_journal.proofs.beginning.prepare_area.Goals as goal

pub returns-in_err-close-clause-crash : goal.returns-in_err-close-clause-crash
returns-in_err-close-clause-crash g c = λ o is was. c.close.ensures.crash o is.start was

pub returns-in_err-write-clause-crash : goal.returns-in_err-write-clause-crash
returns-in_err-write-clause-crash g c = λ o is was.
    let closed = c.in_ok-close.ensures.closed o is.start was in
    during_then _ _ _ _ (c.close.ensures.crash o is.start was) (area_during o c.args.at is.start _ _ closed _ is.within c.write.ensures.torn)

pub returns-clause-crash : goal.returns-clause-crash
returns-clause-crash g c = λ o is was.
    let closed = c.in_ok-close.ensures.closed o is.start was in
    during_then _ _ _ _ (c.close.ensures.crash o is.start was) (area_during o c.args.at is.start _ _ closed _ is.within c.write.ensures.torn)

pub returns-clause-shut : goal.returns-clause-shut
returns-clause-shut g c = λ o is was.
    let closed = c.in_ok-close.ensures.closed o is.start was in area_shut o c.args.at is.start _ _ closed c.args.built.now is c.write.ensures.torn c.in_ok-write.ensures.written

pub returns-clause-written : goal.returns-clause-written
returns-clause-written g c = area_put c.args.closed (g.D.Disk.view c.args.disk.now) (g.D.Disk.view c.close.new.disk) (g.D.Disk.view c.write.new.self) c.args.at c.args.built.now c.in_ok-close.ensures.written c.in_ok-write.ensures.written

pub returns-in_err-close-clause-behind : goal.returns-in_err-close-clause-behind
returns-in_err-close-clause-behind g c = λ size within. c.close.ensures.behind size (omega (arith, within))

pub returns-in_err-write-clause-behind : goal.returns-in_err-write-clause-behind
returns-in_err-write-clause-behind g c = λ size within. behind_then size _ _ _ (c.close.ensures.behind size (omega (arith, within))) (behind_write size _ _ _ _ within c.write.ensures.torn)

pub returns-clause-behind : goal.returns-clause-behind
returns-clause-behind g c = λ size within. behind_then size _ _ _ (c.close.ensures.behind size (omega (arith, within))) (behind_write size _ _ _ _ within c.write.ensures.torn)
