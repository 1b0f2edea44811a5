use Rattle.std.proofs.Common.{arith, inl}
use Rattle.ob_disk_spec.proofs.Moments.{during_to}
use Rattle.ob_disk_spec.proofs.Behind.{behind_then}
use Rattle.ob_journal.proofs.Opens.{put_during, area_over}
use Rattle.ob_journal.proofs.beginning.put_area.Goals as goal

pub returns-in_err-prepare_area-clause-crash : goal.returns-in_err-prepare_area-clause-crash
returns-in_err-prepare_area-clause-crash g c = λ o is was. during_to _ _ _ _ (c.prepare_area.ensures.crash o is was) (λ c' before. inl before)

pub returns-in_err-open_area-clause-crash : goal.returns-in_err-open_area-clause-crash
returns-in_err-open_area-clause-crash g c = λ o is was.
    put_during o _ _ _ (c.prepare_area.ensures.crash o is was) (c.open_area.ensures.crash o is.start (c.in_ok-prepare_area.ensures.shut o is was))

pub returns-clause-crash : goal.returns-clause-crash
returns-clause-crash g c = λ o is was.
    put_during o _ _ _ (c.prepare_area.ensures.crash o is was) (c.open_area.ensures.crash o is.start (c.in_ok-prepare_area.ensures.shut o is was))

pub returns-clause-opened : goal.returns-clause-opened
returns-clause-opened g c = λ o is was. c.in_ok-open_area.ensures.opened o is.start (c.in_ok-prepare_area.ensures.shut o is was)

pub returns-clause-written : goal.returns-clause-written
returns-clause-written g c = area_over c.args.closed (g.D.Disk.view c.args.disk.now) (g.D.Disk.view c.prepare_area.new.disk) (g.D.Disk.view c.open_area.new.disk) c.args.at c.args.built.now c.in_ok-prepare_area.ensures.written c.in_ok-open_area.ensures.written

pub returns-in_err-prepare_area-clause-behind : goal.returns-in_err-prepare_area-clause-behind
returns-in_err-prepare_area-clause-behind g c = λ size within. c.prepare_area.ensures.behind size within

pub returns-in_err-open_area-clause-behind : goal.returns-in_err-open_area-clause-behind
returns-in_err-open_area-clause-behind g c = λ size within. behind_then size _ _ _ (c.prepare_area.ensures.behind size within) (c.open_area.ensures.behind size (omega (arith, within)))

pub returns-clause-behind : goal.returns-clause-behind
returns-clause-behind g c = λ size within. behind_then size _ _ _ (c.prepare_area.ensures.behind size within) (c.open_area.ensures.behind size (omega (arith, within)))
