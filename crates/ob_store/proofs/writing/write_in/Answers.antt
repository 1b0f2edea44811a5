use Rattle.ob_disk_spec.proofs.Untouched.{untouched_none}
use Rattle.ob_store.proofs.Built.{crash_in}
use Rattle.ob_store.proofs.Standing.{behind_in}
use Rattle.ob_store.proofs.writing.write_in.Goals as goal

pub returns-in_default-clause-none : goal.returns-in_default-clause-none
returns-in_default-clause-none g c = λ is. untouched_none (g.D.Disk.view c.args.disk.now)

pub returns-in_default-clause-behind : goal.returns-in_default-clause-behind
returns-in_default-clause-behind g c = behind_in c.args.journal.now (g.D.Disk.view c.args.disk.now)

pub returns-in_err-write_change-clause-crash : goal.returns-in_err-write_change-clause-crash
returns-in_err-write_change-clause-crash g c =
    crash_in c.in-Some-journal.journal c.in-Some.built c.args.journal.now c.args.built c.in-Some-journal.is c.in-Some.is
    (g.D.Disk.view c.args.disk.now) (g.D.Disk.view c.write_change.new.disk) c.write_change.ensures.crash

pub returns-clause-crash : goal.returns-clause-crash
returns-clause-crash g c =
    crash_in c.in-Some-journal.journal c.in-Some.built c.args.journal.now c.args.built c.in-Some-journal.is c.in-Some.is
    (g.D.Disk.view c.args.disk.now) (g.D.Disk.view c.write_change.new.disk) c.write_change.ensures.crash
