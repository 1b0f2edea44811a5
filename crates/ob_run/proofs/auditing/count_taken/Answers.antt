use Rattle.std.proofs.Common.{Err, sym, subst}
use Rattle.ob_store.specs.Stores.{program_of}
use Rattle.ob_run.specs.Auditing.{CountsAs}
use Rattle.ob_outside.specs.Faults.{CountsFault}
use Rattle.ob_run.specs.Sessions.{both_areas}
use Rattle.ob_run.specs.declared.serving.Unopened.{Unopened}
use Rattle.ob_run.proofs.AuditingLemmas.{Failed, counted_as, not_counted, counted_faults, not_counted_faults}
use Rattle.ob_run.proofs.auditing.count_taken.Goals as goal

-- the store was read

pub returns-in-Ok-clause-counts : goal.returns-in-Ok-clause-counts
returns-in-Ok-clause-counts g c =
    counted_as c.args.code.now (g.D.Disk.view c.args.disk.now) (g.D.Disk.view c.read_store.new.disk) c.in-Ok.content c.count_content.result
    (rw c.image.ensures.image at c.count_content.ensures) c.in-Ok.ensures.at_rest c.in-Ok.ensures.read c.read_store.ensures.quiet

pub returns-in-Ok-clause-behind : goal.returns-in-Ok-clause-behind
returns-in-Ok-clause-behind g c = c.read_store.ensures.behind both_areas

pub returns-in-Ok-clause-faults : goal.returns-in-Ok-clause-faults
returns-in-Ok-clause-faults g c =
    counted_faults c.count_content.result (g.D.Disk.view c.args.disk.now).faults (g.D.Disk.view c.read_store.new.disk).faults c.in-Ok.ensures.cause

-- it wasn't

pub returns-in-Err-clause-counts : goal.returns-in-Err-clause-counts
returns-in-Err-clause-counts g c =
    let P : Unopened → Type 0 = λ e. CountsAs (program_of c.args.code.now) (g.D.Disk.view c.args.disk.now) (g.D.Disk.view c.read_store.new.disk) (Err e) in
    subst P (sym c.unopened_by.ensures)
    (not_counted c.args.code.now (g.D.Disk.view c.args.disk.now) (g.D.Disk.view c.read_store.new.disk) c.in-Err.error c.in-Err.ensures.area c.in-Err.ensures.read
    c.read_store.ensures.quiet c.in-Err.ensures.cause)

pub returns-in-Err-clause-behind : goal.returns-in-Err-clause-behind
returns-in-Err-clause-behind g c = c.read_store.ensures.behind both_areas

pub returns-in-Err-clause-faults : goal.returns-in-Err-clause-faults
returns-in-Err-clause-faults g c =
    let P : Unopened → Type 0 = λ e. CountsFault (Failed (Err e)) (g.D.Disk.view c.args.disk.now).faults (g.D.Disk.view c.read_store.new.disk).faults in
    subst P (sym c.unopened_by.ensures)
    (not_counted_faults c.in-Err.error (g.D.Disk.view c.args.disk.now).faults (g.D.Disk.view c.read_store.new.disk).faults c.in-Err.ensures.cause)
