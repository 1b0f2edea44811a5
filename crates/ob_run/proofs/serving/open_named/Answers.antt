use Rattle.ob_base.specs.Limits.{area_bytes}
use Rattle.ob_store.specs.Stores.{program_of}
use Rattle.ob_run.proofs.OpeningLemmas.{opens_since, untaken}
use Rattle.std.proofs.Common.{arith}
use Rattle.ob_disk_spec.proofs.Behind.{behind_quiet, behind_more}
use Rattle.ob_disk_spec.proofs.Untouched.{attached_then}
use Rattle.ob_run.specs.Sessions.{both_areas}
use Rattle.ob_run.proofs.AttachingLemmas.{uses_attached, uses_failed, on_ok}
use Rattle.ob_run.proofs.serving.open_named.Goals as goal

pub returns-in-Ok-clause-opens : goal.returns-in-Ok-clause-opens
returns-in-Ok-clause-opens g c =
    opens_since (g.D.Disk.view c.args.disk.now) (g.D.Disk.view c.attach.new.self) (g.D.Disk.view c.open_taken.new.disk) c.in-Ok.ensures.same c.attach.ensures.quiet
    (program_of c.args.code.now) c.in-Ok.ensures.cause.calm c.open_taken.result c.open_taken.ensures.opens

pub returns-in-Err-clause-opens : goal.returns-in-Err-clause-opens
returns-in-Err-clause-opens g c =
    (untaken c.args.code.now (g.D.Disk.view c.args.disk.now) (g.D.Disk.view c.attach.new.self) c.attach.ensures.quiet, c.in-Err.ensures.cause.failed)

-- the disk was attached
pub returns-in-Ok-clause-disk : goal.returns-in-Ok-clause-disk
returns-in-Ok-clause-disk g c =
    uses_attached c.args.name.now (g.D.Disk.view c.args.disk.now) (g.D.Disk.view c.attach.new.self) (g.D.Disk.view c.open_taken.new.disk) c.in-Ok.ensures.attaches c.open_taken.ensures.attaches
    (behind_quiet both_areas _ _ c.attach.ensures.quiet) (behind_more area_bytes both_areas _ _ (omega arith) c.open_taken.ensures.behind)

pub returns-in-Ok-clause-attached : goal.returns-in-Ok-clause-attached
returns-in-Ok-clause-attached g c = on_ok c.open_taken.result _
    (attached_then (g.D.Disk.view c.args.disk.now) (g.D.Disk.view c.attach.new.self) (g.D.Disk.view c.open_taken.new.disk) c.args.name.now c.in-Ok.ensures.attaches c.open_taken.ensures.attaches)

-- that failed
pub returns-in-Err-clause-disk : goal.returns-in-Err-clause-disk
returns-in-Err-clause-disk g c = uses_failed c.args.name.now (g.D.Disk.view c.args.disk.now) (g.D.Disk.view c.attach.new.self) c.in-Err.ensures.attaches c.attach.ensures.calls c.attach.ensures.quiet
