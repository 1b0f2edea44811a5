use Rattle.ob_disk_spec.proofs.Behind.{behind_quiet}
use Rattle.ob_store.specs.Stores.{program_of}
use Rattle.ob_store.proofs.Unchanged.{kept_quiet}
use Rattle.ob_run.specs.Sessions.{both_areas}
use Rattle.ob_run.proofs.AttachingLemmas.{uses_attached, uses_failed}
use Rattle.ob_run.proofs.OpeningLemmas.{counts_since}
use Rattle.ob_run.proofs.auditing.count_named.Goals as goal

pub returns-in-Ok-clause-counts : goal.returns-in-Ok-clause-counts
returns-in-Ok-clause-counts g c =
    counts_since (g.D.Disk.view c.args.disk.now) (g.D.Disk.view c.attach.new.self) (g.D.Disk.view c.count_taken.new.disk) c.in-Ok.ensures.same c.attach.ensures.quiet
    (program_of c.args.code.now) c.in-Ok.ensures.cause.calm c.count_taken.result c.count_taken.ensures.counts

pub returns-in-Err-clause-counts : goal.returns-in-Err-clause-counts
returns-in-Err-clause-counts g c =
    (kept_quiet (g.D.Disk.view c.args.disk.now) (g.D.Disk.view c.attach.new.self) c.attach.ensures.quiet, c.in-Err.ensures.cause.failed)

-- the disk was attached
pub returns-in-Ok-clause-disk : goal.returns-in-Ok-clause-disk
returns-in-Ok-clause-disk g c =
    uses_attached c.args.name.now (g.D.Disk.view c.args.disk.now) (g.D.Disk.view c.attach.new.self) (g.D.Disk.view c.count_taken.new.disk) c.in-Ok.ensures.attaches c.count_taken.ensures.attaches
    (behind_quiet both_areas _ _ c.attach.ensures.quiet) c.count_taken.ensures.behind

-- that failed
pub returns-in-Err-clause-disk : goal.returns-in-Err-clause-disk
returns-in-Err-clause-disk g c = uses_failed c.args.name.now (g.D.Disk.view c.args.disk.now) (g.D.Disk.view c.attach.new.self) c.in-Err.ensures.attaches c.attach.ensures.calls c.attach.ensures.quiet
