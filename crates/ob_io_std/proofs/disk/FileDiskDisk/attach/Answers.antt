use Rattle.ob_io_std.proofs.TakingLemmas.{taken_after, told_ok, taken_same}
use Rattle.ob_io_std.proofs.disk.FileDiskDisk.attach.Goals as goal

pub returns-clause-taken : goal.returns-clause-taken
returns-clause-taken g c =
    let taken = told_ok c.take_or_close-taken.result c.counted.result c.in_ok-counted.field-0 c.counted.ensures.told c.in_ok-counted.was c.take_or_close-taken.ensures.taken in
    taken_same g.F.SystemFile.calls _ _ _ c.args.name.now _ _ c.counted.ensures.file (taken_after _ _ _ c.args.name.now _ _ c.close.ensures taken)
