use Rattle.ob_disk.proofs.Named.{attached_told, untold}
use Rattle.ob_disk.proofs.memory.MemoryDiskDisk.attach.Goals as goal

pub returns-in_default-clause-attaches : goal.returns-in_default-clause-attaches
returns-in_default-clause-attaches c = λ all is. untold all is

pub returns-clause-attaches : goal.returns-clause-attaches
returns-clause-attaches c = λ all is.
    let s = c.args.self.now in
    attached_told s.notes_all s.calls.attaches c.attach.new.self.attaches c.args.name.now s.calls.others all c.in-Ok.ensures.ok is
