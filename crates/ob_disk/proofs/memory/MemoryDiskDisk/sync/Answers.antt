use Rattle.std.proofs.Common.{ℕ, Vec, ap}
use Rattle.std.specs.declared.alloc.Global.{Global}
use Rattle.ob_disk.proofs.Noted.{sync_quiet}
use Rattle.ob_disk.proofs.memory.MemoryDiskDisk.sync.Goals as goal

pub returns-in-Ok-clause-quiet : goal.returns-in-Ok-clause-quiet
returns-in-Ok-clause-quiet c = sync_quiet _ _ _ _ _ _ _ _ _ _ (ap (λ (v : Vec ℕ Global). v.items) c.note_sync.ensures.same.0) c.in-Ok.ensures.noted
