use Rattle.std.proofs.Common.{ℕ, Vec, inl, length, ap}
use Rattle.std.specs.declared.alloc.Global.{Global}
use Rattle.ob_disk.proofs.Noted.{lost_write, put_write}
use Rattle.ob_disk.proofs.memory.MemoryDiskDisk.write.Goals as goal

pub returns-then-next_fails-clause-torn : goal.returns-then-next_fails-clause-torn
returns-then-next_fails-clause-torn c =
    lost_write _ _ _ _ c.args.at (length c.args.bytes.now) _ _ _ _ _ _ (ap (λ (v : Vec ℕ Global). v.items) c.lose.ensures.same.0) c.lose.ensures.notes

pub returns-in-Ok-clause-torn : goal.returns-in-Ok-clause-torn
returns-in-Ok-clause-torn c =
    let noted = c.in-Ok.ensures.noted in
    put_write _ _ c.args.bytes.now _ _ noted.0 c.args.at _ _ _ _ _ _ c.in-Ok.ensures.written noted.1 noted.2 noted.3 noted.4

pub returns-in-Err-clause-torn : goal.returns-in-Err-clause-torn
returns-in-Err-clause-torn c =
    let err = c.in-Err.ensures.err in lost_write _ _ _ _ c.args.at (length c.args.bytes.now) _ _ _ _ _ _ err.0 (inl err.1)
