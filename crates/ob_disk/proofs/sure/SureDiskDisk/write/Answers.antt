use Rattle.std.proofs.Common.{ℕ, Vec, ap, sym, ◌∙◌}
use Rattle.std.specs.declared.alloc.Global.{Global}
use Rattle.ob_disk_spec.specs.Disk.{overwritten}
use Rattle.ob_disk.proofs.Kept.{sure_write}
use Rattle.ob_disk.proofs.sure.SureDiskDisk.write.Goals as goal

pub returns-then-self-clause-torn : goal.returns-then-self-clause-torn
returns-then-self-clause-torn c =
    let same = c.count.ensures.same in
    sure_write c.args.self.now.tells c.keeps-self.result c.args.self.now.bytes.items c.keeps-self.new.self.bytes.items c.args.bytes.now c.args.at _ _ (sym same.tells ∙ c.if-self.true)
    (λ told. c.keeps-self.ensures.kept told ∙ ap (λ (v : Vec ℕ Global). overwritten c.args.at c.args.bytes.now v.items) same.bytes)
