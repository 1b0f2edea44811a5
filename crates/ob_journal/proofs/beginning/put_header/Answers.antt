use Rattle.std.proofs.Common.{ℤ, ◌∙◌, ◌++◌, ap}
use Rattle.std.proofs.Math.Facts.{to_z-of_z}
use Rattle.ob_base.specs.Bytes.{i64_bytes}
use Rattle.ob_journal.proofs.Opens.{header_put}
use Rattle.ob_journal.proofs.beginning.put_header.Goals as goal

pub returns : goal.returns
returns c =
    let letters = c.extend_from_slice.new.self.items in
    let number = c.in_ok-put_i64.ensures ∙ ap (λ (z : ℤ). letters ++ i64_bytes z) (to_z-of_z c.ranges.serial) in
    header_put c.args.out.now.items letters c.put_i64.new.out.items c.put_sized.new.out.items c.args.serial c.args.image.now c.in_ok-extend_from_slice.ensures.items number c.in_ok-put_sized.ensures
