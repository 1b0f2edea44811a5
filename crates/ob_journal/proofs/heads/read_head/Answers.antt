use Rattle.std.proofs.Common.{ℤ, subst, sym, arith}
use Rattle.std.proofs.Math.Facts.{to_z-of_z}
use Rattle.ob_journal.specs.Heads.{IsMarked}
use Rattle.ob_journal.proofs.AreaHeads.{front_marked, front_unmarked}
use Rattle.ob_journal.proofs.heads.read_head.Goals as goal

pub returns-in_default : goal.returns-in_default
returns-in_default c = λ area is. front_unmarked c.args.bytes.now c.args.count area is c.if-bytes-eq0.false c.if-count-le1.false c.in_default.ensures

pub returns-then-from-count : goal.returns-then-from-count
returns-then-from-count c = λ area is.
    let begins = c.in-Some.ensures in
    subst (λ (z : ℤ). IsMarked z area) (sym (to_z-of_z begins.fits)) (front_marked c.args.bytes.now c.args.count area is c.if-bytes-eq0.false c.in-Some.serial c.in-Some.image begins (omega (arith, c.if-from-count.true, c.from.ensures)))
