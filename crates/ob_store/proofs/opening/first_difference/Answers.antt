use Rattle.std.proofs.Common.{◌≡◌, ℕ, take, subst, arith}
use Rattle.ob_store.proofs.Differing.{differ_at_end}
use Rattle.ob_store.proofs.opening.first_difference.Goals as goal

pub returns : goal.returns
returns c =
    let all : c.loop-at.at ≡ c.min-common.result = omega (arith, c.loop-at-test.false, c.loop-at.auto.at-end) in
    let P : ℕ → Type 0 = λ n. take n c.args.a.now ≡ take n c.args.b.now in
    differ_at_end c.args.a.now c.args.b.now c.min-common.result c.min-common.ensures (subst P all c.loop-at.invariant) c.if-a-b.false
