use Rattle.std.proofs.Common.{◌≡◌, ◌+◌, sym, ap, ◌∙◌, arith}
use Rattle.ob_verify_spec.specs.Frames.{frames_from}
use Rattle.ob_verify_spec.specs.Passing.{first_fault_of}
use Rattle.ob_verify.proofs.ImageLoops.{contract_passed}
use Rattle.ob_verify.proofs.image.fault_in_contracts.Goals as goal

pub loop-i-preserved : goal.loop-i-preserved
loop-i-preserved c =
    let k : c.in_ok-here.here ≡ c.loop-i.i = omega (arith, c.in_ok-here.ensures.made) in
    contract_passed c.args.image.now (first_fault_of 0 (frames_from c.args.image.now 0 c.args.contracts.now)) c.loop-i.first c.in_ok-here.here c.in_ok-first.first
    c.args.contracts.now c.loop-i.i c.index-contracts-i.result
    c.loop-i-test.true c.index-contracts-i.is c.loop-i.invariant k (sym c.in_default.is ∙ c.in_ok-found.ensures) (c.in_ok-first.ensures.made ∙ ap (λ z. c.loop-i.first + z) c.len.ensures)
