use Rattle.std.proofs.Common.{subst}
use Rattle.std.specs.Prelude.{All}
use Rattle.ob_verify.specs.Slots.{FitsByte, AllFitByte}
use Rattle.ob_verify.proofs.SlotLoops.{turn, end, slots_fit}
use Rattle.ob_verify.proofs.slots.read_slots.Goals as goal

pub loop-own-preserved : goal.loop-own-preserved
loop-own-preserved c =
    turn AllFitByte c.as_slice-contracts.result.now c.loop-own.own-index c.own-item.result c.loop-own-test.true c.own-item.is c.loop-own.invariant
    (subst (All FitsByte) c.as_slice.ensures c.read_slots_of.ensures)

pub returns : goal.returns
returns c =
    slots_fit c.args.image.now (subst (All AllFitByte) c.as_slice-contracts.ensures
    (end AllFitByte c.as_slice-contracts.result.now c.loop-own.own-index c.loop-own-test.false c.loop-own.invariant))
