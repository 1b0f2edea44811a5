use Rattle.ob_verify.specs.Slots.{FitsByte}
use Rattle.ob_verify.proofs.SlotLoops.{turn, end}
use Rattle.ob_verify.proofs.slots.read_slots_of.Goals as goal

pub loop-body-preserved : goal.loop-body-preserved
loop-body-preserved c =
    turn FitsByte c.args.bodies.now c.loop-body.body-index c.body-item.result c.loop-body-test.true c.body-item.is c.loop-body.invariant c.slots_of-slots.ensures

pub returns : goal.returns
returns c = end FitsByte c.args.bodies.now c.loop-body.body-index c.loop-body-test.false c.loop-body.invariant
