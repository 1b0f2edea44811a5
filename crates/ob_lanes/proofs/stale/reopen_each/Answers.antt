use Rattle.std.proofs.Common.{◌∙◌, None, refl}
use Rattle.ob_lanes.specs.Readers.{freed_by_others}
use Rattle.ob_lanes.proofs.Maps.{mapped_next}
use Rattle.ob_lanes.proofs.stale.reopen_each.Goals as goal

pub loop-lane-preserved : goal.loop-lane-preserved
loop-lane-preserved c = record {
  so_far = c.reopen_at.ensures.is
      ∙ mapped_next (freed_by_others c.args.before.now c.args.delta.now) c.args.lanes.now c.loop-lane.lanes c.loop-lane.lane None _ c.loop-lane-test.true c.loop-lane.invariant.so_far refl;
  entered = c.reopen_at.ensures.entered;
}
