use Rattle.std.proofs.Common.{[]}
use Rattle.ob_heap.specs.Contents.{content_of}
use Rattle.ob_lanes_laws.proofs.Keeping.{idle_lane}
use Rattle.ob_lanes_laws.specs.Schedule.{idle}
use Rattle.ob_serve.proofs.Turning.{nothing_stored, no_code, lanes_there}
use Rattle.ob_serve.proofs.batches.lanes_of.Goals as goal

pub begin_batch-requires-clause-idle : goal.begin_batch-requires-clause-idle
begin_batch-requires-clause-idle c =
    (no_code, 0, [], nothing_stored, idle (content_of nothing_stored) c.args.limits.lanes, c.in_ok-lanes.ensures.stand no_code 0 nothing_stored, λ k busy is. idle_lane c.args.limits.lanes k busy is)

pub returns-clause-stand : goal.returns-clause-stand
returns-clause-stand c = λ code base.
    lanes_there code c.args.limits c.args.batch base c.in_ok-lanes.lanes c.begin_batch.new.self (c.in_ok-lanes.ensures.stand code c.args.limits.fuel base) (c.in_ok-begin_batch.ensures.stand code c.args.limits.fuel base)
