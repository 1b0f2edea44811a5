-- By what a turn of a lane leads to, and by the number of turns.
use Rattle.ob_lanes_laws.proofs.Lowering.{turns_lower}
use Rattle.ob_lanes_laws.proofs.Ending.{batches_end, answered_batches_stay}
use Rattle.ob_lanes_laws.proofs.laws.batches_end.Goals as goal

pub returns : goal.returns
returns g c = record { lower = turns_lower; end = batches_end; stay = answered_batches_stay }
