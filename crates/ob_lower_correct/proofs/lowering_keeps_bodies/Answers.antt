-- By the law.
use Rattle.ob_lower_correct.proofs.Bodies.{bodies_keep_meaning}
use Rattle.ob_lower_correct.proofs.lowering_keeps_bodies.Goals as goal

pub returns : goal.returns
returns c = record { bodies = bodies_keep_meaning }
