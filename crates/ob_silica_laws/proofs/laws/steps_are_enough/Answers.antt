-- By the number of steps.
use Rattle.ob_silica_laws.proofs.Counting.{steps_add, steps_over}
use Rattle.ob_silica_laws.proofs.laws.steps_are_enough.Goals as goal

pub returns : goal.returns
returns c = record { add = steps_add; over = steps_over }
