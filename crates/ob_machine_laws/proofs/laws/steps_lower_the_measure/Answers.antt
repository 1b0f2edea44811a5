-- By the instruction that is next.
use Rattle.ob_machine_laws.proofs.Measuring.{lowers}
use Rattle.ob_machine_laws.proofs.laws.steps_lower_the_measure.Goals as goal

pub returns : goal.returns
returns c = lowers
