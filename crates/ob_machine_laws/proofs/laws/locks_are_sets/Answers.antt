-- By what each step does to the lists.
use Rattle.ob_machine_laws.proofs.Once.{steps_once, entry_once}
use Rattle.ob_machine_laws.proofs.laws.locks_are_sets.Goals as goal

pub returns : goal.returns
returns c = record { steps = steps_once; entries = entry_once }
