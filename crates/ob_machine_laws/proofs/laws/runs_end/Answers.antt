-- By the measure.
use Rattle.ob_machine_laws.proofs.Ending.{no_further, run_ends, entry_ends}
use Rattle.ob_machine_laws.proofs.laws.runs_end.Goals as goal

pub returns : goal.returns
returns c = record { further = no_further; runs = run_ends; entries = entry_ends }
