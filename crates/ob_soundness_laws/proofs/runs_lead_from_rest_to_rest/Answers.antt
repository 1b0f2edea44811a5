use Rattle.ob_soundness_laws.proofs.Together.{runs_begin, runs_end}
use Rattle.ob_soundness_laws.proofs.runs_lead_from_rest_to_rest.Goals as goal

pub returns-clause-begins : goal.returns-clause-begins
returns-clause-begins c = runs_begin

pub returns-clause-ends : goal.returns-clause-ends
returns-clause-ends c = runs_end
