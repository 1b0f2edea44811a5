-- By what every run keeps of its content.
use Rattle.ob_request_run_laws.proofs.Unchanged.{held_is_laid_back}
use Rattle.ob_request_run_laws.proofs.laws.what_is_held_is_laid_back.Goals as goal

pub returns : goal.returns
returns c = held_is_laid_back
