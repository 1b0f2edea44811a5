-- By what the run has read.
use Rattle.ob_request_run_laws.proofs.Unchanged.{unchanged_is_of_the_moment}
use Rattle.ob_request_run_laws.proofs.laws.unchanged_is_of_the_moment.Goals as goal

pub returns : goal.returns
returns c = unchanged_is_of_the_moment
