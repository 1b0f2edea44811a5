use Rattle.ob_run_examples.proofs.Stored.{answered_stored}
use Rattle.ob_run_examples.proofs.sample_is_answered_on_a_disk.Goals as goal

pub returns : goal.returns
returns c = answered_stored
