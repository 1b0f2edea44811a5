use Rattle.ob_run_examples.proofs.Answered.{answered}
use Rattle.ob_run_examples.proofs.sample_is_answered.Goals as goal

pub returns : goal.returns
returns c = answered
