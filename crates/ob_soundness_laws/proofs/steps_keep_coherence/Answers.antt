use Rattle.ob_soundness_laws.proofs.Keeping.{steps_keep}
use Rattle.ob_soundness_laws.proofs.steps_keep_coherence.Goals as goal

pub returns : goal.returns
returns c = steps_keep
