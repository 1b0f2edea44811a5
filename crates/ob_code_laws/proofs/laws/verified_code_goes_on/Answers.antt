-- By the instruction that is next.
use Rattle.ob_code_laws.proofs.Keeping.{verified_code_steps}
use Rattle.ob_code_laws.proofs.laws.verified_code_goes_on.Goals as goal

pub returns : goal.returns
returns c = verified_code_steps
