use Rattle.ob_generic_laws.proofs.Short.{all_short}
use Rattle.ob_generic_laws.proofs.names_are_short.Goals as goal

pub returns : goal.returns
returns c = all_short
