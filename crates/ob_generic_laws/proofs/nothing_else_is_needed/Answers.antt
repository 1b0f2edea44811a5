use Rattle.ob_generic_laws.proofs.Closed.{nothing_else}
use Rattle.ob_generic_laws.proofs.nothing_else_is_needed.Goals as goal

pub returns : goal.returns
returns c = nothing_else
