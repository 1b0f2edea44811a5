use Rattle.ob_table.proofs.StatementsLost.{resolved_body_of-injective}
use Rattle.ob_table.proofs.body.body_loses_nothing.Goals as goal

pub returns : goal.returns
returns c = resolved_body_of-injective
