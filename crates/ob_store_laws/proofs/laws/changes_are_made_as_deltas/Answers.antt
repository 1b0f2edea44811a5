use Rattle.ob_store_laws.proofs.Made.{changes_are_made_as_deltas}
use Rattle.ob_store_laws.proofs.laws.changes_are_made_as_deltas.Goals as goal

pub returns : goal.returns
returns c = changes_are_made_as_deltas
