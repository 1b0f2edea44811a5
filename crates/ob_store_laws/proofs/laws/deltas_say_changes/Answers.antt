use Rattle.ob_store_laws.proofs.Deltas.{deltas_say_changes}
use Rattle.ob_store_laws.proofs.laws.deltas_say_changes.Goals as goal

pub returns : goal.returns
returns c = deltas_say_changes
