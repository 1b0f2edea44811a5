use Rattle.ob_rest_laws.proofs.Changing.{rests_after}
use Rattle.ob_rest_laws.proofs.laws.quiet_changes_keep_rest.Goals as goal

pub returns : goal.returns
returns c = rests_after
