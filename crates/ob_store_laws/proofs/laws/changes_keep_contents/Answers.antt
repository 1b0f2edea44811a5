use Rattle.ob_store_laws.proofs.Keeping.{changes_keep_contents}
use Rattle.ob_store_laws.proofs.laws.changes_keep_contents.Goals as goal

pub returns : goal.returns
returns c = changes_keep_contents
