use Rattle.ob_store_laws.proofs.Whole.{all_is_what_differs}
use Rattle.ob_store_laws.proofs.laws.all_is_what_differs.Goals as goal

pub returns : goal.returns
returns c = all_is_what_differs
