use Rattle.ob_store_laws.proofs.Whole.{all_leads}
use Rattle.ob_store_laws.proofs.laws.all_leads.Goals as goal

pub returns : goal.returns
returns c = all_leads
