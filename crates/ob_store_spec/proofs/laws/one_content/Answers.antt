use Rattle.ob_store_spec.proofs.Leading.{one_content, one_store}
use Rattle.ob_store_spec.proofs.laws.one_content.Goals as goal

pub returns-clause-content : goal.returns-clause-content
returns-clause-content c = one_content

pub returns-clause-store : goal.returns-clause-store
returns-clause-store c = one_store
