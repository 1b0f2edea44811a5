use Rattle.std.proofs.Common.{refl}
use Rattle.ob_store.proofs.store.index_owners.Goals as goal

pub returns : goal.returns
returns c = record { content_is = refl; journal_is = refl; owners = c.in_ok-owners.ensures }
