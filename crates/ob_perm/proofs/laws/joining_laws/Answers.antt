use Rattle.ob_perm.proofs.JoinLemmas.{joined_comm, joined_same, fits-joined, matches-joined, joined_split, within_apart}
use Rattle.ob_perm.proofs.laws.joining_laws.Goals as goal

pub returns-clause-order : goal.returns-clause-order
returns-clause-order c = joined_comm

pub returns-clause-same : goal.returns-clause-same
returns-clause-same c = joined_same

pub returns-clause-upper : goal.returns-clause-upper
returns-clause-upper c = fits-joined

pub returns-clause-least : goal.returns-clause-least
returns-clause-least c = matches-joined

pub returns-clause-split : goal.returns-clause-split
returns-clause-split c = joined_split

pub returns-clause-apart : goal.returns-clause-apart
returns-clause-apart c = within_apart
