use Rattle.ob_heap.proofs.LookLemmas.{plain_with, plain_without, plain_order}
use Rattle.ob_heap.proofs.laws.plain_handles_follow.Goals as goal

pub returns-clause-put : goal.returns-clause-put
returns-clause-put c = plain_with

pub returns-clause-removed : goal.returns-clause-removed
returns-clause-removed c = plain_without

pub returns-clause-order : goal.returns-clause-order
returns-clause-order c = plain_order
