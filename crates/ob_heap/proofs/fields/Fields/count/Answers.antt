use Rattle.std.proofs.Common.{subst}
use Rattle.ob_heap.specs.Ascending.{IsAscending}
use Rattle.ob_heap.proofs.FieldsLemmas.{number}
use Rattle.ob_heap.proofs.fields.Fields.count.Goals as goal

pub returns-clause-order : goal.returns-clause-order
returns-clause-order c = subst (IsAscending number) c.self.view_is c.self.invariant
