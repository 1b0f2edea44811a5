use Rattle.std.proofs.Common.{subst, sym}
use Rattle.ob_heap.specs.Ascending.{IsAscending}
use Rattle.ob_heap.proofs.FieldsLemmas.{number, ascending_without}
use Rattle.ob_heap.proofs.fields.Fields.remove.Goals as goal

pub invariant_of-self : goal.invariant_of-self
invariant_of-self c = subst (IsAscending number) (sym c.remove_from.ensures) (ascending_without c.args.field c.self.inside.items.items c.self.invariant)
