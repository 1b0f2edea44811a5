use Rattle.ob_heap.proofs.FieldsLemmas.{ascending_after}
use Rattle.ob_heap.proofs.fields.Fields.put.Goals as goal

pub invariant_of-self : goal.invariant_of-self
invariant_of-self c = ascending_after c.put_in.result c.args.field c.args.value c.self.inside.items.items c.put_in.new.items.items
    c.put_in.ensures.ok c.put_in.ensures.err c.self.invariant
