use Rattle.std.proofs.Common.{◌∙◌, ◌++◌, sym, ap}
use Rattle.std.specs.Option.{option_to_list}
use Rattle.ob_exec_handles.specs.Spending.{item_of}
use Rattle.ob_lanes.specs.Readers.{object_in}
use Rattle.ob_lanes.proofs.ReadersLemmas.{objects_next, stay_twice}
use Rattle.ob_lanes.proofs.readers.put_from.Goals as goal

pub loop-at-preserved : goal.loop-at-preserved
loop-at-preserved c = record {
  so_far = c.in_ok-put_item.ensures.ok
      ∙ ap (λ xs. xs ++ option_to_list (object_in (item_of c.index-items-at.result))) c.loop-at.invariant.so_far
      ∙ sym (objects_next item_of c.args.items.now c.loop-at.at c.index-items-at.result c.loop-at-test.true c.index-items-at.is);
  tied = c.put_item.ensures.tied;
  others = stay_twice c.args.lane c.args.lists.now c.loop-at.lists c.put_item.new.lists c.loop-at.invariant.others c.put_item.ensures.others;
}
