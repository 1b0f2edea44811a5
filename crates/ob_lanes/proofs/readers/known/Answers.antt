use Rattle.std.proofs.Common.{◌∙◌, ◌++◌, sym, ap, arith}
use Rattle.std.specs.Option.{option_to_list}
use Rattle.ob_exec_handles.specs.Spending.{item_of}
use Rattle.ob_lanes.specs.Readers.{object_in}
use Rattle.ob_lanes.proofs.ReadersLemmas.{objects_next}
use Rattle.ob_lanes.proofs.readers.known.Goals as goal

pub loop-found-preserved : goal.loop-found-preserved
loop-found-preserved c = record {
  so_far = c.in_ok-found.ensures.found
      ∙ ap (λ xs. xs ++ option_to_list (object_in (item_of c.index-items-at.result))) c.loop-found.invariant.so_far
      ∙ sym (objects_next item_of c.args.items.now c.loop-found.at c.index-items-at.result (omega (arith, c.if-at-items.false)) c.index-items-at.is);
  within = c.in_ok-found.ensures.within;
  items = omega (arith, c.if-at-items.false);
}
