use Rattle.std.proofs.Common.{map, refl, ◌∙◌}
use Rattle.std.specs.Prelude.{flat_map}
use Rattle.ob_heap.specs.Contents.{named_of}
use Rattle.ob_owners.specs.Owning.{owning_of, owning_by_handle}
use Rattle.ob_owners.proofs.GatherLemmas.{handle_added, at_end}
use Rattle.ob_owners.proofs.gathering.add_handles.Goals as goal

pub loop-handle-preserved : goal.loop-handle-preserved
loop-handle-preserved c =
    handle_added c.args.handles.now c.loop-handle.handle-index c.handle-item.result (map owning_of c.loop-handle.found.items)
    (map owning_of c.add_handle.new.found.items) c.loop-handle-test.true c.handle-item.is c.in_ok-add_handle.ensures
    ∙ c.loop-handle.invariant

pub returns : goal.returns
returns c =
    at_end (λ hs. flat_map owning_by_handle (map named_of hs)) c.args.handles.now c.loop-handle.handle-index (map owning_of c.loop-handle.found.items) _ refl
    c.loop-handle-test.false c.loop-handle.invariant
