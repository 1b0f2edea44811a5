use Rattle.std.proofs.Common.{map, refl, ◌∙◌}
use Rattle.std.specs.Prelude.{flat_map}
use Rattle.ob_owners.specs.Owning.{owning_of, owning_by_handle, handles_going}
use Rattle.ob_owners.proofs.GatherLemmas.{handle_going, at_end}
use Rattle.ob_owners.proofs.gathering.add_handles_going.Goals as goal

pub loop-change-preserved : goal.loop-change-preserved
loop-change-preserved c =
    handle_going c.args.content.now c.args.changes.now c.loop-change.change-index c.change-item.result c.handle-handle.result
    (map owning_of c.loop-change.found.items) (map owning_of c.add_handle_there.new.found.items) c.loop-change-test.true c.change-item.is c.handle-handle.ensures
    c.in_ok-add_handle_there.ensures
    ∙ c.loop-change.invariant

pub returns : goal.returns
returns c =
    at_end (λ ds. flat_map owning_by_handle (handles_going c.args.content.now ds)) c.args.changes.now c.loop-change.change-index (map owning_of c.loop-change.found.items) _ refl
    c.loop-change-test.false c.loop-change.invariant
