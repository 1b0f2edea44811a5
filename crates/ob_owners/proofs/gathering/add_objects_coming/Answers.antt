use Rattle.std.proofs.Common.{map, refl, ◌∙◌}
use Rattle.std.specs.Prelude.{flat_map}
use Rattle.ob_code_table.specs.ImageTables.{table_of_image}
use Rattle.ob_owners.specs.Owning.{owning_of, owning_by_object, objects_coming}
use Rattle.ob_owners.proofs.GatherLemmas.{object_coming, at_end}
use Rattle.ob_owners.proofs.gathering.add_objects_coming.Goals as goal

pub loop-change-preserved : goal.loop-change-preserved
loop-change-preserved c =
    object_coming (table_of_image c.args.code.now) c.args.changes.now c.loop-change.change-index c.change-item.result (map owning_of c.loop-change.found.items)
    (map owning_of c.add_object.new.found.items) c.loop-change-test.true c.change-item.is c.in_ok-add_object.ensures
    ∙ c.loop-change.invariant

pub returns : goal.returns
returns c =
    at_end (λ es. flat_map (owning_by_object (table_of_image c.args.code.now)) (objects_coming es)) c.args.changes.now c.loop-change.change-index (map owning_of c.loop-change.found.items) _ refl
    c.loop-change-test.false c.loop-change.invariant
