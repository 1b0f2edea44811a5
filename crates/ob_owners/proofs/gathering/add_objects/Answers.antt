use Rattle.std.proofs.Common.{map, refl, ◌∙◌}
use Rattle.std.specs.Prelude.{flat_map}
use Rattle.std.specs.List.{enumerate_from}
use Rattle.ob_heap.specs.Plain.{object_of}
use Rattle.ob_code_table.specs.ImageTables.{table_of_image}
use Rattle.ob_owners.specs.Owning.{owning_of, owning_by_object}
use Rattle.ob_owners.proofs.GatherLemmas.{object_added, at_end}
use Rattle.ob_owners.proofs.gathering.add_objects.Goals as goal

pub loop-holder-preserved : goal.loop-holder-preserved
loop-holder-preserved c =
    object_added (table_of_image c.args.code.now) c.args.objects.now c.loop-holder.holder c.index-objects-holder.result (map owning_of c.loop-holder.found.items)
    (map owning_of c.add_object.new.found.items) c.loop-holder-test.true c.index-objects-holder.is c.in_ok-add_object.ensures
    ∙ c.loop-holder.invariant

pub returns : goal.returns
returns c =
    at_end (λ os. flat_map (owning_by_object (table_of_image c.args.code.now)) (enumerate_from c.loop-holder.holder (map object_of os))) c.args.objects.now c.loop-holder.holder
    (map owning_of c.loop-holder.found.items) _ refl c.loop-holder-test.false c.loop-holder.invariant
