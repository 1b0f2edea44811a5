use Rattle.std.proofs.Common.{map, ◌∙◌}
use Rattle.std.specs.Prelude.{option_map}
use Rattle.ob_heap.specs.Plain.{object_of}
use Rattle.ob_code_table.specs.ImageTables.{contract_of_code}
use Rattle.ob_owners.specs.Owning.{owning_of}
use Rattle.ob_owners.specs.Referring.{field_reference_of}
use Rattle.ob_owners.proofs.GatherLemmas.{field_added, fields_end}
use Rattle.ob_owners.proofs.gathering.add_fields.Goals as goal

pub loop-place-preserved : goal.loop-place-preserved
loop-place-preserved c =
    let place = c.loop-place.place in
    field_added (contract_of_code c.args.contract.now) c.args.holder (object_of c.args.object.now) c.as_slice-field-items.result.now c.args.contract.now.fields place
    c.field-item.result (option_map (field_reference_of c.args.holder place) c.reference_at-reference.result) (map owning_of c.loop-place.found.items)
    (map owning_of c.add_field.new.found.items) c.as_slice-field-items.ensures c.loop-place-test.true c.field-item.is (c.reference_at-reference.ensures c.args.holder)
    c.in_ok-add_field.ensures
    ∙ c.loop-place.invariant

pub returns : goal.returns
returns c =
    fields_end (contract_of_code c.args.contract.now) c.args.holder (object_of c.args.object.now) c.as_slice-field-items.result.now c.args.contract.now.fields c.loop-place.place
    (map owning_of c.loop-place.found.items) c.as_slice-field-items.ensures c.loop-place-test.false
    ∙ c.loop-place.invariant
