use Rattle.std.proofs.Common.{ap, sym, ◌∙◌, map}
use Rattle.std.specs.Prelude.{option_map}
use Rattle.ob_heap.specs.Plain.{object_of}
use Rattle.ob_code_table.specs.ImageTables.{contract_of_code, table_of_image}
use Rattle.ob_owners.specs.Noting.{holding_of_field, after_holdings}
use Rattle.ob_owners.specs.Referring.{field_reference_of}
use Rattle.ob_owners.proofs.NotingLemmas.{references_from, fields_noted}
use Rattle.ob_owners.proofs.TurnLemmas.{rest_end}
use Rattle.ob_owners.proofs.tally.note_fields.Goals as goal

pub loop-place-preserved : goal.loop-place-preserved
loop-place-preserved c = λ holder.
    let place = c.loop-place.place in
    fields_noted (holding_of_field (table_of_image c.args.code.now) (map object_of c.args.objects.now)) (contract_of_code c.args.contract.now) holder
    (object_of c.args.object.now) c.as_slice-field-items.result.now c.args.contract.now.fields place c.field-item.result
    (option_map (field_reference_of holder place) c.reference_at-found.result) c.loop-place.tallies c.note_found.new.tallies c.as_slice-field-items.ensures
    c.loop-place-test.true c.field-item.is (c.reference_at-found.ensures holder) (c.note_found.ensures holder place)
    ∙ c.loop-place.invariant holder

pub returns : goal.returns
returns c = λ holder.
    sym (ap (λ fs. after_holdings (map (holding_of_field (table_of_image c.args.code.now) (map object_of c.args.objects.now))
    (references_from (contract_of_code c.args.contract.now) holder (object_of c.args.object.now) c.loop-place.place fs)) c.loop-place.tallies)
    (rest_end c.as_slice-field-items.result.now c.args.contract.now.fields c.loop-place.place c.as_slice-field-items.ensures c.loop-place-test.false))
    ∙ c.loop-place.invariant holder
