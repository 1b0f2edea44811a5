use Rattle.std.proofs.Common.{true, false, not, sym, ap, ◌∙◌, map}
use Rattle.std.specs.Prelude.{option_map}
use Rattle.std.specs.List.{list_any}
use Rattle.ob_heap.specs.Plain.{object_of}
use Rattle.ob_code_table.specs.ImageTables.{contract_of_code, table_of_image}
use Rattle.ob_rest_spec.specs.Failing.{refers_as_declared}
use Rattle.ob_rest_spec.specs.References.{FieldReference}
use Rattle.ob_owners.specs.Referring.{field_reference_of}
use Rattle.ob_owners.proofs.NotingLemmas.{references_from}
use Rattle.ob_owners.proofs.RestLemmas.{fields_asked}
use Rattle.ob_owners.proofs.TurnLemmas.{rest_end}
use Rattle.ob_owners.proofs.rest.refers_to_other_by.Goals as goal

pub returns-then-is_other : goal.returns-then-is_other
returns-then-is_other c = λ holder.
    let place = c.loop-place.place in
    sym (c.loop-place.invariant holder
    ∙ fields_asked (λ r. not (refers_as_declared (table_of_image c.args.code.now) (map object_of c.args.objects.now) r))
    (contract_of_code c.args.contract.now) holder (object_of c.args.object.now) c.as_slice-field-items.result.now c.args.contract.now.fields place
    c.field-item.result (option_map (field_reference_of holder place) c.reference_at.result) true
    c.as_slice-field-items.ensures c.loop-place-test.true c.field-item.is (c.reference_at.ensures holder)
    (sym c.if-is_other.true ∙ c.is_other.ensures holder place))

pub loop-place-preserved : goal.loop-place-preserved
loop-place-preserved c = λ holder.
    let place = c.loop-place.place in
    c.loop-place.invariant holder
    ∙ fields_asked (λ r. not (refers_as_declared (table_of_image c.args.code.now) (map object_of c.args.objects.now) r))
    (contract_of_code c.args.contract.now) holder (object_of c.args.object.now) c.as_slice-field-items.result.now c.args.contract.now.fields place
    c.field-item.result (option_map (field_reference_of holder place) c.reference_at.result) false
    c.as_slice-field-items.ensures c.loop-place-test.true c.field-item.is (c.reference_at.ensures holder)
    (sym c.if-is_other.false ∙ c.is_other.ensures holder place)

pub returns : goal.returns
returns c = λ holder.
    sym (c.loop-place.invariant holder
    ∙ ap (λ fs. list_any (λ (r : FieldReference). not (refers_as_declared (table_of_image c.args.code.now) (map object_of c.args.objects.now) r))
    (references_from (contract_of_code c.args.contract.now) holder (object_of c.args.object.now) c.loop-place.place fs))
    (rest_end c.as_slice-field-items.result.now c.args.contract.now.fields c.loop-place.place c.as_slice-field-items.ensures c.loop-place-test.false))
