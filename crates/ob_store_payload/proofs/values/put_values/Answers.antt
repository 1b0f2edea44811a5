use Rattle.std.proofs.Common.{◌∙◌, ◌++◌, ◌<◌, ◌≤◌, length, ap, arith}
use Rattle.std.proofs.lemmas.List.{length-map, take_all}
use Rattle.ob_format_spec.specs.Combinators.{each_bytes}
use Rattle.ob_heap.specs.Plain.{object_of}
use Rattle.ob_code_table.specs.ImageTables.{contract_of_code, field_of_code}
use Rattle.ob_store_spec.specs.Payloads.{value}
use Rattle.ob_store_spec.specs.Between.{values_from}
use Rattle.ob_store_payload.proofs.ValueLemmas.{values_put}
use Rattle.ob_store_payload.proofs.values.put_values.Goals as goal

pub loop-place-preserved : goal.loop-place-preserved
loop-place-preserved c =
    let o = object_of c.args.object.now in
    let fields = (contract_of_code c.args.contract.now).fields in
    let many = length-map c.args.contract.now.fields field_of_code in
    let less : c.loop-place.place < length fields = omega (arith, many, c.loop-place-test.true, c.len-place-end.ensures) in
    values_put c.loop-place.place fields o.state o.fields c.args.out.now.items c.loop-place.out.items c.put_available.new.out.items less c.loop-place.invariant c.in_ok-put_available.ensures

pub returns : goal.returns
returns c =
    let o = object_of c.args.object.now in
    let fields = (contract_of_code c.args.contract.now).fields in
    let many = length-map c.args.contract.now.fields field_of_code in
    let all : length fields ≤ c.loop-place.place = omega (arith, many, c.loop-place-test.false, c.len-place-end.ensures) in
    c.loop-place.invariant ∙ ap (λ l. c.args.out.now.items ++ each_bytes value.bytes (values_from 0 l o.state o.fields)) (take_all c.loop-place.place fields all)
