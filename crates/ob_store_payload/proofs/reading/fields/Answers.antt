use Rattle.std.proofs.Common.{◌≡◌, ◌<◌, ◌≤◌, length, get_or, refl, ap, subst, arith, rules, Err}
use Rattle.std.proofs.lemmas.List.{length-map}
use Rattle.ob_format_spec.specs.Combinators.{read_times}
use Rattle.ob_format.specs.Answering.{Halts}
use Rattle.ob_format.specs.declared.halt.Halt.{Halt}
use Rattle.ob_code_table.specs.ImageTables.{contract_of_code, field_of_code}
use Rattle.ob_code_table.specs.Images.{is_available_in}
use Rattle.ob_store_spec.specs.Payloads.{value}
use Rattle.ob_store_payload.specs.Answering.{AnswersField}
use Rattle.ob_store_payload.proofs.FieldsRead.{left, nothing_read, field_read, field_halts, all_read, all_have, map_at}
use Rattle.ob_store_payload.proofs.reading.fields.Goals as goal

pub loop-place-init : goal.loop-place-init
loop-place-init c = nothing_read (contract_of_code c.args.contract.now).fields c.args.state c.new-kept.result c.args.bytes.now c.new-kept.ensures

pub loop-place-preserved : goal.loop-place-preserved
loop-place-preserved c =
    let fields = (contract_of_code c.args.contract.now).fields in
    let place = c.loop-place.place in
    let x = c.declared-item.result in
    let less = subst (λ l. place < length l) c.as_slice-declared-items.ensures c.loop-place-test.true in
    let is = subst (λ l. x ≡ get_or l place x) c.as_slice-declared-items.ensures c.declared-item.is in
    let there = map_at field_of_code c.args.contract.now.fields place x less is in
    field_read fields c.args.state place (field_of_code x) there.0 there.1.0 there.1.1 (read_times value.read (left fields c.args.state 0) c.args.bytes.now)
    (is_available_in c.args.state x) refl c.loop-place.kept c.field.new.fields c.loop-place.rest.now c.in_ok-rest.rest c.loop-place.invariant c.in_ok-rest.ensures

pub returns-in_err-rest : goal.returns-in_err-rest
returns-in_err-rest c =
    let fields = (contract_of_code c.args.contract.now).fields in
    let place = c.loop-place.place in
    let x = c.declared-item.result in
    let less = subst (λ l. place < length l) c.as_slice-declared-items.ensures c.loop-place-test.true in
    let is = subst (λ l. x ≡ get_or l place x) c.as_slice-declared-items.ensures c.declared-item.is in
    let there = map_at field_of_code c.args.contract.now.fields place x less is in
    let whole = read_times value.read (left fields c.args.state 0) c.args.bytes.now in
    let halt : (e : Halt) → AnswersField (is_available_in c.args.state x) place c.loop-place.kept c.field.new.fields c.loop-place.rest.now (Err e) → Halts e whole =
    field_halts fields c.args.state place (field_of_code x) there.0 there.1.0 there.1.1 whole (is_available_in c.args.state x) refl c.loop-place.kept c.field.new.fields c.loop-place.rest.now c.loop-place.invariant in
    search (rules, halt)

pub returns : goal.returns
returns c =
    let fields = (contract_of_code c.args.contract.now).fields in
    let many = length-map c.args.contract.now.fields field_of_code in
    let items = ap length c.as_slice-declared-items.ensures in
    let all : length fields ≤ c.loop-place.place = omega (arith, many, items, c.loop-place-test.false) in
    let whole = read_times value.read (left fields c.args.state 0) c.args.bytes.now in
    record {
      read = all_read fields c.args.state c.loop-place.place c.loop-place.kept c.loop-place.rest.now whole all c.loop-place.invariant;
      values = all_have fields c.args.state c.loop-place.place c.loop-place.kept c.loop-place.rest.now whole all c.loop-place.invariant;
    }
