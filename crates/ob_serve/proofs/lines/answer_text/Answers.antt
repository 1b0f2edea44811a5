use Rattle.std.specs.Prelude.{Ok, Err}
use Rattle.ob_disk_spec.proofs.Untouched.{untouched_none}
use Rattle.ob_store.specs.Stores.{area_of_store, state_of}
use Rattle.ob_wire.specs.Reading.{value_of}
use Rattle.ob_wire.specs.declared.refusal.Refusal.TheVariants.{Json, Shape, BatchSize}
use Rattle.ob_wire.specs.declared.request.Incoming.TheVariants.{One, Batch}
use Rattle.ob_serve.specs.Asked.{asked_by_value}
use Rattle.ob_serve.specs.Items.{by_machine}
use Rattle.ob_serve.proofs.Asking.{asks_incoming, asks_no_json, asks_nothing, asks_wrong_count, incoming_labels}
use Rattle.ob_serve.proofs.LineItems.{asked_as, some_requests, few_requests}
use Rattle.ob_serve.proofs.Orders.{map_labels}
use Rattle.ob_serve.proofs.Progress.{stays_none}
use Rattle.ob_serve.proofs.Steps.{memory_out}
use Rattle.ob_serve.proofs.lines.answer_text.Goals as goal

pub answer_request-requires-clause-labels : goal.answer_request-requires-clause-labels
answer_request-requires-clause-labels g c =
    let asks = rw c.in-Ok-One.field-0-is at c.in-Ok-One.ensures.asked in
    incoming_labels asks.0 (One c.in-Ok-One.request) asks.2

pub answer_batch-requires-clause-some : goal.answer_batch-requires-clause-some
answer_batch-requires-clause-some g c =
    let asks = rw c.in-Ok-Batch.field-0-is at c.in-Ok-Batch.ensures.asked in
    some_requests _ asks.2.1

pub answer_batch-requires-clause-most : goal.answer_batch-requires-clause-most
answer_batch-requires-clause-most g c =
    let asks = rw c.in-Ok-Batch.field-0-is at c.in-Ok-Batch.ensures.asked in
    few_requests _ asks.2.1

pub answer_batch-requires-clause-labels : goal.answer_batch-requires-clause-labels
answer_batch-requires-clause-labels g c =
    let asks = rw c.in-Ok-Batch.field-0-is at c.in-Ok-Batch.ensures.asked in
    map_labels c.in-Ok-Batch.batch (incoming_labels asks.0 (Batch c.in-Ok-Batch.batch) asks.2)

pub returns-in-Ok-One : goal.returns-in-Ok-One
returns-in-Ok-One g c =
    let asks = rw c.in-Ok-One.field-0-is at c.in-Ok-One.ensures.asked in
    asked_as c.args.code.now (by_machine c.args.code.now c.args.limits (area_of_store c.args.store.now)) (state_of c.args.store.now) (asked_by_value (value_of c.args.line.now)) (Ok (One c.in-Ok-One.request)) _ _ _
    (asks_incoming c.args.line.now (One c.in-Ok-One.request) asks) c.answer_request.ensures

pub returns-in-Ok-Batch : goal.returns-in-Ok-Batch
returns-in-Ok-Batch g c =
    let asks = rw c.in-Ok-Batch.field-0-is at c.in-Ok-Batch.ensures.asked in
    asked_as c.args.code.now (by_machine c.args.code.now c.args.limits (area_of_store c.args.store.now)) (state_of c.args.store.now) (asked_by_value (value_of c.args.line.now)) (Ok (Batch c.in-Ok-Batch.batch)) _ _ _
    (asks_incoming c.args.line.now (Batch c.in-Ok-Batch.batch) asks) c.answer_batch.ensures

pub returns-in-Err-Json : goal.returns-in-Err-Json
returns-in-Err-Json g c =
    let is = c.in-Err-Json.field-0-is in
    asked_as c.args.code.now (by_machine c.args.code.now c.args.limits (area_of_store c.args.store.now)) (state_of c.args.store.now) (asked_by_value (value_of c.args.line.now)) (Err Json) _ _ _
    (asks_no_json c.args.line.now (c.in-Err-Json.ensures.no_json cc)) (c.answer_refusal.ensures c.args.code.now c.args.limits (area_of_store c.args.store.now) c.requires.serving)

pub returns-in-Err-Shape : goal.returns-in-Err-Shape
returns-in-Err-Shape g c =
    let is = c.in-Err-Shape.field-0-is in
    asked_as c.args.code.now (by_machine c.args.code.now c.args.limits (area_of_store c.args.store.now)) (state_of c.args.store.now) (asked_by_value (value_of c.args.line.now)) (Err Shape) _ _ _
    (asks_nothing c.args.line.now (c.in-Err-Shape.ensures.no_request cc)) (c.answer_refusal-in-Err-Shape.ensures c.args.code.now c.args.limits (area_of_store c.args.store.now) c.requires.serving)

pub returns-in-Err-BatchSize : goal.returns-in-Err-BatchSize
returns-in-Err-BatchSize g c =
    let is = c.in-Err-BatchSize.field-0-is in
    asked_as c.args.code.now (by_machine c.args.code.now c.args.limits (area_of_store c.args.store.now)) (state_of c.args.store.now) (asked_by_value (value_of c.args.line.now)) (Err BatchSize) _ _ _
    (asks_wrong_count c.args.line.now (c.in-Err-BatchSize.ensures.batch_size cc)) (c.answer_refusal-in-Err-BatchSize.ensures c.args.code.now c.args.limits (area_of_store c.args.store.now) c.requires.serving)

pub returns-in-Err-Memory : goal.returns-in-Err-Memory
returns-in-Err-Memory g c =
    memory_out c.args.code.now c.args.store.now (g.K.Sink.view c.args.output.now) (g.D.Disk.view c.args.disk.now) c.requires.serving _ c.args.store.now (g.D.Disk.view c.args.disk.now)
    (untouched_none (g.D.Disk.view c.args.disk.now)) (stays_none (area_of_store c.args.store.now) (g.D.Disk.view c.args.disk.now))
