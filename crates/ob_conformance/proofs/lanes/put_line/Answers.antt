use Rattle.ob_wire.specs.declared.request.Incoming.TheVariants.{Batch}
use Rattle.ob_serve.proofs.Asking.{incoming_labels}
use Rattle.ob_serve.proofs.LineItems.{some_requests, few_requests}
use Rattle.ob_serve.proofs.Orders.{map_labels}
use Rattle.ob_conformance.proofs.lanes.put_line.Goals as goal

pub put_stored-requires-clause-some : goal.put_stored-requires-clause-some
put_stored-requires-clause-some c =
    let asks = rw c.in-Ok-Batch.field-0-is at c.in-Ok-Batch.ensures.asked in
    some_requests _ asks.2.1

pub put_stored-requires-clause-most : goal.put_stored-requires-clause-most
put_stored-requires-clause-most c =
    let asks = rw c.in-Ok-Batch.field-0-is at c.in-Ok-Batch.ensures.asked in
    few_requests _ asks.2.1

pub put_stored-requires-clause-labels : goal.put_stored-requires-clause-labels
put_stored-requires-clause-labels c =
    let asks = rw c.in-Ok-Batch.field-0-is at c.in-Ok-Batch.ensures.asked in
    map_labels c.in-Ok-Batch.batch (incoming_labels asks.0 (Batch c.in-Ok-Batch.batch) asks.2)

pub put_stored-requires-clause-limits : goal.put_stored-requires-clause-limits
put_stored-requires-clause-limits c = record { lanes = c.requires.lanes; slice = c.requires.slice }
