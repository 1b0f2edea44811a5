use Rattle.std.proofs.Common.{◌<◌, None, length, map, replicate, refl, ap, ◌∙◌, arith}
use Rattle.ob_lanes.specs.declared.batch.BatchRequest.{BatchRequest}
use Rattle.ob_lanes.proofs.Idle.{idle_stands, kept_waiting}
use Rattle.ob_lanes.proofs.lanes.Lanes.begin_batch.Goals as goal

pub returns-clause-stand : goal.returns-clause-stand
returns-clause-stand c = λ image fuel base.
    let i = c.requires.idle in
    let less = i.5.next in
    let some : 0 < length c.args.self.now.lanes.items = omega (arith, less) in
    idle_stands image fuel base c.args.batch (length c.args.self.now.lanes.items) _ c.in_ok-entries.ensures (c.in_ok-lanes.ensures ∙ ap (λ n. replicate n None) c.len.ensures) refl some i.5.slice

pub returns-clause-requests : goal.returns-clause-requests
returns-clause-requests c = ap (map (λ (e : BatchRequest). e.request)) c.in_ok-entries.ensures ∙ kept_waiting c.args.batch
