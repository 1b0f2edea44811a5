use Rattle.std.proofs.Common.{subst}
use Rattle.std.specs.Prelude.{Some, None}
use Rattle.ob_store.specs.Stores.{program_of, kept_of}
use Rattle.ob_serve.specs.Stops.{IsOfDelta}
use Rattle.ob_serve.proofs.Turning.{few_handles, delta_is, told_some, told_none, nothing_is_delta}
use Rattle.ob_serve.proofs.batches.tell_lanes.Goals as goal

pub committed-requires-clause-few : goal.committed-requires-clause-few
committed-requires-clause-few c =
    let r = c.requires in few_handles r.0 r.4 r.1 c.args.store.now c.args.lanes.now r.2 r.3 r.5 _ c.content.ensures

pub committed-requires-clause-delta : goal.committed-requires-clause-delta
committed-requires-clause-delta c =
    let r = c.requires in
    let of = subst (IsOfDelta (program_of r.0.code) c.args.store.now r.3) c.in-Some.is r.6 in
    delta_is r.0 r.4 r.1 c.args.store.now c.args.lanes.now r.2 r.3 r.5 _ _ c.in-Some.prepared c.content.ensures c.delta.ensures of.0

pub committed-requires-clause-waits : goal.committed-requires-clause-waits
committed-requires-clause-waits c = let r = c.requires in rw c.content.ensures (r.0.code, r.0.limits.fuel, _, r.5.state, r.5.waits)

pub committed-requires-in-None-clause-few : goal.committed-requires-in-None-clause-few
committed-requires-in-None-clause-few c =
    let r = c.requires in few_handles r.0 r.4 r.1 c.args.store.now c.args.lanes.now r.2 r.3 r.5 _ c.content-in-None.ensures

pub committed-requires-in-None-clause-delta : goal.committed-requires-in-None-clause-delta
committed-requires-in-None-clause-delta c = nothing_is_delta _ _ c.new.ensures c.new-in-None.ensures

pub committed-requires-in-None-clause-waits : goal.committed-requires-in-None-clause-waits
committed-requires-in-None-clause-waits c = let r = c.requires in rw c.content-in-None.ensures (r.0.code, r.0.limits.fuel, _, r.5.state, r.5.waits)

pub returns-in-Some : goal.returns-in-Some
returns-in-Some c = λ b turns reply delta after can w of now area.
    let some = subst (IsOfDelta (program_of b.code) c.args.store.now delta) c.in-Some.is of in
    told_some b can turns c.args.store.now c.args.lanes.now reply delta w c.committed.new.self after now area c.committed.ensures.requests c.committed.ensures.next c.committed.ensures.slice
    c.in-Some.prepared some (rw (c.content.ensures, c.delta.ensures) at c.committed.ensures.stand b.code b.limits.fuel _ w.state (kept_of after) w.waits)

pub returns-in-None : goal.returns-in-None
returns-in-None c = λ b turns reply delta after can w of now area.
    let none = subst (IsOfDelta (program_of b.code) c.args.store.now delta) c.in-None.is of in
    told_none b can turns c.args.store.now c.args.lanes.now reply delta w c.committed-in-None.new.self after now area c.committed-in-None.ensures.requests c.committed-in-None.ensures.next c.committed-in-None.ensures.slice
    (record { objects = c.new.result; handles = c.new-in-None.result }) c.new.ensures c.new-in-None.ensures none (rw c.content-in-None.ensures at c.committed-in-None.ensures.stand b.code b.limits.fuel _ w.state (kept_of after) w.waits)
