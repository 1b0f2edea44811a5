use Rattle.std.proofs.Common.{refl}
use Rattle.std.proofs.lemmas.Result.{err_from_is_err_and}
use Rattle.ob_code_laws.proofs.Leading.{leads_ahead}
use Rattle.ob_disk_spec.proofs.Untouched.{untouched_none}
use Rattle.ob_store.specs.Stores.{area_of_store, kept_of, state_of}
use Rattle.ob_serve.specs.Turning.{batch_on}
use Rattle.ob_serve.proofs.Progress.{stays_none}
use Rattle.ob_serve.proofs.Steps.{memory_out}
use Rattle.ob_serve.proofs.Turning.{begins, can_be_answered}
use Rattle.ob_serve.proofs.batches.answer_batch.Goals as goal

pub answer_turns-requires-clause-far : goal.answer_turns-requires-clause-far
answer_turns-requires-clause-far g c =
    let b = batch_on c.args.code.now c.args.limits (area_of_store c.args.store.now) (state_of c.args.store.now) c.args.batch in (
      c.args.batch,
      can_be_answered c.args.code.now c.args.limits (area_of_store c.args.store.now) (state_of c.args.store.now) c.args.batch (leads_ahead c.args.code.now c.image-image.ensures.verified) c.requires.servable.sound c.requires.labels c.requires.serving.at_rest c.requires.limits,
      begins b c.args.store.now c.in_ok-lanes.lanes refl refl (c.in_ok-lanes.ensures.stand c.args.code.now (kept_of c.args.store.now)) c.in_ok-lanes.ensures.requests c.in_ok-lanes.ensures.next c.in_ok-lanes.ensures.slice,
    )

pub returns-in_err-lanes : goal.returns-in_err-lanes
returns-in_err-lanes g c =
    let failed = err_from_is_err_and c.from_residual.result c.from_residual.ensures.1 in
    rw (failed.1, failed.2) (memory_out c.args.code.now c.args.store.now (g.K.Sink.view c.args.output.now) (g.D.Disk.view c.args.disk.now) c.requires.serving _ c.args.store.now (g.D.Disk.view c.args.disk.now)
    (untouched_none (g.D.Disk.view c.args.disk.now)) (stays_none (area_of_store c.args.store.now) (g.D.Disk.view c.args.disk.now)))

pub returns : goal.returns
returns g c =
    let b = batch_on c.args.code.now c.args.limits (area_of_store c.args.store.now) (state_of c.args.store.now) c.args.batch in
    c.answer_turns.ensures c.args.batch
    (can_be_answered c.args.code.now c.args.limits (area_of_store c.args.store.now) (state_of c.args.store.now) c.args.batch (leads_ahead c.args.code.now c.image-image.ensures.verified) c.requires.servable.sound c.requires.labels c.requires.serving.at_rest c.requires.limits)
    (begins b c.args.store.now c.in_ok-lanes.lanes refl refl (c.in_ok-lanes.ensures.stand c.args.code.now (kept_of c.args.store.now)) c.in_ok-lanes.ensures.requests c.in_ok-lanes.ensures.next c.in_ok-lanes.ensures.slice)
