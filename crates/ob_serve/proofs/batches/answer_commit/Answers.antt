use Rattle.std.proofs.lemmas.Result.{err_from_is_err_and}
use Rattle.ob_store.specs.Stores.{program_of, area_of_store, state_of}
use Rattle.ob_store.proofs.Standing.{stands_image}
use Rattle.ob_serve.specs.Turning.{batch_on}
use Rattle.ob_serve.proofs.Commits.{memory_stops, commits_as}
use Rattle.ob_serve.proofs.Keeping.{invoked_rests}
use Rattle.ob_serve.proofs.Turning.{told, told_rests, item_of, comes_here}
use Rattle.ob_serve.proofs.batches.answer_commit.Goals as goal

pub ready_reply-requires-clause-storable : goal.ready_reply-requires-clause-storable
ready_reply-requires-clause-storable g c = c.requires.servable.storable

pub ready_reply-requires-clause-image : goal.ready_reply-requires-clause-image
ready_reply-requires-clause-image g c = stands_image (program_of c.args.code.now) c.args.store.now (g.D.Disk.view c.args.disk.now) c.requires.serving.stands

pub ready_reply-requires-clause-at_rest : goal.ready_reply-requires-clause-at_rest
ready_reply-requires-clause-at_rest g c = c.requires.serving.at_rest

pub ready_reply-requires-clause-comes : goal.ready_reply-requires-clause-comes
ready_reply-requires-clause-comes g c =
    let r = c.requires.waits in
    let b = batch_on c.args.code.now r.0 r.1 r.2 r.3 in
    let t = told b r.5 r.4 c.args.store.now c.args.lanes.now c.args.reply c.args.delta r.6 in (
      comes_here b r.5 r.4 c.args.store.now c.args.lanes.now c.args.reply c.args.delta r.6 t.request,
      t.comes,
      told_rests b r.5 r.4 c.args.store.now c.args.lanes.now c.args.reply c.args.delta r.6 t,
    )

pub tell_lanes-requires : goal.tell_lanes-requires
tell_lanes-requires g c =
    let r = c.requires.waits in
    (batch_on c.args.code.now r.0 r.1 r.2 r.3, r.4, c.args.reply, c.args.delta, r.5, r.6, c.in_ok-ready.ensures.delta)

pub answer_ready-requires : goal.answer_ready-requires
answer_ready-requires g c =
    let r = c.requires.waits in
    let b = batch_on c.args.code.now r.0 r.1 r.2 r.3 in
    let t = told b r.5 r.4 c.args.store.now c.args.lanes.now c.args.reply c.args.delta r.6 in (
      c.args.code.now,
      item_of b r.5 r.4 c.args.store.now c.args.lanes.now c.args.reply c.args.delta r.6 t.request,
      c.in_ok-ready.ensures.gives t.request.id _ t.id t.comes (told_rests b r.5 r.4 c.args.store.now c.args.lanes.now c.args.reply c.args.delta r.6 t),
    )

pub returns : goal.returns
returns g c = λ limits area start requests turns can w.
    let b = batch_on c.args.code.now limits area start requests in
    let t = told b can turns c.args.store.now c.args.lanes.now c.args.reply c.args.delta w in
    let rests = told_rests b can turns c.args.store.now c.args.lanes.now c.args.reply c.args.delta w t in
    commits_as b can turns _ _ c.args.lanes.now c.tell_lanes.new.lanes c.args.reply c.args.delta w c.answer_ready.result
    (λ after now place. c.tell_lanes.ensures b turns c.args.reply c.args.delta after can w c.in_ok-ready.ensures.delta now place)
    (c.answer_ready.ensures c.args.code.now (item_of b can turns c.args.store.now c.args.lanes.now c.args.reply c.args.delta w t.request)
    (c.in_ok-ready.ensures.gives t.request.id _ t.id t.comes rests) c.requires.serving
    (invoked_rests c.args.code.now (area_of_store c.args.store.now) (state_of c.args.store.now) t.request.id _ c.requires.serving.at_rest rests))

pub returns-in_err-ready : goal.returns-in_err-ready
returns-in_err-ready g c = λ limits area start requests turns can w.
    let failed = err_from_is_err_and c.from_residual.result c.from_residual.ensures.1 in
    rw (failed.1, failed.2) (memory_stops (batch_on c.args.code.now limits area start requests) can turns c.args.store.now (g.K.Sink.view c.args.output.now) (g.D.Disk.view c.args.disk.now) w.few c.requires.serving)
