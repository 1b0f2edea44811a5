use Rattle.std.proofs.lemmas.Result.{err_from_is_err_and}
use Rattle.ob_disk_spec.proofs.Untouched.{untouched_none}
use Rattle.ob_heap.specs.Contents.{content_of}
use Rattle.ob_store.specs.Stores.{program_of, area_of_store, kept_of, state_of}
use Rattle.ob_store.proofs.Standing.{stands_image}
use Rattle.ob_wire.specs.Meanings.{request_of}
use Rattle.ob_serve.specs.Items.{by_machine, request_item}
use Rattle.ob_serve.proofs.Keeping.{invoked_rests}
use Rattle.ob_serve.proofs.Progress.{stays_none}
use Rattle.ob_serve.proofs.Steps.{memory_out}
use Rattle.ob_serve.proofs.lines.answer_request.Goals as goal

pub ready_request-requires-clause-storable : goal.ready_request-requires-clause-storable
ready_request-requires-clause-storable g c = c.requires.servable.storable

pub ready_request-requires-clause-image : goal.ready_request-requires-clause-image
ready_request-requires-clause-image g c = stands_image (program_of c.args.code.now) c.args.store.now (g.D.Disk.view c.args.disk.now) c.requires.serving.stands

pub ready_request-requires-clause-owners : goal.ready_request-requires-clause-owners
ready_request-requires-clause-owners g c = c.requires.serving.stands.owners

pub ready_request-requires-clause-at_rest : goal.ready_request-requires-clause-at_rest
ready_request-requires-clause-at_rest g c = c.requires.serving.at_rest

pub ready_request-requires-clause-rests : goal.ready_request-requires-clause-rests
ready_request-requires-clause-rests g c =
    c.requires.servable.sound.rests (content_of (kept_of c.args.store.now)) (request_of c.args.request.now) c.args.limits.fuel c.requires.serving.at_rest c.requires.labels

pub answer_ready-requires : goal.answer_ready-requires
answer_ready-requires g c =
    (c.args.code.now, request_item (by_machine c.args.code.now c.args.limits (area_of_store c.args.store.now)) (state_of c.args.store.now) c.args.request.now, c.in_ok-ready.ensures)

pub returns : goal.returns
returns g c =
    c.answer_ready.ensures c.args.code.now (request_item (by_machine c.args.code.now c.args.limits (area_of_store c.args.store.now)) (state_of c.args.store.now) c.args.request.now)
    c.in_ok-ready.ensures c.requires.serving
    (invoked_rests c.args.code.now (area_of_store c.args.store.now) (state_of c.args.store.now) c.args.request.now.id _ c.requires.serving.at_rest
    (c.requires.servable.sound.rests (content_of (kept_of c.args.store.now)) (request_of c.args.request.now) c.args.limits.fuel c.requires.serving.at_rest c.requires.labels))

pub returns-in_err-ready : goal.returns-in_err-ready
returns-in_err-ready g c =
    let failed = err_from_is_err_and c.from_residual.result c.from_residual.ensures.1 in
    rw (failed.1, failed.2) (memory_out c.args.code.now c.args.store.now (g.K.Sink.view c.args.output.now) (g.D.Disk.view c.args.disk.now) c.requires.serving _ c.args.store.now (g.D.Disk.view c.args.disk.now)
    (untouched_none (g.D.Disk.view c.args.disk.now)) (stays_none (area_of_store c.args.store.now) (g.D.Disk.view c.args.disk.now)))
