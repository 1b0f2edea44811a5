use Rattle.std.proofs.Common.{[]}
use Rattle.std.proofs.lemmas.Result.{err_from_is_err_and}
use Rattle.ob_code.specs.declared.image.Image.{Image}
use Rattle.ob_disk_spec.proofs.Untouched.{untouched_none}
use Rattle.ob_store.specs.Stores.{area_of_store, state_of}
use Rattle.ob_serve.specs.Items.{refused_item}
use Rattle.ob_serve.proofs.Progress.{stays_none}
use Rattle.ob_serve.proofs.Readied.{refused_gives}
use Rattle.ob_serve.proofs.Steps.{memory_out}
use Rattle.ob_serve.proofs.lines.answer_refusal.Goals as goal

no_image : Image
no_image = record { contracts = [] }

pub answer_ready-requires : goal.answer_ready-requires
answer_ready-requires g c = (no_image, refused_item (state_of c.args.store.now) c.args.refusal, refused_gives no_image c.args.store.now c.args.refusal c.in_ok-ready.ready c.in_ok-ready.ensures)

pub returns : goal.returns
returns g c = λ code limits area serving.
    c.answer_ready.ensures code (refused_item (state_of c.args.store.now) c.args.refusal) (refused_gives code c.args.store.now c.args.refusal c.in_ok-ready.ready c.in_ok-ready.ensures) serving serving.at_rest

pub returns-in_err-ready : goal.returns-in_err-ready
returns-in_err-ready g c = λ code limits area serving.
    let failed = err_from_is_err_and c.from_residual.result c.from_residual.ensures.1 in
    rw (failed.1, failed.2) (memory_out code c.args.store.now (g.K.Sink.view c.args.output.now) (g.D.Disk.view c.args.disk.now) serving _ c.args.store.now (g.D.Disk.view c.args.disk.now)
    (untouched_none (g.D.Disk.view c.args.disk.now)) (stays_none (area_of_store c.args.store.now) (g.D.Disk.view c.args.disk.now)))
