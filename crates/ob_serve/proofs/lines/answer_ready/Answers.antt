use Rattle.std.proofs.Common.{◌≡◌, ap, ◌∙◌}
use Rattle.std.specs.Prelude.{Err}
use Rattle.ob_store.specs.Stores.{program_of}
use Rattle.ob_serve.specs.declared.committing.KeepError.{KeepError}
use Rattle.ob_serve.specs.declared.committing.KeepError.TheVariants.{Memory as KeepMemory, DiskFault as KeepFault}
use Rattle.ob_serve.proofs.Committed.{keeps_quiet, disk_rose}
use Rattle.ob_serve.proofs.Steps.{memory_out, disk_out, write_out, all_done}
use Rattle.ob_serve.proofs.lines.answer_ready.Goals as goal

pub keep-requires : goal.keep-requires
keep-requires g c = (program_of c.requires.0, c.requires.1.after, c.requires.2.next)

pub returns-in-Err-Memory : goal.returns-in-Err-Memory
returns-in-Err-Memory g c = λ code item gives serving rests.
    let is : c.keep.result ≡ Err KeepMemory = c.in-Err-Memory.is ∙ ap (λ (e : KeepError). Err e) c.in-Err-Memory.field-0-is in
    memory_out code c.args.store.now (g.K.Sink.view c.args.output.now) (g.D.Disk.view c.args.disk.now) serving _ c.keep.new.store (g.D.Disk.view c.keep.new.disk)
    (keeps_quiet c.keep.result _ _ is c.keep.ensures.memory) (record { untouched = c.keep.ensures.untouched; behind = c.keep.ensures.behind; attaches = c.keep.ensures.attaches })

pub returns-in-Err-DiskFault : goal.returns-in-Err-DiskFault
returns-in-Err-DiskFault g c = λ code item gives serving rests.
    let is : c.keep.result ≡ Err KeepFault = c.in-Err-DiskFault.is ∙ ap (λ (e : KeepError). Err e) c.in-Err-DiskFault.field-0-is in
    disk_out code c.args.store.now (g.K.Sink.view c.args.output.now) (g.D.Disk.view c.args.disk.now) serving item c.keep.new.store (g.D.Disk.view c.keep.new.disk)
    (c.keep.ensures.crash (program_of code) item.after gives.next serving.at_rest serving.stands) (record { untouched = c.keep.ensures.untouched; behind = c.keep.ensures.behind; attaches = c.keep.ensures.attaches })
    (λ none. c.keep.ensures.sure none is)
    (record { rose = disk_rose c.keep.result _ _ is c.keep.ensures.cause; later = c.keep.ensures.later; once = c.keep.ensures.once })

pub returns : goal.returns
returns g c = λ code item gives serving rests.
    let front = rw (c.deref.ensures.value, gives.reply) at c.in-Err.ensures.err in
    write_out code c.args.store.now (g.K.Sink.view c.args.output.now) (g.D.Disk.view c.args.disk.now) serving item c.keep.new.store (g.D.Disk.view c.keep.new.disk)
    (c.keep.ensures.crash (program_of code) item.after gives.next serving.at_rest serving.stands) (record { untouched = c.keep.ensures.untouched; behind = c.keep.ensures.behind; attaches = c.keep.ensures.attaches })
    c.keep.ensures.area (c.in-Ok.ensures.kept (program_of code) item.after gives.next) rests (c.in-Ok.ensures.stands (program_of code) item.after gives.next serving.stands)
    (c.in-Ok.ensures.calm (λ e. cc e)) _ front
    (record { rose = c.in-Err.ensures.cause.failed; later = c.in-Err.ensures.cause.later; once = c.in-Err.ensures.cause.once })

pub returns-in-Ok-write_all : goal.returns-in-Ok-write_all
returns-in-Ok-write_all g c = λ code item gives serving rests.
    let whole = rw (c.deref.ensures.value, gives.reply) at c.in-Ok-write_all.ensures.ok in
    all_done code c.args.store.now (g.K.Sink.view c.args.output.now) (g.D.Disk.view c.args.disk.now) serving item c.keep.new.store (g.D.Disk.view c.keep.new.disk)
    (c.keep.ensures.crash (program_of code) item.after gives.next serving.at_rest serving.stands) (record { untouched = c.keep.ensures.untouched; behind = c.keep.ensures.behind; attaches = c.keep.ensures.attaches })
    c.keep.ensures.area (c.in-Ok.ensures.kept (program_of code) item.after gives.next) rests (c.in-Ok.ensures.stands (program_of code) item.after gives.next serving.stands)
    (c.in-Ok.ensures.calm (λ e. cc e)) _ whole c.in-Ok-write_all.ensures.cause.calm
