use Rattle.std.proofs.Common.{inl, map, None, refl, sym, subst, arith}
use Rattle.ob_silica.specs.TermsView.{silica_body_of}
use Rattle.ob_outside.specs.Devices.{Devices}
use Rattle.ob_words.specs.Asked.{serve}
use Rattle.ob_outside.specs.Outside.{told, devices}
use Rattle.ob_run.specs.Statuses.{Treats}
use Rattle.ob_run.specs.TextRead.{asked_with}
use Rattle.ob_outside.specs.declared.exit.Exit.{Exit}
use Rattle.ob_run.proofs.SessionLemmas.{spared, told_alone, ends_session, is_servable, stands_in_memory, begins_in_memory, rests_in_memory, serves_in_memory}
use Rattle.ob_store.specs.Stores.{program_of}
use Rattle.ob_run.proofs.AttachingLemmas.{uses_nothing, uses_untouched}
use Rattle.ob_run.proofs.serving.serve_text.Goals as goal

-- the text has no program
pub returns-in-Err-clause-treats : goal.returns-in-Err-clause-treats
returns-in-Err-clause-treats g c = λ name.
    let old : Devices = devices (told g.F.Files.view g.S.Source.view g.K.Sink.view g.D.Disk.view c.args.outside.now) in
    let new : Devices = record { input = old.input; output = g.K.Sink.view c.refuse.new.output; disk = old.disk } in
    told_alone (asked_with (serve name) c.args.limits.fuel c.args.limits.lanes c.args.limits.slice) c.args.text.now old new c.refuse.result
    (c.refuse.ensures.tells (serve name) c.args.text.now c.in-Err.ensures.fault) refl (spared old.disk)

pub serve-served-requires-clause-servable : goal.serve-served-requires-clause-servable
serve-served-requires-clause-servable g c =
    let program = c.in-Ok.program in is_servable program.table (map silica_body_of program.bodies) program.code c.in-Ok.ensures.compiled c.in-Ok.ensures.code c.in-Ok.ensures.sound_code

pub serve-served-requires-clause-at_rest : goal.serve-served-requires-clause-at_rest
serve-served-requires-clause-at_rest g c = rests_in_memory c.in-Ok.program.code c.in-Ok-blank.store c.in-Ok-blank.ensures.content

pub serve-served-requires-clause-stands : goal.serve-served-requires-clause-stands
serve-served-requires-clause-stands g c = stands_in_memory (program_of c.in-Ok.program.code) c.in-Ok-blank.store (g.D.Disk.view c.args.outside.now.disk) c.in-Ok-blank.ensures.memory
    c.in-Ok-blank.ensures.owners

-- no memory is left for a store
pub returns-in-Err-blank-clause-treats : goal.returns-in-Err-blank-clause-treats
returns-in-Err-blank-clause-treats g c = λ name. inl (record { input = refl; output = refl; disk = spared _ })

-- the run ends as the session of the program does
pub returns-clause-treats : goal.returns-clause-treats
returns-clause-treats g c = λ name.
    let old : Devices = devices (told g.F.Files.view g.S.Source.view g.K.Sink.view g.D.Disk.view c.args.outside.now) in
    let new : Devices = record { input = g.S.Source.view c.serve-served.new.input; output = g.K.Sink.view c.serve-served.new.output; disk = g.D.Disk.view c.serve-served.new.disk } in
    let program = c.in-Ok.program in
    let bodies = map silica_body_of program.bodies in
    let sound = (c.in-Ok.ensures.sound_code) in
    subst (λ (e : Exit). Treats (asked_with (serve name) c.args.limits.fuel c.args.limits.lanes c.args.limits.slice) c.args.text.now old new e) (sym c.exit_of.ensures)
    (ends_session (asked_with (serve name) c.args.limits.fuel c.args.limits.lanes c.args.limits.slice) c.args.text.now old new c.serve-served.result
    (serves_in_memory program.table bodies program.code c.in-Ok.ensures.compiled c.in-Ok.ensures.code sound c.args.text.now c.in-Ok.ensures.program c.args.limits (record { lanes = omega (arith, c.requires.lanes); slice = omega (arith, c.requires.slice) }) name old new c.serve-served.result c.in-Ok-blank.store
    c.in-Ok-blank.ensures.content c.in-Ok-blank.ensures.memory (begins_in_memory c.in-Ok-blank.store c.in-Ok-blank.ensures.content c.in-Ok-blank.ensures.memory)
    (c.serve-served.ensures.ends (record { table = program.table; bodies = bodies }) (record { sound = sound; emitted = c.in-Ok.ensures.code; table = c.in-Ok.ensures.compiled.lowered.table }))
    (c.serve-served.ensures.untouched c.in-Ok-blank.ensures.memory) (c.serve-served.ensures.sure c.in-Ok-blank.ensures.memory) c.serve-served.ensures.most_bytes))

-- no call of the disk is made
pub returns-in-Err-clause-disk : goal.returns-in-Err-clause-disk
returns-in-Err-clause-disk g c = uses_nothing None (g.D.Disk.view c.args.outside.now.disk)

pub returns-in-Err-blank-clause-disk : goal.returns-in-Err-blank-clause-disk
returns-in-Err-blank-clause-disk g c = uses_nothing None (g.D.Disk.view c.args.outside.now.disk)

pub returns-clause-disk : goal.returns-clause-disk
returns-clause-disk g c = uses_untouched (g.D.Disk.view c.args.outside.now.disk) (g.D.Disk.view c.serve-served.new.disk) (c.serve-served.ensures.untouched c.in-Ok-blank.ensures.memory)
