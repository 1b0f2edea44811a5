use Rattle.std.proofs.Common.{inl, inr, map, Some, refl, sym, subst, arith}
use Rattle.ob_base.specs.Limits.{area_bytes}
use Rattle.ob_silica.specs.TermsView.{silica_body_of}
use Rattle.ob_outside.specs.Devices.{Devices}
use Rattle.ob_words.specs.Asked.{serve_stored}
use Rattle.ob_outside.specs.Outside.{told, devices}
use Rattle.ob_run.specs.Statuses.{Treats}
use Rattle.ob_run.specs.StoreLine.{refusal_view}
use Rattle.ob_run.specs.TextRead.{asked_with}
use Rattle.ob_outside.specs.declared.exit.Exit.{Exit}
use Rattle.ob_run.proofs.SessionLemmas.{spared, told_alone, ends_session, is_servable, light_image, serves_stored}
use Rattle.ob_run.proofs.OpeningLemmas.{opens_not, refused_by_store}
use Rattle.ob_run.proofs.AttachingLemmas.{uses_nothing, uses_attached}
use Rattle.ob_run.proofs.serving.serve_text_stored.Goals as goal

-- the text has no program
pub returns-in-Err-clause-treats : goal.returns-in-Err-clause-treats
returns-in-Err-clause-treats g c = λ file.
    let old : Devices = devices (told g.F.Files.view g.S.Source.view g.K.Sink.view g.D.Disk.view c.args.outside.now) in
    let new : Devices = record { input = old.input; output = g.K.Sink.view c.refuse.new.output; disk = old.disk } in
    told_alone (asked_with (serve_stored file c.args.name.now) c.args.limits.fuel c.args.limits.lanes c.args.limits.slice) c.args.text.now old new c.refuse.result
    (c.refuse.ensures.tells (serve_stored file c.args.name.now) c.args.text.now c.in-Err.ensures.fault) refl (spared old.disk)

pub open_named-requires-clause-light : goal.open_named-requires-clause-light
open_named-requires-clause-light g c =
    let program = c.in-Ok.program in light_image c.args.text.now program.table (map silica_body_of program.bodies) program.code c.in-Ok.ensures.program c.in-Ok.ensures.compiled c.in-Ok.ensures.code

pub serve-served-requires-clause-servable : goal.serve-served-requires-clause-servable
serve-served-requires-clause-servable g c =
    let program = c.in-Ok.program in is_servable program.table (map silica_body_of program.bodies) program.code c.in-Ok.ensures.compiled c.in-Ok.ensures.code c.in-Ok.ensures.sound_code

-- the store is refused
pub returns-in-Err-Refused-clause-treats : goal.returns-in-Err-Refused-clause-treats
returns-in-Err-Refused-clause-treats g c = λ file.
    let program = c.in-Ok.program in
    let old : Devices = devices (told g.F.Files.view g.S.Source.view g.K.Sink.view g.D.Disk.view c.args.outside.now) in
    let new : Devices = record { input = old.input; output = g.K.Sink.view c.refuse_store.new.output; disk = g.D.Disk.view c.open_named.new.disk } in
    let opens = rw c.in-Err-Refused.field-0-is at c.in-Err-Refused.ensures.opens in
    refused_by_store program.table (map silica_body_of program.bodies) program.code c.in-Ok.ensures.compiled c.in-Ok.ensures.code c.in-Ok.ensures.sound_code c.args.text.now c.in-Ok.ensures.program
    (serve_stored file c.args.name.now) c.args.name.now refl old new (refusal_view c.in-Err-Refused.refusal) c.refuse_store.result (rw c.in-Err-Refused.field-0-is at c.refuse_store.ensures.tells) opens.0 opens.1 refl c.args.limits.fuel c.args.limits.lanes c.args.limits.slice

pub returns-in-Err-DiskFault-clause-treats : goal.returns-in-Err-DiskFault-clause-treats
returns-in-Err-DiskFault-clause-treats g c = λ file.
    let program = c.in-Ok.program in
    let old : Devices = devices (told g.F.Files.view g.S.Source.view g.K.Sink.view g.D.Disk.view c.args.outside.now) in
    let new : Devices = record { input = old.input; output = old.output; disk = g.D.Disk.view c.open_named.new.disk } in
    let opens = rw c.in-Err-DiskFault.field-0-is at c.in-Err-DiskFault.ensures.opens in
    inl (
      opens_not program.table (map silica_body_of program.bodies) program.code c.in-Ok.ensures.compiled c.in-Ok.ensures.code c.in-Ok.ensures.sound_code c.args.text.now c.in-Ok.ensures.program
          file c.args.name.now old new opens.0 refl refl,
      opens.1,
    )

pub returns-in-Err-Memory-clause-treats : goal.returns-in-Err-Memory-clause-treats
returns-in-Err-Memory-clause-treats g c = λ file.
    let program = c.in-Ok.program in
    let old : Devices = devices (told g.F.Files.view g.S.Source.view g.K.Sink.view g.D.Disk.view c.args.outside.now) in
    let new : Devices = record { input = old.input; output = old.output; disk = g.D.Disk.view c.open_named.new.disk } in
    inr (inl (opens_not program.table (map silica_body_of program.bodies) program.code c.in-Ok.ensures.compiled c.in-Ok.ensures.code c.in-Ok.ensures.sound_code c.args.text.now c.in-Ok.ensures.program
    file c.args.name.now old new (rw c.in-Err-Memory.field-0-is at c.in-Err-Memory.ensures.opens) refl refl))

-- the run ends as the session of the program does
pub returns-clause-treats : goal.returns-clause-treats
returns-clause-treats g c = λ file.
    let program = c.in-Ok.program in
    let bodies = map silica_body_of program.bodies in
    let sound = (c.in-Ok.ensures.sound_code) in
    let old : Devices = devices (told g.F.Files.view g.S.Source.view g.K.Sink.view g.D.Disk.view c.args.outside.now) in
    let mid : Devices = record { input = old.input; output = old.output; disk = g.D.Disk.view c.open_named.new.disk } in
    let new : Devices = record { input = g.S.Source.view c.serve-served.new.input; output = g.K.Sink.view c.serve-served.new.output; disk = g.D.Disk.view c.serve-served.new.disk } in
    subst (λ (e : Exit). Treats (asked_with (serve_stored file c.args.name.now) c.args.limits.fuel c.args.limits.lanes c.args.limits.slice) c.args.text.now old new e) (sym c.exit_of.ensures)
    (ends_session (asked_with (serve_stored file c.args.name.now) c.args.limits.fuel c.args.limits.lanes c.args.limits.slice) c.args.text.now old new c.serve-served.result
    (serves_stored program.table bodies program.code c.in-Ok.ensures.compiled c.in-Ok.ensures.code sound c.args.text.now c.in-Ok.ensures.program c.args.limits (record { lanes = omega (arith, c.requires.lanes); slice = omega (arith, c.requires.slice) }) file c.args.name.now old mid new c.serve-served.result
    c.in-Ok-open_named.store refl refl c.open_named.ensures.faults.later c.in-Ok-open_named.ensures.opens
    (c.serve-served.ensures.ends (record { table = program.table; bodies = bodies }) (record { sound = sound; emitted = c.in-Ok.ensures.code; table = c.in-Ok.ensures.compiled.lowered.table }))
    c.serve-served.ensures.most_bytes))

-- ---- the calls of the disk

pub returns-in-Err-clause-disk : goal.returns-in-Err-clause-disk
returns-in-Err-clause-disk g c = uses_nothing (Some c.args.name.now) (g.D.Disk.view c.args.outside.now.disk)

pub returns-clause-disk : goal.returns-clause-disk
returns-clause-disk g c =
    uses_attached c.args.name.now (g.D.Disk.view c.args.outside.now.disk) (g.D.Disk.view c.open_named.new.disk) (g.D.Disk.view c.serve-served.new.disk) c.in-Ok-open_named.ensures.attached
    c.serve-served.ensures.attaches c.open_named.ensures.disk.behind (c.serve-served.ensures.behind area_bytes c.in-Ok-open_named.ensures.opens.area)
