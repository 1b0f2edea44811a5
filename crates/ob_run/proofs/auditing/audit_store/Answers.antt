use Rattle.std.proofs.Common.{inl, inr, map, Some, refl}
use Rattle.ob_silica.specs.TermsView.{silica_body_of}
use Rattle.ob_outside.specs.Devices.{Devices}
use Rattle.ob_words.specs.Asked.{audit}
use Rattle.ob_outside.specs.Outside.{told, devices}
use Rattle.ob_run.specs.StoreLine.{refusal_view}
use Rattle.ob_run.specs.TextRead.{asked_with}
use Rattle.ob_run.proofs.AttachingLemmas.{uses_nothing}
use Rattle.ob_run.proofs.AuditingLemmas.{audited}
use Rattle.ob_run.proofs.OpeningLemmas.{leaves, refused_by_store}
use Rattle.ob_run.proofs.SessionLemmas.{spared, told_alone}
use Rattle.ob_run.proofs.auditing.audit_store.Goals as goal

-- the text has no program
pub returns-in-Err-clause-treats : goal.returns-in-Err-clause-treats
returns-in-Err-clause-treats g c = λ file fuel lanes slice.
    let old : Devices = devices (told g.F.Files.view g.S.Source.view g.K.Sink.view g.D.Disk.view c.args.outside.now) in
    let new : Devices = record { input = old.input; output = g.K.Sink.view c.refuse.new.output; disk = old.disk } in
    told_alone (asked_with (audit file c.args.name.now) fuel lanes slice) c.args.text.now old new c.refuse.result
    (c.refuse.ensures.tells (audit file c.args.name.now) c.args.text.now c.in-Err.ensures.fault) refl (spared old.disk)

-- the numbers are those of the text's program
pub returns-in-Ok-count_named-clause-treats : goal.returns-in-Ok-count_named-clause-treats
returns-in-Ok-count_named-clause-treats g c = λ file fuel lanes slice.
    let program = c.in-Ok.program in
    let old : Devices = devices (told g.F.Files.view g.S.Source.view g.K.Sink.view g.D.Disk.view c.args.outside.now) in
    let new : Devices = record { input = old.input; output = g.K.Sink.view c.tell_counts.new.output; disk = g.D.Disk.view c.count_named.new.disk } in
    audited program.table (map silica_body_of program.bodies) program.code c.in-Ok.ensures.compiled c.in-Ok.ensures.code c.in-Ok.ensures.sound_code c.args.text.now c.in-Ok.ensures.program
    file c.args.name.now old new c.in-Ok-count_named.counts c.tell_counts.result c.in-Ok-count_named.ensures.counts.0 c.in-Ok-count_named.ensures.counts.1 c.tell_counts.ensures.tells refl fuel lanes slice

-- the store is refused
pub returns-in-Err-Refused-clause-treats : goal.returns-in-Err-Refused-clause-treats
returns-in-Err-Refused-clause-treats g c = λ file fuel lanes slice.
    let program = c.in-Ok.program in
    let old : Devices = devices (told g.F.Files.view g.S.Source.view g.K.Sink.view g.D.Disk.view c.args.outside.now) in
    let new : Devices = record { input = old.input; output = g.K.Sink.view c.refuse_store.new.output; disk = g.D.Disk.view c.count_named.new.disk } in
    let counts = rw c.in-Err-Refused.field-0-is at c.in-Err-Refused.ensures.counts in
    refused_by_store program.table (map silica_body_of program.bodies) program.code c.in-Ok.ensures.compiled c.in-Ok.ensures.code c.in-Ok.ensures.sound_code c.args.text.now c.in-Ok.ensures.program
    (audit file c.args.name.now) c.args.name.now refl old new (refusal_view c.in-Err-Refused.refusal) c.refuse_store.result c.refuse_store.ensures.tells counts.0 counts.1 refl fuel lanes slice

-- the disk failed
pub returns-in-Err-DiskFault-clause-treats : goal.returns-in-Err-DiskFault-clause-treats
returns-in-Err-DiskFault-clause-treats g c = λ file fuel lanes slice.
    let program = c.in-Ok.program in
    let old : Devices = devices (told g.F.Files.view g.S.Source.view g.K.Sink.view g.D.Disk.view c.args.outside.now) in
    let new : Devices = record { input = old.input; output = old.output; disk = g.D.Disk.view c.count_named.new.disk } in
    let counts = rw c.in-Err-DiskFault.field-0-is at c.in-Err-DiskFault.ensures.counts in
    inl (
      leaves program.table (map silica_body_of program.bodies) program.code c.in-Ok.ensures.compiled c.in-Ok.ensures.code c.in-Ok.ensures.sound_code c.args.text.now c.in-Ok.ensures.program
          (audit file c.args.name.now) c.args.name.now refl old new counts.0 refl refl,
      counts.1,
    )

-- memory ran out
pub returns-clause-treats : goal.returns-clause-treats
returns-clause-treats g c = λ file fuel lanes slice.
    let program = c.in-Ok.program in
    let old : Devices = devices (told g.F.Files.view g.S.Source.view g.K.Sink.view g.D.Disk.view c.args.outside.now) in
    let new : Devices = record { input = old.input; output = old.output; disk = g.D.Disk.view c.count_named.new.disk } in
    inr (inl (leaves program.table (map silica_body_of program.bodies) program.code c.in-Ok.ensures.compiled c.in-Ok.ensures.code c.in-Ok.ensures.sound_code c.args.text.now c.in-Ok.ensures.program
    (audit file c.args.name.now) c.args.name.now refl old new (rw c.in-Err-Memory.field-0-is at c.in-Err-Memory.ensures.counts) refl refl))

-- ---- the calls of the disk

pub returns-in-Err-clause-disk : goal.returns-in-Err-clause-disk
returns-in-Err-clause-disk g c = uses_nothing (Some c.args.name.now) (g.D.Disk.view c.args.outside.now.disk)
