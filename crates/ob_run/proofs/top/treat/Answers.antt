use Rattle.std.proofs.Common.{refl}
use Rattle.ob_outside.specs.Devices.{Devices}
use Rattle.ob_words.specs.AskedView.{asked_view}
use Rattle.ob_outside.specs.Outside.{told, devices}
use Rattle.ob_run.proofs.SessionLemmas.{spared, told_alone}
use Rattle.ob_run.specs.Attaching.{store_of}
use Rattle.ob_run.proofs.AttachingLemmas.{uses_nothing}
use Rattle.ob_run.proofs.top.treat.Goals as goal

pub returns-in-Check-clause-treats : goal.returns-in-Check-clause-treats
returns-in-Check-clause-treats g c =
    let old : Devices = devices (told g.F.Files.view g.S.Source.view g.K.Sink.view g.D.Disk.view c.args.outside.now) in
    let new : Devices = record { input = old.input; output = g.K.Sink.view c.check_text.new.output; disk = old.disk } in
    told_alone (asked_view c.args.asked) c.args.text.now old new c.check_text.result (rw c.in-Check.is (c.check_text.ensures.tells c.in-Check.field-0.now)) refl (spared old.disk)

pub returns-in-Serve-clause-treats : goal.returns-in-Serve-clause-treats
returns-in-Serve-clause-treats g c = rw c.in-Serve.is (c.serve_text.ensures.treats c.in-Serve.field-0.now)

pub returns-in-ServeStored-clause-treats : goal.returns-in-ServeStored-clause-treats
returns-in-ServeStored-clause-treats g c =
    rw c.in-ServeStored.is (c.serve_text_stored.ensures.treats c.in-ServeStored.field-0.now)

pub returns-in-Audit-clause-treats : goal.returns-in-Audit-clause-treats
returns-in-Audit-clause-treats g c =
    rw c.in-Audit.is (c.audit_store.ensures.treats c.in-Audit.field-0.now c.args.asked.limits.fuel c.args.asked.limits.lanes c.args.asked.limits.slice)

pub returns-in-Trial-clause-treats : goal.returns-in-Trial-clause-treats
returns-in-Trial-clause-treats g c =
    let old : Devices = devices (told g.F.Files.view g.S.Source.view g.K.Sink.view g.D.Disk.view c.args.outside.now) in
    let new : Devices = record { input = old.input; output = g.K.Sink.view c.try_text.new.output; disk = old.disk } in
    told_alone (asked_view c.args.asked) c.args.text.now old new c.try_text.result (rw c.in-Trial.is c.try_text.ensures.tells) refl (spared old.disk)

-- ---- the calls of the disk

pub returns-in-Check-clause-disk : goal.returns-in-Check-clause-disk
returns-in-Check-clause-disk g c = uses_nothing (store_of (asked_view c.args.asked).command) (g.D.Disk.view c.args.outside.now.disk)

pub returns-in-Serve-clause-disk : goal.returns-in-Serve-clause-disk
returns-in-Serve-clause-disk g c = rw c.in-Serve.is c.serve_text.ensures.disk

pub returns-in-ServeStored-clause-disk : goal.returns-in-ServeStored-clause-disk
returns-in-ServeStored-clause-disk g c = rw c.in-ServeStored.is c.serve_text_stored.ensures.disk

pub returns-in-Audit-clause-disk : goal.returns-in-Audit-clause-disk
returns-in-Audit-clause-disk g c = rw c.in-Audit.is c.audit_store.ensures.disk

pub returns-in-Trial-clause-disk : goal.returns-in-Trial-clause-disk
returns-in-Trial-clause-disk g c = uses_nothing (store_of (asked_view c.args.asked).command) (g.D.Disk.view c.args.outside.now.disk)
