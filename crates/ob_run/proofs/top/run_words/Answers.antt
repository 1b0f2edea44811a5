use Rattle.std.proofs.Common.{sym, refl}
use Rattle.std.specs.Prelude.{map, string_bytes}
use Rattle.ob_words.specs.Asked.{asked_of}
use Rattle.ob_words.specs.AskedView.{asked_view}
use Rattle.ob_outside.specs.Outside.{told}
use Rattle.ob_run.specs.FileAsks.{file_asked}
use Rattle.ob_run.proofs.LimitLemmas.{in_range}
use Rattle.ob_run.proofs.TopLemmas.{asks_nothing, treated, treated_own}
use Rattle.ob_run.specs.Attaching.{store_asked}
use Rattle.ob_run.proofs.AttachingLemmas.{uses_nothing, uses_asked}
use Rattle.ob_run.proofs.top.run_words.Goals as goal

-- ---- the settings are in their ranges

pub treat-requires-clause-lanes : goal.treat-requires-clause-lanes
treat-requires-clause-lanes g c = (in_range (map string_bytes c.args.words.now) (asked_view c.in-Ok.asked) c.in-Ok.ensures.ok).lanes

pub treat-requires-clause-most_lanes : goal.treat-requires-clause-most_lanes
treat-requires-clause-most_lanes g c = (in_range (map string_bytes c.args.words.now) (asked_view c.in-Ok.asked) c.in-Ok.ensures.ok).most_lanes

pub treat-requires-clause-slice : goal.treat-requires-clause-slice
treat-requires-clause-slice g c = (in_range (map string_bytes c.args.words.now) (asked_view c.in-Ok.asked) c.in-Ok.ensures.ok).slice

pub treat-exit-requires-clause-lanes : goal.treat-exit-requires-clause-lanes
treat-exit-requires-clause-lanes g c = (in_range (map string_bytes c.args.words.now) (asked_view c.in-Ok.asked) c.in-Ok.ensures.ok).lanes

pub treat-exit-requires-clause-most_lanes : goal.treat-exit-requires-clause-most_lanes
treat-exit-requires-clause-most_lanes g c = (in_range (map string_bytes c.args.words.now) (asked_view c.in-Ok.asked) c.in-Ok.ensures.ok).most_lanes

pub treat-exit-requires-clause-slice : goal.treat-exit-requires-clause-slice
treat-exit-requires-clause-slice g c = (in_range (map string_bytes c.args.words.now) (asked_view c.in-Ok.asked) c.in-Ok.ensures.ok).slice

-- ---- what the status says

-- the text of a trial is the command's own
pub returns-in_default-clause-status : goal.returns-in_default-clause-status
returns-in_default-clause-status g c =
    treated_own _ (told g.F.Files.view g.S.Source.view g.K.Sink.view g.D.Disk.view c.args.outside.now) (told g.F.Files.view g.S.Source.view g.K.Sink.view g.D.Disk.view c.treat.new.outside)
    (asked_view c.in-Ok.asked) c.treat.result c.in-Ok.ensures.ok (sym c.in_default.ensures) (rw c.treat.ensures.files refl)
    (rw (c.as_bytes.ensures.value, c.vending_machine.ensures) at c.treat.ensures.treats)

-- the text of P, as far as it was read
pub returns-in-Ok-read_text-clause-status : goal.returns-in-Ok-read_text-clause-status
returns-in-Ok-read_text-clause-status g c =
    treated _ (told g.F.Files.view g.S.Source.view g.K.Sink.view g.D.Disk.view c.args.outside.now) (told g.F.Files.view g.S.Source.view g.K.Sink.view g.D.Disk.view c.treat-exit.new.outside)
    (asked_view c.in-Ok.asked) c.in-Some.name.now c.in-Ok-read_text.text.items c.treat-exit.result c.in-Ok.ensures.ok (sym c.in-Some.ensures)
    (rw c.treat-exit.ensures.files c.in-Ok-read_text.ensures.asks) c.in-Ok-read_text.ensures.text (rw c.deref.ensures.value at c.treat-exit.ensures.treats)

-- nothing was asked
pub returns-in-Err-Memory-clause-asks : goal.returns-in-Err-Memory-clause-asks
returns-in-Err-Memory-clause-asks g c = asks_nothing (file_asked (asked_of (map string_bytes c.args.words.now))) (g.F.Files.view c.args.outside.now.files).asks

-- ---- the calls of the disk

pub returns-in_default-clause-disk : goal.returns-in_default-clause-disk
returns-in_default-clause-disk g c =
    uses_asked (asked_of (map string_bytes c.args.words.now)) (asked_view c.in-Ok.asked) (g.D.Disk.view c.args.outside.now.disk) (g.D.Disk.view c.treat.new.outside.disk) c.in-Ok.ensures.ok c.treat.ensures.disk

pub returns-in-Ok-read_text-clause-disk : goal.returns-in-Ok-read_text-clause-disk
returns-in-Ok-read_text-clause-disk g c =
    uses_asked (asked_of (map string_bytes c.args.words.now)) (asked_view c.in-Ok.asked) (g.D.Disk.view c.args.outside.now.disk) (g.D.Disk.view c.treat-exit.new.outside.disk) c.in-Ok.ensures.ok c.treat-exit.ensures.disk

pub returns-in-Err-Usage-clause-disk : goal.returns-in-Err-Usage-clause-disk
returns-in-Err-Usage-clause-disk g c = uses_nothing (store_asked (asked_of (map string_bytes c.args.words.now))) (g.D.Disk.view c.args.outside.now.disk)

pub returns-in-Err-Memory-clause-disk : goal.returns-in-Err-Memory-clause-disk
returns-in-Err-Memory-clause-disk g c = uses_nothing (store_asked (asked_of (map string_bytes c.args.words.now))) (g.D.Disk.view c.args.outside.now.disk)

pub returns-in-Err-Failed-clause-disk : goal.returns-in-Err-Failed-clause-disk
returns-in-Err-Failed-clause-disk g c = uses_nothing (store_asked (asked_of (map string_bytes c.args.words.now))) (g.D.Disk.view c.args.outside.now.disk)

pub returns-in-Err-Memory-read_text-clause-disk : goal.returns-in-Err-Memory-read_text-clause-disk
returns-in-Err-Memory-read_text-clause-disk g c = uses_nothing (store_asked (asked_of (map string_bytes c.args.words.now))) (g.D.Disk.view c.args.outside.now.disk)
