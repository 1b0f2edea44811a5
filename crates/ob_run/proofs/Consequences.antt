-- What follows from what a run says: which of four ways a command went, what a crash leaves whatever the status, what each kind of
-- command needs to be Done, and the corollary.
use Rattle.std.specs.Prelude.{⊤}
use Rattle.std.proofs.Common.{◌≡◌, ◌⊎◌, inl, inr, ℕ, List, Option, Some, subst}
use Rattle.ob_disk_spec.specs.Disk.{DiskView}
use Rattle.ob_io.specs.Causes.{Rose}
use Rattle.ob_io.specs.Told.{Gives}
use Rattle.ob_table.specs.Tables.{ClassTable}
use Rattle.ob_silica.specs.Terms.{SilicaBody}
use Rattle.ob_front.specs.Programs.{IsProgram}
use Rattle.ob_store.specs.Unchanged.{KeepsBytes}
use Rattle.ob_store.proofs.Unchanged.{kept_untouched}
use Rattle.ob_store_spec.specs.Stores.{StoreState}
use Rattle.ob_serve.specs.Served.{IsToldAs, SpeaksOf}
use Rattle.ob_outside.specs.Devices.{Devices}
use Rattle.ob_serve.specs.Session.{items_from}
use Rattle.ob_serve.specs.declared.serving.Served.{Served}
use Rattle.ob_serve.specs.declared.serving.Served.TheVariants as ended
use Rattle.ob_words.specs.Asked.{Command, check, serve, serve_stored, audit, trial, Asked}
use Rattle.ob_run.specs.Auditing.{AuditsStore}
use Rattle.ob_run.specs.Commands.{file_of, text_in}
use Rattle.ob_run.specs.Corollary.{ServesObservable}
use Rattle.ob_run.specs.Openings.{RefusesStore, OpensNot}
use Rattle.ob_outside.specs.Outside.{OutsideView, devices}
use Rattle.ob_run.specs.Reasons.{HasInput, HasInputFor, HasStoreFor}
use Rattle.ob_run.specs.Runs.{IsRun}
use Rattle.ob_run.specs.Sessions.{program_with, BeginsAt, StandsOnDisk, source_items, ServesProgram}
use Rattle.ob_run.specs.Statuses.{Treats, TreatsText, MeetsStatus}
use Rattle.ob_run.specs.Survival.{Survives}
use Rattle.ob_run.specs.TextRead.{Tells}
use Rattle.ob_outside.specs.Writes.{WritesWhole, WritesFront, OnOutput}
use Rattle.ob_outside.specs.declared.exit.Exit.{Exit}
use Rattle.ob_outside.specs.declared.exit.Exit.TheVariants.{Done, Refused, Usage, ReadFault, WriteFault, DiskFault, StoreRefused, FileFault, Memory, Long}
use Rattle.ob_run.proofs.CorollaryLemmas.{serves_observable}

-- ---- the ways of a command

-- it wrote something of the text alone
abbrev pub TellsAlone : Asked → List ℕ → Devices → Devices → Exit → Type 0
TellsAlone asked text old new exit = OnOutput (λ before after. Tells asked.command text before after exit) old new

-- it opened no store
abbrev pub FailsToOpen : Command → List ℕ → Devices → Devices → Exit → Type 0
FailsToOpen command text old new StoreRefused = RefusesStore command text WritesWhole old new
FailsToOpen command text old new WriteFault = RefusesStore command text WritesFront old new
FailsToOpen command text old new DiskFault = OpensNot command text old new × Rose old.disk.faults new.disk.faults
FailsToOpen command text old new Memory = OpensNot command text old new
FailsToOpen command text old new exit = ⊥

-- it ended a session
abbrev pub EndsSession : Asked → List ℕ → Devices → Devices → Exit → Type 0
EndsSession asked text old new Done = ServesProgram asked text old new ended.Done
EndsSession asked text old new ReadFault = ServesProgram asked text old new ended.ReadFault
EndsSession asked text old new WriteFault = ServesProgram asked text old new ended.WriteFault
EndsSession asked text old new DiskFault = ServesProgram asked text old new ended.DiskFault
EndsSession asked text old new Memory = ServesProgram asked text old new ended.Memory
EndsSession asked text old new Long = ServesProgram asked text old new ended.Long
EndsSession asked text old new exit = ⊥

-- it told the numbers of a store
abbrev pub TellsStore : Command → List ℕ → Devices → Devices → Exit → Type 0
TellsStore command text old new Done = AuditsStore command text WritesWhole old new
TellsStore command text old new WriteFault = AuditsStore command text WritesFront old new
TellsStore command text old new exit = ⊥

pub one_of_four_ways : (asked : Asked) (text : List ℕ) (old new : Devices) (exit : Exit) → Treats asked text old new exit
    → TellsAlone asked text old new exit
    ⊎ (FailsToOpen asked.command text old new exit ⊎ (TellsStore asked.command text old new exit ⊎ EndsSession asked text old new exit))
one_of_four_ways asked text old new Done (inl h) = inl h
one_of_four_ways asked text old new Done (inr h) = inr (inr h)
one_of_four_ways asked text old new Refused h = inl h
one_of_four_ways asked text old new ReadFault h = inr (inr (inr h))
one_of_four_ways asked text old new WriteFault (inl h) = inl h
one_of_four_ways asked text old new WriteFault (inr h) = inr h
one_of_four_ways asked text old new DiskFault (inl h) = inr (inl h)
one_of_four_ways asked text old new DiskFault (inr h) = inr (inr (inr h))
one_of_four_ways asked text old new StoreRefused h = inr (inl h)
one_of_four_ways asked text old new Memory (inl h) = inl (record { output = h.output; input = h.input; disk = h.disk })
one_of_four_ways asked text old new Memory (inr (inl h)) = inr (inl h)
one_of_four_ways asked text old new Memory (inr (inr h)) = inr (inr (inr h))
one_of_four_ways asked text old new Long h = inr (inr (inr h))
one_of_four_ways asked text old new Usage h = absurd h
one_of_four_ways asked text old new FileFault h = absurd h

-- ---- whatever the status

-- A session of the program of a text was served, and no reply is lost.
pub record SurvivesSession (asked : Asked) (old new : OutsideView) : Type 0 where
  pub text : List ℕ
  pub told : IsToldAs (text_in old.files (file_of asked.command)) text
  pub table : ClassTable
  pub bodies : List SilicaBody
  pub program : IsProgram text table bodies
  pub start : StoreState
  pub begins : BeginsAt asked.command (program_with table bodies) old.disk start
  pub served : Served
  pub lines : List (List ℕ)
  pub of_input : SpeaksOf served old.input new.input lines
  pub given : List ℕ
  pub written : Gives old.output.written new.output.written given
  pub crash : Survives (StandsOnDisk asked.command table bodies) start (items_from (source_items asked table bodies) start lines) given old.disk new.disk

-- No session was begun, so no input was taken. The disk is as it was handed in, or its store wasn't opened.
pub record SurvivesUnopened (asked : Asked) (old new : OutsideView) : Type 0 where
  pub input : new.input ≡ old.input
  pub disk : KeepsBytes old.disk new.disk ⊎ ((text : List ℕ) × IsToldAs (text_in old.files (file_of asked.command)) text × OpensNot asked.command text (devices old) (devices new))

module _ (asked : Asked) (old new : OutsideView) (text : List ℕ) (told : IsToldAs (text_in old.files (file_of asked.command)) text) where
  session_survives : (served : Served) → ServesProgram asked text (devices old) (devices new) served → SurvivesSession asked old new
  session_survives served h = record {
    text = text;
    told = told;
    table = h.table;
    bodies = h.bodies;
    program = h.program;
    start = h.start;
    begins = h.begins;
    served = served;
    lines = h.ends.lines;
    of_input = h.ends.of_input;
    given = h.ends.given;
    written = h.ends.written;
    crash = h.crash;
  }

  unopened_survives : OpensNot asked.command text (devices old) (devices new) → SurvivesUnopened asked old new
  unopened_survives h = record { input = h.input; disk = inr (text, told, h) }

  text_survives : (exit : Exit) → Treats asked text (devices old) (devices new) exit → SurvivesUnopened asked old new ⊎ SurvivesSession asked old new
  text_survives Done (inl h) = inl (record { input = h.input; disk = inl (kept_untouched _ _ h.disk) })
  text_survives Done (inr (inl h)) = inl (record { input = h.input; disk = inl h.disk })
  text_survives Done (inr (inr h)) = inr (session_survives ended.Done h)
  text_survives Refused h = inl (record { input = h.input; disk = inl (kept_untouched _ _ h.disk) })
  text_survives ReadFault h = inr (session_survives ended.ReadFault h)
  text_survives WriteFault (inl h) = inl (record { input = h.input; disk = inl (kept_untouched _ _ h.disk) })
  text_survives WriteFault (inr (inl h)) = inl (record { input = h.input; disk = inl h.disk })
  text_survives WriteFault (inr (inr (inl h))) = inl (record { input = h.input; disk = inl h.disk })
  text_survives WriteFault (inr (inr (inr h))) = inr (session_survives ended.WriteFault h)
  text_survives DiskFault (inl h) = inl (unopened_survives h.0)
  text_survives DiskFault (inr h) = inr (session_survives ended.DiskFault h)
  text_survives StoreRefused h = inl (record { input = h.input; disk = inl h.disk })
  text_survives Memory (inl h) = inl (record { input = h.input; disk = inl (kept_untouched _ _ h.disk) })
  text_survives Memory (inr (inl h)) = inl (unopened_survives h)
  text_survives Memory (inr (inr h)) = inr (session_survives ended.Memory h)
  text_survives Long h = inr (session_survives ended.Long h)
  text_survives Usage h = absurd h
  text_survives FileFault h = absurd h

module _ (words : Option Asked) (old new : OutsideView) (asked : Asked) (is : words ≡ Some asked) where
  file_survives : (exit : Exit) → TreatsText words old new exit → SurvivesUnopened asked old new ⊎ SurvivesSession asked old new
  file_survives exit h =
      let same : h.asked ≡ asked = cc (h.is, is) in
      subst (λ (a : Asked). SurvivesUnopened a old new ⊎ SurvivesSession a old new) same (text_survives h.asked old new h.text h.told exit h.treats)

  -- a crash at any moment loses no item of whose reply a byte was written
  pub no_reply_is_lost : (exit : Exit) → MeetsStatus words old new exit → SurvivesUnopened asked old new ⊎ SurvivesSession asked old new
  no_reply_is_lost Done h = file_survives Done h
  no_reply_is_lost Refused h = file_survives Refused h
  no_reply_is_lost Usage h = absurd (cc (h.none, is))
  no_reply_is_lost ReadFault h = file_survives ReadFault h
  no_reply_is_lost WriteFault h = file_survives WriteFault h
  no_reply_is_lost DiskFault h = file_survives DiskFault h
  no_reply_is_lost StoreRefused h = file_survives StoreRefused h
  no_reply_is_lost FileFault h = inl (record { input = h.kept.input; disk = inl (kept_untouched _ _ h.kept.disk) })
  no_reply_is_lost Memory (inl h) = inl (record { input = h.input; disk = inl (kept_untouched _ _ h.disk) })
  no_reply_is_lost Memory (inr h) = file_survives Memory h
  no_reply_is_lost Long h = file_survives Long h

-- ---- nothing is refused without reason, by the kind of a command

-- it serves the lines of the input
abbrev pub ServesLines : Command → Type 0
ServesLines (check name) = ⊥
ServesLines (serve name) = ⊤
ServesLines (serve_stored name store) = ⊤
ServesLines (audit name store) = ⊥
ServesLines (trial length) = ⊥

-- it writes what it finds of its text
abbrev pub FindsOfText : Command → Type 0
FindsOfText (check name) = ⊤
FindsOfText (serve name) = ⊥
FindsOfText (serve_stored name store) = ⊥
FindsOfText (audit name store) = ⊥
FindsOfText (trial length) = ⊤

-- one that serves lines needs them
pub lines_are_input : (command : Command) (old new : Devices) → ServesLines command → HasInput old new → HasInputFor command old new
lines_are_input (check name) old new serves input = absurd serves
lines_are_input (serve name) old new serves input = input
lines_are_input (serve_stored name store) old new serves input = input
lines_are_input (audit name store) old new serves input = absurd serves
lines_are_input (trial length) old new serves input = absurd serves

-- one that finds something of its text needs neither lines nor a store
pub findings_need_no_input : (command : Command) (old new : Devices) → FindsOfText command → HasInputFor command old new
findings_need_no_input (check name) old new finds = tt
findings_need_no_input (serve name) old new finds = absurd finds
findings_need_no_input (serve_stored name store) old new finds = absurd finds
findings_need_no_input (audit name store) old new finds = absurd finds
findings_need_no_input (trial length) old new finds = tt

pub findings_need_no_store : (command : Command) (text : List ℕ) (disk : DiskView) → FindsOfText command → HasStoreFor command text disk
findings_need_no_store (check name) text disk finds = tt
findings_need_no_store (serve name) text disk finds = tt
findings_need_no_store (serve_stored name store) text disk finds = absurd finds
findings_need_no_store (audit name store) text disk finds = absurd finds
findings_need_no_store (trial length) text disk finds = tt

-- one that audits a store needs no lines
pub audits_need_no_lines : (name store : List ℕ) (old new : Devices) → ¬ (Rose old.disk.faults new.disk.faults) → HasInputFor (audit name store) old new
audits_need_no_lines name store old new calm = calm

-- ---- the corollary

-- it follows from the theorem alone
pub corollary : (words : Option Asked) (old new : OutsideView) (exit : Exit) → IsRun words old new exit → ServesObservable words old new exit
corollary words old new exit run = serves_observable words old new exit run.status
