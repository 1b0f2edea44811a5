-- What each status of a run says of the words, the files, the two streams and the disk, before and after.
use Rattle.std.specs.Prelude.{ℕ, ◌≡◌, ◌⊎◌, ◌++◌, List, [], ◌∷◌, codes, Option, None, Some}
use Rattle.ob_base.specs.declared.fault.ProgramFault.{ProgramFault}
use Rattle.ob_io.specs.Causes.{Rose}
use Rattle.ob_front.specs.Programs.{IsAccepted, HasTextFault}
use Rattle.ob_serve.specs.Served.{IsToldAs}
use Rattle.ob_outside.specs.Devices.{Devices}
use Rattle.ob_serve.specs.declared.serving.Served.TheVariants as ended
use Rattle.ob_words.specs.Asked.{Command, check, serve, serve_stored, audit, trial, Asked}
use Rattle.ob_run.specs.Auditing.{AuditsStore}
use Rattle.ob_run.specs.FileAsks.{AsksOnce}
use Rattle.ob_run.specs.Commands.{file_of, text_in}
use Rattle.ob_outside.specs.FaultLine.{fault_line}
use Rattle.ob_run.specs.Openings.{RefusesStore, OpensNot}
use Rattle.ob_outside.specs.Outside.{OutsideView, devices, KeepsDevices}
use Rattle.ob_run.specs.Sessions.{ServesProgram}
use Rattle.ob_run.specs.TrialLines.{TellsTrial}
use Rattle.ob_outside.specs.Writes.{WritesWhole, WritesFront, OnOutput}
use Rattle.ob_outside.specs.declared.exit.Exit.{Exit}
use Rattle.ob_outside.specs.declared.exit.Exit.TheVariants.{Done, Refused, Usage, ReadFault, WriteFault, DiskFault, StoreRefused, FileFault, Memory, Long}

-- ---- what is written of a text alone

-- The bytes are the refusal of a text: the line of its first fault.
pub record IsRefusal (text bytes : List ℕ) : Type 0 where
  pub fault : ProgramFault
  pub told : HasTextFault text fault
  pub line : bytes ≡ fault_line fault

-- the line of a text that is accepted
abbrev pub accepted_line : List ℕ
accepted_line = codes "accepted" ++ 10 ∷ []

-- The bytes are what a command that takes no input and no store finds of a text without a fault.
abbrev pub IsFinding : Command → List ℕ → List ℕ → Type 0
IsFinding (check name) text bytes = IsAccepted text × (bytes ≡ accepted_line)
IsFinding (serve name) text bytes = ⊥
IsFinding (serve_stored name store) text bytes = ⊥
IsFinding (audit name store) text bytes = ⊥
IsFinding (trial length) text bytes = TellsTrial text length bytes

-- The bytes are what a command writes of a text: its refusal, or what it finds.
abbrev pub IsOfText : Command → List ℕ → List ℕ → Type 0
IsOfText command text bytes = IsRefusal text bytes ⊎ IsFinding command text bytes

-- ---- what each status says

-- What each status says of a command, its text, the streams and the disk.
abbrev pub Treats : Asked → List ℕ → Devices → Devices → Exit → Type 0
-- What the command finds of the text was written, or the numbers of its store, or the replies to all lines of the input.
Treats asked text before after Done =
    OnOutput (WritesWhole (IsFinding asked.command text)) before after
    ⊎ (AuditsStore asked.command text WritesWhole before after ⊎ ServesProgram asked text before after ended.Done)
-- The text has a fault: the line of its first was written.
Treats asked text before after Refused = OnOutput (WritesWhole (IsRefusal text)) before after
-- A read of the input failed.
Treats asked text before after ReadFault = ServesProgram asked text before after ended.ReadFault
-- A write failed: within what the command writes of the text, within the line of a store that is refused, within the numbers of a store, or
-- within a reply.
Treats asked text before after WriteFault =
    OnOutput (WritesFront (IsOfText asked.command text)) before after
    ⊎ (RefusesStore asked.command text WritesFront before after
    ⊎ (AuditsStore asked.command text WritesFront before after ⊎ ServesProgram asked text before after ended.WriteFault))
-- A call of the disk failed: while the store was opened or read, or while a request was committed.
Treats asked text before after DiskFault =
    (OpensNot asked.command text before after × Rose before.disk.faults after.disk.faults) ⊎ ServesProgram asked text before after ended.DiskFault
-- What the disk reads is refused for the program: the line of the first cause was written.
Treats asked text before after StoreRefused = RefusesStore asked.command text WritesWhole before after
-- Memory ran out: before anything was touched, before anything was done with the store, or before a reply.
Treats asked text before after Memory =
    KeepsDevices before after ⊎ (OpensNot asked.command text before after ⊎ ServesProgram asked text before after ended.Memory)
-- Exactly `most_taken` bytes of input were taken.
Treats asked text before after Long = ServesProgram asked text before after ended.Long
-- These two come before a text is read.
Treats asked text before after Usage = ⊥
Treats asked text before after FileFault = ⊥

-- The words ask for a command, whose text was read.
pub record TreatsText (words : Option Asked) (before after : OutsideView) (exit : Exit) : Type 0 where
  pub asked : Asked
  pub is : words ≡ Some asked
  -- its file P was asked, once; a trial has none
  pub file : AsksOnce (file_of asked.command) before.files.asks after.files.asks
  -- the text of P, or of the trial
  pub text : List ℕ
  pub told : IsToldAs (text_in before.files (file_of asked.command)) text
  -- what the status says of it
  pub treats : Treats asked text (devices before) (devices after) exit

-- The words ask for nothing, and nothing was touched.
pub record IsUsage (words : Option Asked) (before after : OutsideView) : Type 0 where
  pub none : words ≡ None
  pub files : after.files ≡ before.files
  pub kept : KeepsDevices (devices before) (devices after)

-- P was asked, once, and reading it failed. Neither stream was touched, nor the disk.
pub record IsFileFault (words : Option Asked) (before after : OutsideView) : Type 0 where
  pub asked : Asked
  pub is : words ≡ Some asked
  pub name : List ℕ
  pub named : file_of asked.command ≡ Some name
  pub file : AsksOnce (Some name) before.files.asks after.files.asks
  pub cause : Rose before.files.faults after.files.faults
  pub kept : KeepsDevices (devices before) (devices after)

-- What each status says of the words, and of what is observable of files, streams and disk before the run and after it.
abbrev pub MeetsStatus : Option Asked → OutsideView → OutsideView → Exit → Type 0
-- The words are no command.
MeetsStatus words before after Usage = IsUsage words before after
-- P wasn't read.
MeetsStatus words before after FileFault = IsFileFault words before after
-- Memory ran out before the words were known, or before P was read; or later.
MeetsStatus words before after Memory = KeepsDevices (devices before) (devices after) ⊎ TreatsText words before after Memory
-- Each other status comes after P was read.
MeetsStatus words before after exit = TreatsText words before after exit
