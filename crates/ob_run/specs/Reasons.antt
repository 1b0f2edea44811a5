-- Nothing is refused without reason: how a run ends where nothing stands in the way.
use Rattle.std.specs.Prelude.{ℕ, ◌≡◌, ◌<◌, ◌⊎◌, ⊤, List, length, Option, None, Some}
use Rattle.ob_base.specs.Limits.{most_taken, area_bytes}
use Rattle.ob_table.specs.Tables.{ClassTable}
use Rattle.ob_silica.specs.Terms.{SilicaBody}
use Rattle.ob_disk_spec.specs.Disk.{DiskView, Reads}
use Rattle.ob_io.specs.Causes.{Rose}
use Rattle.ob_front.specs.Programs.{IsProgram, IsAccepted}
use Rattle.ob_store_spec.specs.Stores.{StoreState, StoreRefusal, IsStoreOf, IsRefused}
use Rattle.ob_outside.specs.Devices.{Devices}
use Rattle.ob_words.specs.Asked.{Command, check, serve, serve_stored, audit, trial, Asked}
use Rattle.ob_run.specs.Commands.{file_of, text_in}
use Rattle.ob_outside.specs.Outside.{OutsideView, devices}
use Rattle.ob_run.specs.Sessions.{program_with}
use Rattle.ob_outside.specs.declared.exit.Exit.{Exit}
use Rattle.ob_outside.specs.declared.exit.Exit.TheVariants.{Done, Refused, Usage, StoreRefused, Memory}

-- The input is observable and has fewer than `most_taken` bytes, and neither its count of faults rises nor that of the disk.
pub record HasInput (before after : Devices) : Type 0 where
  pub input : List ℕ
  pub told : before.input.left ≡ Some input
  pub few : length input < most_taken
  pub reads : ¬ (Rose before.input.faults after.input.faults)
  pub disk : ¬ (Rose before.disk.faults after.disk.faults)

-- where a command serves lines, it has them; where it audits a store, the disk's count of faults doesn't rise
abbrev pub HasInputFor : Command → Devices → Devices → Type 0
HasInputFor (check name) before after = ⊤
HasInputFor (serve name) before after = HasInput before after
HasInputFor (serve_stored name store) before after = HasInput before after
HasInputFor (audit name store) before after = ¬ (Rose before.disk.faults after.disk.faults)
HasInputFor (trial length) before after = ⊤

-- what a disk reads is observable, and represents a store of each program of a text
abbrev pub HasStore : List ℕ → DiskView → Type 0
HasStore text disk =
    (c : List ℕ) × Reads disk c × ((table : ClassTable) (bodies : List SilicaBody) → IsProgram text table bodies
    → (s : StoreState) × IsStoreOf (program_with table bodies) area_bytes c s)

-- where a store is kept on a disk, it has one
abbrev pub HasStoreFor : Command → List ℕ → DiskView → Type 0
HasStoreFor (check name) text disk = ⊤
HasStoreFor (serve name) text disk = ⊤
HasStoreFor (serve_stored name store) text disk = HasStore text disk
HasStoreFor (audit name store) text disk = HasStore text disk
HasStoreFor (trial length) text disk = ⊤

-- What a disk reads is observable, and is refused for a program of a text, for this cause.
pub record HasRefusal (text : List ℕ) (disk : DiskView) : Type 0 where
  pub bytes : List ℕ
  pub reads : Reads disk bytes
  pub table : ClassTable
  pub bodies : List SilicaBody
  pub program : IsProgram text table bodies
  pub cause : StoreRefusal
  pub refused : IsRefused (program_with table bodies) area_bytes bytes cause

-- a store is kept on a disk, and what that reads is refused
abbrev pub HasRefusalFor : Command → List ℕ → DiskView → Type 0
HasRefusalFor (check name) text disk = ⊥
HasRefusalFor (serve name) text disk = ⊥
HasRefusalFor (serve_stored name store) text disk = HasRefusal text disk
HasRefusalFor (audit name store) text disk = HasRefusal text disk
HasRefusalFor (trial length) text disk = ⊥

-- The words ask for a command, whose text is observable. Neither the count of faults of the files rises nor that of the output. Where the command
-- serves lines, it has them, and where it audits a store, the disk's count of faults doesn't rise.
pub record IsSmooth (words : Option Asked) (before after : OutsideView) : Type 0 where
  pub asked : Asked
  pub is : words ≡ Some asked
  pub text : List ℕ
  pub told : text_in before.files (file_of asked.command) ≡ Some text
  pub files : ¬ (Rose before.files.faults after.files.faults)
  pub writes : ¬ (Rose before.output.faults after.output.faults)
  pub input : HasInputFor asked.command (devices before) (devices after)

-- What is left for a run to end in, where it wasn't that memory ran out.
pub record HasReason (words : Option Asked) (before after : OutsideView) (exit : Exit) : Type 0 where
  -- words that ask for nothing are Usage
  pub unknown : words ≡ None → (exit ≡ Usage) ⊎ (exit ≡ Memory)
  -- where nothing stands in the way, a text that is accepted is Done, if its store is one
  pub accepted : (smooth : IsSmooth words before after) → IsAccepted smooth.text → HasStoreFor smooth.asked.command smooth.text before.disk
      → (exit ≡ Done) ⊎ (exit ≡ Memory)
  -- and StoreRefused, if that is refused
  pub refused : (smooth : IsSmooth words before after) → HasRefusalFor smooth.asked.command smooth.text before.disk → (exit ≡ StoreRefused) ⊎ (exit ≡ Memory)
  -- and any other text is Refused
  pub faulty : (smooth : IsSmooth words before after) → ¬ (IsAccepted smooth.text) → (exit ≡ Refused) ⊎ (exit ≡ Memory)
