-- What is said where no store was opened (this project's own).
use Rattle.std.specs.Prelude.{ℕ, ◌≡◌, ◌⊎◌, List, Some, Result, Ok, Err}
use Rattle.ob_base.specs.Limits.{area_bytes}
use Rattle.ob_table.specs.Tables.{ClassTable}
use Rattle.ob_silica.specs.Terms.{SilicaBody}
use Rattle.ob_disk_spec.specs.Disk.{DiskView, Reads, LeavesOnly}
use Rattle.ob_disk_spec.specs.Durable.{May, During}
use Rattle.ob_front.specs.Programs.{IsProgram}
use Rattle.ob_heap.specs.Contents.{content_of}
use Rattle.ob_io.specs.Causes.{Rose}
use Rattle.ob_io.specs.Views.{SinkView}
use Rattle.ob_rest_spec.specs.AtRest.{IsStoreAtRest}
use Rattle.ob_store.specs.Stores.{area_of_store, kept_of, state_of, StandsOn}
use Rattle.ob_store.specs.Unchanged.{KeepsBytes}
use Rattle.ob_store.specs.declared.store.Store.{Store}
use Rattle.ob_journal_spec.specs.Disks.{IsBlankDisk, IsBlankOrBegunDisk}
use Rattle.ob_store_spec.specs.Stores.{StoreProgram, StoreRefusal, IsStoreOf, IsRefused}
use Rattle.ob_outside.specs.Devices.{Devices}
use Rattle.ob_words.specs.Asked.{Command, audit}
use Rattle.ob_run.specs.Attaching.{store_of}
use Rattle.ob_run.specs.Sessions.{program_with}
use Rattle.ob_run.specs.StoreLine.{store_line, refusal_view}
use Rattle.ob_run.specs.declared.serving.Unopened.{Unopened}
use Rattle.ob_run.specs.declared.serving.Unopened.TheVariants.{Refused, DiskFault, Memory}

-- The bytes are the refusal of what a disk reads, for a program: the line of its first cause.
pub record IsStoreRefusal (program : StoreProgram) (disk : DiskView) (bytes : List ℕ) : Type 0 where
  pub cause : StoreRefusal
  pub told : (c : List ℕ) → Reads disk c → IsRefused program area_bytes c cause
  pub line : bytes ≡ store_line cause

-- The command keeps its store on a disk, and its text is a program.
pub record KeepsStoreOf (command : Command) (text : List ℕ) : Type 0 where
  pub store : List ℕ
  pub is : store_of command ≡ Some store
  pub table : ClassTable
  pub bodies : List SilicaBody
  pub program : IsProgram text table bodies

-- The text is a program, and what the disk reads was refused for it: this is said of the line and the output. No input was taken, and no
-- byte of the disk changed.
pub record RefusesStore (command : Command) (text : List ℕ) (says : (List ℕ → Type 0) → SinkView → SinkView → Type 0) (before after : Devices) : Type 0 where
  pub of : KeepsStoreOf command text
  pub line : says (IsStoreRefusal (program_with of.table of.bodies) before.disk) before.output after.output
  pub input : after.input ≡ before.input
  pub disk : KeepsBytes before.disk after.disk

-- A store of this program wasn't opened. A disk that isn't blank is as it was handed in; of a blank one what a read gives, and each image, is
-- as it was, or blank, or begun.
pub record StaysUnopened (program : StoreProgram) (before after : DiskView) : Type 0 where
  pub quiet : (c : List ℕ) → Reads before c → ¬ (IsBlankDisk area_bytes c) → KeepsBytes before after
  pub content : (c : List ℕ) → Reads after c → Reads before c ⊎ IsBlankOrBegunDisk area_bytes program.image c
  pub disk : During before after (λ c. May before c ⊎ IsBlankOrBegunDisk area_bytes program.image c)

-- What is left of a disk whose store a command didn't open: an audit changes no byte of it.
abbrev pub StaysFor : Command → StoreProgram → DiskView → DiskView → Type 0
StaysFor (audit name store) program before after = KeepsBytes before after
StaysFor command program before after = StaysUnopened program before after

-- The text is a program, and nothing was done with its store. Neither stream was touched.
pub record OpensNot (command : Command) (text : List ℕ) (before after : Devices) : Type 0 where
  pub of : KeepsStoreOf command text
  pub stays : StaysFor command (program_with of.table of.bodies) before.disk after.disk
  pub input : after.input ≡ before.input
  pub output : after.output ≡ before.output

-- ---- what opening a store answers; for private clauses

-- what is said of a disk whose store was opened
pub record IsOpenedAs (program : StoreProgram) (before after : DiskView) (store : Store) : Type 0 where
  pub area : area_of_store store ≡ Some area_bytes
  pub at_rest : IsStoreAtRest program.table (content_of (kept_of store))
  pub was : (c : List ℕ) → Reads before c → IsStoreOf program area_bytes c (state_of store)
  pub stands : StandsOn program store after
  pub since : LeavesOnly before after (λ c. May before c ⊎ IsStoreOf program area_bytes c (state_of store))

-- the answer says its own
abbrev pub OpensAs : StoreProgram → DiskView → DiskView → Result Store Unopened → Type 0
OpensAs program before after (Ok store) = IsOpenedAs program before after store
OpensAs program before after (Err (Refused refusal)) =
    ((c : List ℕ) → Reads before c → IsRefused program area_bytes c (refusal_view refusal)) × KeepsBytes before after
OpensAs program before after (Err DiskFault) = StaysUnopened program before after × Rose before.faults after.faults
OpensAs program before after (Err Memory) = StaysUnopened program before after
