-- What an audit says of a store (this project's own).
use Rattle.std.specs.Prelude.{ℕ, ◌≡◌, ⊤, List, ◌++◌, codes, Result, Ok, Err}
use Rattle.ob_base.specs.Limits.{area_bytes}
use Rattle.ob_disk_spec.specs.Disk.{DiskView, Reads}
use Rattle.ob_heap_spec.specs.Contents.{Content}
use Rattle.ob_io.specs.Causes.{Rose}
use Rattle.ob_io.specs.Views.{SinkView}
use Rattle.ob_owners.specs.Counts.{counts_of}
use Rattle.ob_owners.specs.declared.counts.StoreCounts.{StoreCounts}
use Rattle.ob_rest_spec.specs.AtRest.{IsStoreAtRest}
use Rattle.ob_outside.specs.Devices.{Devices}
use Rattle.ob_store.specs.Reading.{IsContentOf}
use Rattle.ob_store.specs.Unchanged.{KeepsBytes}
use Rattle.ob_store.specs.declared.error.OpenError.{OpenError}
use Rattle.ob_store.specs.declared.error.OpenError.TheVariants as of_store
use Rattle.ob_store_spec.specs.Stores.{StoreProgram, IsRefused}
use Rattle.ob_table.specs.Tables.{ClassTable}
use Rattle.ob_words.specs.Asked.{Command, audit}
use Rattle.ob_run.specs.Openings.{KeepsStoreOf}
use Rattle.ob_run.specs.Sessions.{program_with}
use Rattle.ob_run.specs.StoreLine.{refusal_view}
use Rattle.ob_run.specs.TrialLines.{count_line}
use Rattle.ob_outside.specs.Writes.{WritesWhole, WritesFront}
use Rattle.ob_outside.specs.declared.exit.Exit.{Exit}
use Rattle.ob_outside.specs.declared.exit.Exit.TheVariants.{Done, WriteFault, Memory as OutOfMemory}
use Rattle.ob_run.specs.declared.refusal.StoreRefusal.TheVariants.{NotStore, Damaged, OtherProgram, NotAtRest}
use Rattle.ob_run.specs.declared.serving.Unopened.{Unopened}
use Rattle.ob_run.specs.declared.serving.Unopened.TheVariants.{Refused, DiskFault, Memory}

-- the six numbers, each on a line
abbrev pub audit_text : StoreCounts → List ℕ
audit_text counts =
    count_line (codes "objects") counts.objects ++ count_line (codes "handles") counts.handles ++ count_line (codes "owned") counts.owned
    ++ count_line (codes "shared") counts.shared ++ count_line (codes "disowned") counts.disowned ++ count_line (codes "loose") counts.loose

-- These are the six numbers of the store, at rest, that a disk represents for a program; a blank disk represents the empty one.
pub record AreNumbersOf (program : StoreProgram) (disk : DiskView) (counts : StoreCounts) : Type 0 where
  pub content : Content
  pub at_rest : IsStoreAtRest program.table content
  pub represents : (c : List ℕ) → Reads disk c → IsContentOf program area_bytes c content
  pub counted : counts ≡ counts_of program.table content

-- The bytes tell them.
pub record TellsCounts (program : StoreProgram) (disk : DiskView) (bytes : List ℕ) : Type 0 where
  pub counts : StoreCounts
  pub are : AreNumbersOf program disk counts
  pub told : bytes ≡ audit_text counts

-- the command is an audit
abbrev pub IsAudit : Command → Type 0
IsAudit (audit name store) = ⊤
IsAudit command = ⊥

-- The command is an audit, its text is a program, and the disk represents a store of it: this is said of the line of its numbers and the
-- output. No input was taken, and no byte of the disk changed.
pub record AuditsStore (command : Command) (text : List ℕ) (says : (List ℕ → Type 0) → SinkView → SinkView → Type 0) (before after : Devices) : Type 0 where
  pub is : IsAudit command
  pub of : KeepsStoreOf command text
  pub numbers : says (TellsCounts (program_with of.table of.bodies) before.disk) before.output after.output
  pub input : after.input ≡ before.input
  pub disk : KeepsBytes before.disk after.disk

-- ---- what counting a store answers; for private clauses

-- why a store isn't opened, or not counted
abbrev pub unopened_by : OpenError → Unopened
unopened_by of_store.NotStore = Refused NotStore
unopened_by (of_store.Damaged offset) = Refused (Damaged offset)
unopened_by (of_store.OtherProgram offset) = Refused (OtherProgram offset)
unopened_by (of_store.NotAtRest object) = Refused (NotAtRest object)
unopened_by (of_store.Room need limit) = Memory
unopened_by of_store.DiskFault = DiskFault
unopened_by of_store.Memory = Memory

-- these are the numbers of a content, or memory ran out
abbrev pub IsCountOf : ClassTable → Content → Result StoreCounts Unopened → Type 0
IsCountOf table content (Ok counts) = counts ≡ counts_of table content
IsCountOf table content (Err Memory) = ⊤
IsCountOf table content (Err other) = ⊥

-- the answer says its own, and no byte of the disk changed
abbrev pub CountsAs : StoreProgram → DiskView → DiskView → Result StoreCounts Unopened → Type 0
CountsAs program before after (Ok counts) = AreNumbersOf program before counts × KeepsBytes before after
CountsAs program before after (Err (Refused refusal)) =
    ((c : List ℕ) → Reads before c → IsRefused program area_bytes c (refusal_view refusal)) × KeepsBytes before after
CountsAs program before after (Err DiskFault) = KeepsBytes before after × Rose before.faults after.faults
CountsAs program before after (Err Memory) = KeepsBytes before after

-- the numbers were written, whole or in part, or memory ran out before it
abbrev pub TellsNumbers : StoreCounts → SinkView → SinkView → Exit → Type 0
TellsNumbers counts before after Done = WritesWhole (λ bytes. bytes ≡ audit_text counts) before after
TellsNumbers counts before after WriteFault = WritesFront (λ bytes. bytes ≡ audit_text counts) before after
TellsNumbers counts before after OutOfMemory = after ≡ before
TellsNumbers counts before after exit = ⊥
