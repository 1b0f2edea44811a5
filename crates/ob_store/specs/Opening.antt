-- What opening a store answers (this project's own).
use Rattle.std.specs.Prelude.{ℕ, pos, ◌≡◌, ◌<◌, ◌≤◌, ◌+◌, ◌⊎◌, ⊤, List, [], ◌∷◌, ◌++◌, length, Option, Some, Result, Ok, Err}
use Rattle.ob_base.specs.Limits.{most_objects, most_handles}
use Rattle.ob_table.specs.Tables.{ClassTable}
use Rattle.ob_disk_spec.specs.Disk.{DiskView}
use Rattle.ob_disk_spec.specs.Durable.{May, During}
use Rattle.ob_heap.specs.Contents.{Stored, content_of}
use Rattle.ob_heap_spec.specs.Contents.{Content, IsContent, empty_content}
use Rattle.ob_io.specs.Causes.{Rose}
use Rattle.ob_rest_spec.specs.AtRest.{IsStoreAtRest, first_failing_object}
use Rattle.ob_journal_spec.specs.Areas.{begun, next_gate, size_of}
use Rattle.ob_journal_spec.specs.Disks.{IsBlankDisk, start_of}
use Rattle.ob_journal_spec.specs.Differing.{DifferAt}
use Rattle.ob_journal.specs.Journals.{journaled, area_size, place_of, image_of, gate_of}
use Rattle.ob_journal.specs.declared.error.JournalError.{JournalError}
use Rattle.ob_journal.specs.declared.error.JournalError.TheVariants as of_journal
use Rattle.ob_journal.specs.declared.journal.Journal.{Journal}
use Rattle.ob_store_payload.specs.declared.error.PayloadError.{PayloadError}
use Rattle.ob_store_payload.specs.declared.error.PayloadError.TheVariants as of_payload
use Rattle.ob_store_spec.specs.Payloads.{Changes}
use Rattle.ob_store_spec.specs.Changes.{SaysChanges, with_changes, LeadFrom}
use Rattle.ob_store_spec.specs.Stores.{StoreProgram, StoreState, IsStoreOf, IsRefused, not_store, damaged, other_program, not_at_rest}
use Rattle.ob_store.specs.Stores.{state_of, TellsOwners, IsKeptAs}
use Rattle.ob_store.specs.Unchanged.{KeepsBytes}
use Rattle.ob_store.specs.declared.store.Store.{Store}
use Rattle.ob_store.specs.declared.error.OpenError.{OpenError}
use Rattle.ob_store.specs.declared.error.OpenError.TheVariants.{NotStore, Damaged, OtherProgram, NotAtRest, Room, DiskFault, Memory}

-- The answer is the store that a disk with areas of a size represents, or why it represents none. `Room` comes where the first area of a
-- blank disk is too small to be begun.
abbrev pub Opens : StoreProgram → ℕ → Result Store OpenError → List ℕ → Type 0
Opens program size (Ok store) bytes = IsStoreOf program size bytes (state_of store)
Opens program size (Err NotStore) bytes = IsRefused program size bytes not_store
Opens program size (Err (Damaged offset)) bytes = IsRefused program size bytes (damaged offset)
Opens program size (Err (OtherProgram offset)) bytes = IsRefused program size bytes (other_program offset)
Opens program size (Err (NotAtRest object)) bytes = IsRefused program size bytes (not_at_rest object.0)
Opens program size (Err (Room need limit)) bytes =
    IsBlankDisk size bytes × (need ≡ 18 + length program.image) × (limit ≡ size) × (size < need)
Opens program size (Err DiskFault) bytes = ⊤
Opens program size (Err Memory) bytes = ⊤

-- the count of faults rose, by one, where the disk failed, and else it stayed
abbrev pub FaultsAs : {T : Type 0} → Result T OpenError → ℕ → ℕ → Type 0
FaultsAs (Err DiskFault) before now = Rose before now × (before ≤ now) × (now ≤ before + 1)
FaultsAs answer before now = now ≡ before

-- why no store is opened, where no journal is found or begun
abbrev pub refused_by : JournalError → OpenError
refused_by of_journal.NotStore = NotStore
refused_by (of_journal.Damaged offset) = Damaged offset
refused_by (of_journal.Room need size) = Room need size
refused_by of_journal.DiskFault = DiskFault
refused_by of_journal.Memory = Memory

-- what is kept is of the class table, with no more objects and handles than there may be
pub record IsKeptContent (table : ClassTable) (content : Content) : Type 0 where
  pub is_content : IsContent table content
  pub few_objects : length content.objects ≤ most_objects
  pub few_handles : length content.handles ≤ most_handles

-- a payload says changes of a content, which lead to another one
pub record IsFollowed (table : ClassTable) (before : Content) (payload : List ℕ) (after : Content) : Type 0 where
  pub changes : Changes
  pub says : SaysChanges table before changes payload
  pub leads : after ≡ with_changes table before changes
  pub kept : IsKeptContent table after

-- what following a payload answers, and the content after it: it is bad exactly where it says no changes
abbrev pub Follows : ClassTable → Content → List ℕ → Result (Unit {0}) PayloadError → Content → Type 0
Follows table before payload (Ok done) after = IsFollowed table before payload after
Follows table before payload (Err of_payload.Bad) after = (changes : Changes) → ¬ (SaysChanges table before changes payload)
Follows table before payload (Err of_payload.Memory) after = ⊤

-- Of payloads, the first one's gate being at an offset, this is the gate of the first that says no changes of the content before it.
pub record IsFirstBad (table : ClassTable) (gate : ℕ) (payloads : List (List ℕ)) (offset : ℕ) : Type 0 where
  pub before : List (List ℕ)
  pub bad : List ℕ
  pub after : List (List ℕ)
  pub is : payloads ≡ before ++ bad ∷ after
  pub content : Content
  pub content_is : LeadFrom table empty_content before content
  pub says_none : (changes : Changes) → ¬ (SaysChanges table content changes bad)
  pub at : offset ≡ gate + size_of before

-- what replaying payloads answers, the first one's gate being at an offset: the content to which they lead, or the gate of the first
-- that is bad
abbrev pub Replays : ClassTable → ℕ → List (List ℕ) → Result Stored OpenError → Type 0
Replays table gate payloads (Ok stored) = LeadFrom table empty_content payloads (content_of stored)
Replays table gate payloads (Err (Damaged offset)) = IsFirstBad table gate payloads offset
Replays table gate payloads (Err Memory) = ⊤
Replays table gate payloads (Err other) = ⊥

-- what is answered may be kept
abbrev pub IsKeptIfOk : ClassTable → Result Stored OpenError → Type 0
IsKeptIfOk table (Ok stored) = IsKeptContent table (content_of stored)
IsKeptIfOk table (Err error) = ⊤

-- a store has this content and this journal, where there is one, and tells the owners of a content of the class table
pub record IsIndexed (program : StoreProgram) (content : Stored) (journal : Option Journal) (store : Store) : Type 0 where
  pub content_is : store.content ≡ content
  pub journal_is : store.journal ≡ journal
  pub owners : IsContent program.table (content_of content) → TellsOwners program store

-- what putting a content and a journal together to a store answers
abbrev pub IndexesOrLacks : StoreProgram → Stored → Journal → Result Store OpenError → Type 0
IndexesOrLacks program content journal (Ok store) = IsIndexed program content (Some journal) store
IndexesOrLacks program content journal (Err error) = error ≡ Memory

-- a store is kept in a journal with these payloads, is one of this program, and is at rest
pub record IsRebuilt (program : StoreProgram) (journal : Journal) (payloads : List (List ℕ)) (store : Store) : Type 0 where
  pub journal_is : store.journal ≡ Some journal
  pub kept : IsKeptAs program (content_of store.content) (journaled journal payloads)
  pub at_rest : IsStoreAtRest program.table (content_of store.content)
  pub owners : TellsOwners program store

-- A journal with these payloads is one of this program, and the content to which it leads isn't at rest: this is the first object that
-- fails.
pub record IsUnrested (program : StoreProgram) (journal : Journal) (payloads : List (List ℕ)) (object : ℕ) : Type 0 where
  pub content : Content
  pub kept : IsKeptAs program content (journaled journal payloads)
  pub fails : first_failing_object program.table content ≡ Some object

-- where the gate of a journal's first record is, from the disk's start
abbrev pub first_gate : Journal → ℕ
first_gate journal = start_of (area_size journal) (place_of journal) + (17 + length (image_of journal))

-- What rebuilding a store from its journal with these payloads answers; each refusal supposes that none before it holds.
abbrev pub Rebuilds : StoreProgram → Journal → List (List ℕ) → Result Store OpenError → Type 0
Rebuilds program journal payloads (Ok store) = IsRebuilt program journal payloads store
Rebuilds program journal payloads (Err (OtherProgram offset)) = DifferAt offset (image_of journal) program.image
Rebuilds program journal payloads (Err (Damaged offset)) =
    (image_of journal ≡ program.image) × IsFirstBad program.table (first_gate journal) payloads offset
Rebuilds program journal payloads (Err (NotAtRest object)) = IsUnrested program journal payloads object.0
Rebuilds program journal payloads (Err Memory) = ⊤
Rebuilds program journal payloads (Err other) = ⊥

-- a store is empty, and its journal of areas of this size has just been begun for this program
pub record IsBegun (program : StoreProgram) (size : ℕ) (store : Store) : Type 0 where
  pub journal : Journal
  pub journal_is : store.journal ≡ Some journal
  pub content : content_of store.content ≡ empty_content
  pub says : journaled journal [] ≡ begun program.image
  pub gate : gate_of journal ≡ next_gate (begun program.image)
  pub area : area_size journal ≡ size
  pub owners : TellsOwners program store

-- what beginning a store answers: `Room` exactly where the area is smaller than a header with its two gates
abbrev pub BeginsStore : StoreProgram → ℕ → Result Store OpenError → Type 0
BeginsStore program size (Ok store) = IsBegun program size store
BeginsStore program size (Err (Room need limit)) = (need ≡ 18 + length program.image) × (limit ≡ size) × (size < need)
BeginsStore program size (Err DiskFault) = ⊤
BeginsStore program size (Err Memory) = ⊤
BeginsStore program size (Err other) = ⊥

-- `Room` comes where an area is too small to be begun: how many bytes are needed, and how many there are
abbrev pub LacksArea : StoreProgram → ℕ → Result Store OpenError → Type 0
LacksArea program size (Err (Room need limit)) = (need ≡ 18 + length program.image) × (limit ≡ size) × (size < need)
LacksArea program size answer = ⊤

-- a store is the one that a blank disk represents
pub record IsBlankStart (program : StoreProgram) (s : StoreState) : Type 0 where
  pub content : s.content ≡ empty_content
  pub gate : s.gate ≡ next_gate (begun program.image)
  pub serial : s.serial ≡ pos 1

-- No byte changes but where a blank disk is begun.
abbrev pub StaysUnlessBlank : StoreProgram → DiskView → DiskView → Result Store OpenError → Type 0
StaysUnlessBlank program old new (Ok store) = IsBlankStart program (state_of store) ⊎ KeepsBytes old new
StaysUnlessBlank program old new (Err DiskFault) = ⊤
StaysUnlessBlank program old new (Err Memory) = ⊤
StaysUnlessBlank program old new (Err other) = KeepsBytes old new

-- where the area is too small to be begun, each image, and what a read gives, was one before, or what a read gave
abbrev pub StaysWithoutRoom : DiskView → DiskView → Result Store OpenError → Type 0
StaysWithoutRoom old new (Err (Room need limit)) = During old new (May old)
StaysWithoutRoom old new answer = ⊤
