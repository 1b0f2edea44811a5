-- What finding a journal answers.
use Rattle.std.specs.Prelude.{ℕ, ◌≡◌, ◌≤◌, ◌+◌, ⊤, List, Result, Ok, Err}
use Rattle.ob_disk_spec.specs.Disk.{DiskView}
use Rattle.ob_io.specs.Causes.{Rose}
use Rattle.ob_journal_spec.specs.Disks.{IsJournalAt, IsBlankDisk, IsNoStoreDisk, IsDamagedDisk}
use Rattle.ob_journal.specs.Journals.{journaled, place_of, Holds}
use Rattle.ob_journal.specs.Moments.{IsFresh}
use Rattle.ob_journal.specs.Surveys.{HasPayloads}
use Rattle.ob_journal.specs.declared.error.JournalError.{JournalError}
use Rattle.ob_journal.specs.declared.error.JournalError.TheVariants.{NotStore, Damaged, Room, DiskFault, Memory}
use Rattle.ob_journal.specs.declared.journal.Journal.{Journal}
use Rattle.ob_journal.specs.declared.journal.Found.{Found}
use Rattle.ob_journal.specs.declared.journal.Found.TheVariants.{Blank, Current}
use Rattle.ob_journal.specs.declared.recorded.Recorded.{Recorded}

-- the bytes represent the journal with the records that were read
abbrev pub IsRead : ℕ → Journal → Recorded → List ℕ → Type 0
IsRead size journal recorded bytes =
    (payloads : List (List ℕ)) × HasPayloads recorded payloads × IsJournalAt size (place_of journal) (journaled journal payloads) bytes

-- the answer is what the disk represents, or why it represents nothing
abbrev pub Finds : ℕ → Result Found JournalError → List ℕ → Type 0
Finds size (Ok Blank) bytes = IsBlankDisk size bytes
Finds size (Ok (Current journal recorded)) bytes = IsRead size journal recorded bytes
Finds size (Err NotStore) bytes = IsNoStoreDisk size bytes
Finds size (Err (Damaged offset)) bytes = IsDamagedDisk size offset bytes
Finds size (Err (Room need size_)) bytes = ⊥
Finds size (Err DiskFault) bytes = ⊤
Finds size (Err Memory) bytes = ⊤

-- a journal with areas of this size was found: the disk and each image of it hold it, with the records that were read
pub record IsFoundWith (size : ℕ) (journal : Journal) (recorded : Recorded) (v : DiskView) : Type 0 where
  pub payloads : List (List ℕ)
  pub has : HasPayloads recorded payloads
  pub holds : Holds journal payloads v
  pub area : journal.area ≡ size

-- what was found holds of the disk and of each image of it
abbrev pub IsFoundIn : ℕ → Found → DiskView → Type 0
IsFoundIn size Blank v = IsFresh size v
IsFoundIn size (Current journal recorded) v = IsFoundWith size journal recorded v

-- the count of faults rose, by one, where the disk failed, and else it stayed
abbrev pub FaultsAs : {T : Type 0} → Result T JournalError → ℕ → ℕ → Type 0
FaultsAs (Ok x) before now = now ≡ before
FaultsAs (Err NotStore) before now = now ≡ before
FaultsAs (Err (Damaged offset)) before now = now ≡ before
FaultsAs (Err (Room need size)) before now = now ≡ before
FaultsAs (Err DiskFault) before now = Rose before now × (before ≤ now) × (now ≤ before + 1)
FaultsAs (Err Memory) before now = now ≡ before
