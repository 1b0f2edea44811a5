-- What is said of a disk and of each image of it, while a journal is begun or written to.
use Rattle.std.specs.Prelude.{ℕ, ◌≡◌, ◌≤◌, ◌+◌, Bool, true, false, List, [], ◌∷◌, ◌++◌, length}
use Rattle.ob_disk_spec.specs.Disk.{DiskView, Reads}
use Rattle.ob_disk_spec.specs.Durable.{Throughout}
use Rattle.ob_journal_spec.specs.Spellings.{sized}
use Rattle.ob_journal_spec.specs.Areas.{Journaled, next_gate}
use Rattle.ob_journal_spec.specs.Disks.{Place, IsJournalAt, IsBlankDisk, area_at, other_place, start_of}

-- the disk and each image of it represent this, by the area of this place
abbrev pub IsWhole : ℕ → Place → Journaled → DiskView → Type 0
IsWhole size place j v = Throughout v (IsJournalAt size place j)

-- what was built appends this payload behind the records, whose gate is here on the disk, within the area
pub record IsAppend (size : ℕ) (place : Place) (j : Journaled) (payload : List ℕ) (gate : ℕ) (built : List ℕ) : Type 0 where
  pub at : gate ≡ start_of size place + next_gate j
  pub within : next_gate j + 1 + length built ≤ size
  pub fits : sized.fits payload
  pub is : built ≡ sized.bytes payload ++ 0 ∷ []

-- the disk is blank, and each image of it is what a read gives
pub record IsFresh (size : ℕ) (v : DiskView) : Type 0 where
  pub settled : Throughout v (Reads v)
  pub blank : (c : List ℕ) → Reads v c → IsBlankDisk size c

-- the first gate is open by the byte that this program writes
abbrev pub OpensByOne : List ℕ → Type 0
OpensByOne c = (rest : List ℕ) × (c ≡ 1 ∷ rest)

-- the bytes begin with a closed gate, or they don't
abbrev pub LooksClosed : Bool → List ℕ → Type 0
LooksClosed true c = (rest : List ℕ) × (c ≡ 0 ∷ rest)
LooksClosed false c = (rest : List ℕ) → c ≡ 0 ∷ rest → ⊥

-- the area beside that of this place begins with a closed gate, or it doesn't
abbrev pub LooksBeside : ℕ → Place → Bool → List ℕ → Type 0
LooksBeside size place closed c = LooksClosed closed (area_at size (other_place place) c)

-- the disk and each image of it represent this, and the area beside begins with a closed gate, or it doesn't
pub record IsHeld (size : ℕ) (place : Place) (j : Journaled) (closed : Bool) (v : DiskView) : Type 0 where
  pub whole : IsWhole size place j v
  pub other : Throughout v (LooksBeside size place closed)
