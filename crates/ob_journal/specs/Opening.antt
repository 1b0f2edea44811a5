-- An area is opened: the first one on a blank disk, or the other one of a disk that represents a journal.
use Rattle.std.specs.Prelude.{ℕ, pos, ◌≡◌, ◌<◌, ◌≤◌, ◌+◌, ◌^◌, ◌⊎◌, Bool, true, false, Option, List, [], ◌∷◌, ◌++◌, length}
use Rattle.ob_disk_spec.specs.Disk.{DiskView, Reads, WrittenOver}
use Rattle.ob_journal_spec.specs.Spellings.{header}
use Rattle.ob_journal_spec.specs.Areas.{Journaled}
use Rattle.ob_journal_spec.specs.Disks.{Place, IsJournalAt, area_at, other_place, start_of}
use Rattle.ob_journal_spec.specs.Building.{IsSpelled, IsBefore, StandsThere, CanFollow, IsClosedBeside, IsShutBeside}
use Rattle.ob_journal.specs.Moments.{LooksBeside}

-- Beside the area of this place another is opened, which then represents what is new. Until then the disk represents what was, or is blank.
pub record Opening : Type 0 where
  pub size : ℕ
  pub place : Place
  pub was : Option Journaled
  pub new : Journaled

-- that area begins at this offset, and may follow what was
pub record IsStart (o : Opening) (at : ℕ) : Type 0 where
  pub is : at ≡ start_of o.size (other_place o.place)
  pub some : 1 ≤ o.size
  pub follows : CanFollow o.was o.place o.new

-- these bytes are that area behind its gate, with a closed gate at their end
pub record IsOpening (o : Opening) (at : ℕ) (built : List ℕ) : Type 0 where
  pub start : IsStart o at
  pub within : 1 + length built ≤ o.size
  pub records : List ℕ
  pub spelled : IsSpelled o.new records
  pub is : built ≡ header.bytes (o.new.serial, o.new.image) ++ (records ++ 0 ∷ [])

-- the disk represents what was
abbrev pub IsAsBefore : Opening → List ℕ → Type 0
IsAsBefore o c = IsBefore o.size o.place o.was c

-- the disk represents what was or what is new
abbrev pub IsNewOrNot : Opening → List ℕ → Type 0
IsNewOrNot o c = IsAsBefore o c ⊎ IsJournalAt o.size (other_place o.place) o.new c

-- the disk represents what is new, and in the area beside is what was
pub record IsNew (o : Opening) (c : List ℕ) : Type 0 where
  pub new : IsJournalAt o.size (other_place o.place) o.new c
  pub there : StandsThere o.was (area_at o.size o.place c)

-- the disk represents what was, and the area to be opened begins with a closed gate, or it doesn't
pub record IsReady (o : Opening) (closed : Bool) (c : List ℕ) : Type 0 where
  pub before : IsAsBefore o c
  pub looks : LooksBeside o.size o.place closed c

-- the area to be opened begins with a closed gate
abbrev pub IsClosedFor : Opening → List ℕ → Type 0
IsClosedFor o c = IsClosedBeside o.size o.place o.was c

-- a read gives the area to be opened, whole behind a closed gate, which is closed in each image too
pub record IsShut (o : Opening) (v : DiskView) : Type 0 where
  pub whole : (c : List ℕ) → Reads v c → IsShutBeside o.size o.place o.was o.new c
  pub closed : (c : List ℕ) → v.now c → IsClosedFor o c

-- a closed gate was written, unless there is one
abbrev pub ClosedOver : Bool → (List ℕ → Type 0) → ℕ → List ℕ → Type 0
ClosedOver true olds at c = olds c
ClosedOver false olds at c = WrittenOver olds at (0 ∷ []) c

-- then the area behind it, and then the open gate
abbrev pub AreaOver : Bool → (List ℕ → Type 0) → ℕ → List ℕ → List ℕ → Type 0
AreaOver closed olds at built c = WrittenOver (WrittenOver (ClosedOver closed olds at) (at + 1) built) at (1 ∷ []) c

-- these bytes are a first area for this image behind its gate, with a closed gate at their end
pub record IsFirstOf (size : ℕ) (image built : List ℕ) : Type 0 where
  pub small : length image < 2 ^ 32
  pub within : 1 + length built ≤ size
  pub is : built ≡ header.bytes (pos 1, image) ++ 0 ∷ []
