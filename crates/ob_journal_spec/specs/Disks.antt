-- Which journal the two areas of a disk represent, or why they represent none (this project's own). Both areas have one size, and the second
-- begins where the first ends.
use Rattle.std.specs.Prelude.{ℕ, ℤ, pos, ◌≤ℤ◌, ◌<ℤ◌, ◌+ℤ◌, ◌≡◌, ◌+◌, ◌⊎◌, List, [], ◌∷◌, drop}
use Rattle.ob_journal_spec.specs.Areas.{Journaled, AreaRepresents, IsBlank, IsNoStore, IsDamaged, HasHeader, area_of, begun, with_payload}

-- one of the two areas
pub data Place : Type 0 where
  first : Place
  second : Place

-- the other one
abbrev pub other_place : Place → Place
other_place first = second
other_place second = first

-- the offset at which an area begins
abbrev pub start_of : ℕ → Place → ℕ
start_of size first = 0
start_of size second = size

-- the bytes of an area of a disk
abbrev pub area_at : ℕ → Place → List ℕ → List ℕ
area_at size place bytes = area_of size (drop (start_of size place) bytes)

-- Of two open areas the one of the greater serial is current, and of equal serials the first: one of this place and serial is so beside the
-- other one of that serial.
abbrev pub GoesBefore : Place → ℤ → ℤ → Type 0
GoesBefore first serial other = other ≤ℤ serial
GoesBefore second serial other = other <ℤ serial

-- beside a current area of this place and serial, the other area is blank, or has the header of one before which the current one goes
abbrev pub IsOlder : Place → ℤ → List ℕ → Type 0
IsOlder place serial area = IsBlank area ⊎ ((older : ℤ) × (image : List ℕ) × GoesBefore place serial older × HasHeader older image area)

-- a disk represents what its current area does, which is that of this place
pub record IsJournalAt (size : ℕ) (place : Place) (j : Journaled) (bytes : List ℕ) : Type 0 where
  pub current : AreaRepresents j (area_at size place bytes)
  pub older : IsOlder place j.serial (area_at size (other_place place) bytes)

-- both areas are blank
pub record IsBlankDisk (size : ℕ) (bytes : List ℕ) : Type 0 where
  pub one : IsBlank (area_at size first bytes)
  pub other : IsBlank (area_at size second bytes)

-- an area is open and has no header
abbrev pub IsNoStoreDisk : ℕ → List ℕ → Type 0
IsNoStoreDisk size bytes = IsNoStore (area_at size first bytes) ⊎ IsNoStore (area_at size second bytes)

-- the current area is damaged, at this offset from the disk's start
pub record IsDamagedDisk (size offset : ℕ) (bytes : List ℕ) : Type 0 where
  pub place : Place
  pub within : ℕ
  pub damaged : IsDamaged within (area_at size place bytes)
  pub older : IsOlder place damaged.before.serial (area_at size (other_place place) bytes)
  pub at : offset ≡ start_of size place + within

-- a journal that has moved: the next serial, the same image, and one record
abbrev pub moved : Journaled → List ℕ → Journaled
moved j payload = record { serial = j.serial +ℤ pos 1; image = j.image; payloads = payload ∷ [] }

-- the disk is blank, or its first area is begun for this image
abbrev pub IsBlankOrBegunDisk : ℕ → List ℕ → List ℕ → Type 0
IsBlankOrBegunDisk size image bytes = IsBlankDisk size bytes ⊎ IsJournalAt size first (begun image) bytes

-- the disk represents the records with this one or without it
abbrev pub IsWithOrWithout : ℕ → Place → Journaled → List ℕ → List ℕ → Type 0
IsWithOrWithout size place j payload bytes = IsJournalAt size place j bytes ⊎ IsJournalAt size place (with_payload j payload) bytes

-- the disk represents the journal that has moved into the other area, with one record of this payload, or the one before
abbrev pub IsMovedOrNot : ℕ → Place → Journaled → List ℕ → List ℕ → Type 0
IsMovedOrNot size place j payload bytes = IsJournalAt size place j bytes ⊎ IsJournalAt size (other_place place) (moved j payload) bytes
