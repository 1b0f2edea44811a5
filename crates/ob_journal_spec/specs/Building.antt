-- A disk on which an area is built behind a closed gate, which opens last (this project's own). So an area is begun on a blank disk, and so a
-- journal moves.
use Rattle.std.specs.Prelude.{ℕ, pos, ◌≤ℤ◌, ◌≡◌, ⊤, List, ◌∷◌, ◌++◌, Option, Some, None}
use Rattle.ob_journal_spec.specs.Spellings.{header}
use Rattle.ob_journal_spec.specs.Areas.{Journaled, Records, AreaRepresents, IsBlank}
use Rattle.ob_journal_spec.specs.Disks.{Place, first, second, other_place, area_at, GoesBefore, IsJournalAt, IsBlankDisk}

-- an area's gate is closed by a byte
abbrev pub IsClosed : List ℕ → Type 0
IsClosed area = (rest : List ℕ) × (area ≡ 0 ∷ rest)

-- these are the records of a journal that an area can hold
pub record IsSpelled (j : Journaled) (records : List ℕ) : Type 0 where
  pub fits : header.fits (j.serial, j.image)
  pub from_one : pos 1 ≤ℤ j.serial
  pub payloads : Records j.payloads records

-- all of an area stands behind a closed gate
abbrev pub IsHeaded : Journaled → List ℕ → List ℕ → Type 0
IsHeaded j records area = (rest : List ℕ) × (area ≡ 0 ∷ (header.bytes (j.serial, j.image) ++ (records ++ 0 ∷ rest)))

-- what the disk represents before: nothing, or a journal, by the area of this place
abbrev pub IsBefore : ℕ → Place → Option Journaled → List ℕ → Type 0
IsBefore size place None bytes = IsBlankDisk size bytes
IsBefore size place (Some j) bytes = IsJournalAt size place j bytes

-- the same of the area of this place
abbrev pub StandsThere : Option Journaled → List ℕ → Type 0
StandsThere None area = IsBlank area
StandsThere (Some j) area = AreaRepresents j area

-- A new journal may be built beside this place: on a blank disk in the first area, and else with a serial that goes before.
abbrev pub CanFollow : Option Journaled → Place → Journaled → Type 0
CanFollow None first new = ⊥
CanFollow None second new = ⊤
CanFollow (Some j) place new = GoesBefore (other_place place) new.serial j.serial

-- the area beside this place has a closed gate
pub record IsClosedBeside (size : ℕ) (place : Place) (was : Option Journaled) (bytes : List ℕ) : Type 0 where
  pub there : StandsThere was (area_at size place bytes)
  pub closed : IsClosed (area_at size (other_place place) bytes)

-- behind that gate the new journal stands whole
pub record IsShutBeside (size : ℕ) (place : Place) (was : Option Journaled) (new : Journaled) (bytes : List ℕ) : Type 0 where
  pub there : StandsThere was (area_at size place bytes)
  pub records : List ℕ
  pub spelled : IsSpelled new records
  pub headed : IsHeaded new records (area_at size (other_place place) bytes)
