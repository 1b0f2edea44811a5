-- How areas begin, and which of them is current.
use Rattle.std.specs.Prelude.{ℕ, ℤ, ◌≡◌, ◌≤◌, Bool, true, false, List, length, take}
use Rattle.ob_journal_spec.specs.Areas.{IsOpen, IsBlank, IsNoStore, HasHeader}
use Rattle.ob_journal_spec.specs.Disks.{Place, IsOlder, IsBlankDisk, IsNoStoreDisk, area_at, other_place}
use Rattle.ob_journal_spec.specs.Heads.{BeginsHeader}
use Rattle.ob_journal.specs.Moments.{LooksClosed}
use Rattle.ob_journal.specs.Places.{place_in}
use Rattle.ob_journal.specs.declared.heads.Head.{Head}
use Rattle.ob_journal.specs.declared.heads.Head.TheVariants.{Closed, Short, Unmarked, Marked}
use Rattle.ob_journal.specs.declared.heads.Current.{Current}
use Rattle.ob_journal.specs.declared.heads.Current.TheVariants.{Nothing, NoStore, At}

-- the bytes are a gate, the letters of a header, a serial, and the number of an image's bytes
abbrev pub IsHead : List ℕ → Type 0
IsHead bytes = (serial : ℤ) × (count : ℕ) × BeginsHeader serial count bytes

-- the bytes are the first ones of an area with so many
pub record IsFrontOf (bytes : List ℕ) (count : ℕ) (area : List ℕ) : Type 0 where
  pub front : bytes ≡ take 17 area
  pub count_is : count ≡ length area

-- the area is open and has a header of this serial
pub record IsMarked (serial : ℤ) (area : List ℕ) : Type 0 where
  pub is_open : IsOpen area
  pub image : List ℕ
  pub has : HasHeader serial image area

-- the area is blank, and begins with a closed gate or not
pub record IsBlankAs (closed : Bool) (area : List ℕ) : Type 0 where
  pub blank : IsBlank area
  pub looks : LooksClosed closed area

-- how an area begins
abbrev pub Begins : Head → List ℕ → Type 0
Begins Closed area = LooksClosed true area
Begins Short area = LooksClosed false area × (length area ≤ 1)
Begins Unmarked area = IsNoStore area
Begins (Marked serial) area = IsMarked serial area

-- the area of this place is current: it is open and has a header, and the other one is blank or older, and begins with a closed gate or not
pub record IsCurrent (size : ℕ) (place : Place) (other_closed : Bool) (bytes : List ℕ) : Type 0 where
  pub serial : ℤ
  pub marked : IsMarked serial (area_at size place bytes)
  pub older : IsOlder place serial (area_at size (other_place place) bytes)
  pub other : LooksClosed other_closed (area_at size (other_place place) bytes)

-- which area is current
abbrev pub Chooses : ℕ → Current → List ℕ → Type 0
Chooses size Nothing bytes = IsBlankDisk size bytes
Chooses size NoStore bytes = IsNoStoreDisk size bytes
Chooses size (At place other_closed) bytes = IsCurrent size (place_in place) other_closed bytes
