-- What is read of an area.
use Rattle.std.specs.Prelude.{ℕ, ℤ, ◌≡◌, ◌<◌, ◌+◌, ◌-◌, ⊤, List, ◌∷◌, length, take, drop, get_or, Result, Ok, Err}
use Rattle.ob_journal_spec.specs.Areas.{Journaled, Records, AreaRepresents, IsOpen, HasHeader, HasRecord, IsDamaged, next_gate}
use Rattle.ob_journal.specs.declared.error.AreaFault.{AreaFault}
use Rattle.ob_journal.specs.declared.error.AreaFault.TheVariants.{NotStore, Damaged, Memory}
use Rattle.ob_journal.specs.declared.records.RecordsEnd.{RecordsEnd}
use Rattle.ob_journal.specs.declared.records.RecordsEnd.TheVariants.{Closed, Unreadable}
use Rattle.ob_journal.specs.declared.records.ReadArea.{ReadArea}
use Rattle.ob_journal.specs.declared.recorded.Recorded.{Recorded}

-- the bytes of the records that were read
abbrev pub record_bytes : Recorded → List ℕ
record_bytes recorded = take (recorded.end - recorded.start) (drop recorded.start recorded.bytes.items)

-- the records that were read have these payloads
abbrev pub HasPayloads : Recorded → List (List ℕ) → Type 0
HasPayloads recorded payloads = Records payloads (record_bytes recorded)

-- a record of this payload is the first of those with these payloads, and the rest is of the others
pub record IsFirst (payload rest : List ℕ) (payloads : List (List ℕ)) : Type 0 where
  pub others : List (List ℕ)
  pub is : payloads ≡ payload ∷ others
  pub behind : Records others rest

-- behind records is a gate here
pub record EndsAt (gate : ℕ) (bytes : List ℕ) : Type 0 where
  pub payloads : List (List ℕ)
  pub records : Records payloads (take gate bytes)
  pub within : gate < length bytes

-- where records end: at a closed gate, or at an open one behind which no record stands
abbrev pub EndsAs : RecordsEnd → List ℕ → Type 0
EndsAs (Closed gate) bytes = EndsAt gate bytes × (get_or bytes gate 0 ≡ 0)
EndsAs (Unreadable gate) bytes = EndsAt gate bytes × (¬ (get_or bytes gate 0 ≡ 0)) × (¬ (HasRecord (drop (gate + 1) bytes)))

-- what an area says that was read, with records of these payloads
abbrev pub plain : ReadArea → List (List ℕ) → Journaled
plain read payloads = record { serial = read.serial; image = read.image.items; payloads = payloads }

-- where the gate of its first record is
abbrev pub first_gate : ReadArea → ℕ
first_gate read = 17 + length read.image.items

-- the area represents what was read, and the gate behind the records is within it
pub record IsRead (read : ReadArea) (area : List ℕ) : Type 0 where
  pub payloads : List (List ℕ)
  pub stands : AreaRepresents (plain read payloads) area
  pub records : Records payloads (take (read.gate - first_gate read) (drop (first_gate read) area))
  pub gate : read.gate ≡ next_gate (plain read payloads)
  pub within : read.gate < length area

-- the area is open and has a header
abbrev pub IsHeadedArea : List ℕ → Type 0
IsHeadedArea area = IsOpen area × ((serial : ℤ) × (image : List ℕ) × HasHeader serial image area)

-- what reading an area answers
abbrev pub Surveys : Result ReadArea AreaFault → List ℕ → Type 0
Surveys (Ok read) area = IsRead read area
Surveys (Err NotStore) area = ¬ (IsHeadedArea area)
Surveys (Err (Damaged offset)) area = IsDamaged offset area
Surveys (Err Memory) area = ⊤
