-- What the bytes of an area represent, or why they represent nothing (this project's own).
use Rattle.std.specs.Prelude.{ℕ, ℤ, pos, ◌≤ℤ◌, ◌≡◌, ◌<◌, ◌≤◌, ◌+◌, ◌⊎◌, List, [], ◌∷◌, ◌++◌, length, take}
use Rattle.ob_journal_spec.specs.Spellings.{sized, header}

-- what an area says: its serial, the bytes of an image, and the payloads of its records in their order
pub record Journaled : Type 0 where
  pub serial : ℤ
  pub image : List ℕ
  pub payloads : List (List ℕ)

-- the bytes of an area of a size that begins with these bytes
abbrev pub area_of : ℕ → List ℕ → List ℕ
area_of size bytes = take size bytes

-- the bytes are records with these payloads, each behind an open gate
abbrev pub Records : List (List ℕ) → List ℕ → Type 0
Records [] bytes = bytes ≡ []
Records (payload ∷ payloads) bytes =
    (gate : ℕ) × (rest : List ℕ) × (0 < gate) × sized.fits payload × (bytes ≡ gate ∷ (sized.bytes payload ++ rest)) × Records payloads rest

-- The bytes are an open area up to the gate behind these records.
pub record Front (j : Journaled) (bytes : List ℕ) : Type 0 where
  pub gate : ℕ
  pub records : List ℕ
  pub is_open : 0 < gate
  pub is : bytes ≡ gate ∷ (header.bytes (j.serial, j.image) ++ records)
  pub fits : header.fits (j.serial, j.image)
  pub from_one : pos 1 ≤ℤ j.serial
  pub payloads : Records j.payloads records

-- An area represents this: behind its records is a closed gate, and behind that anything.
pub record AreaRepresents (j : Journaled) (area : List ℕ) : Type 0 where
  pub front : List ℕ
  pub behind : List ℕ
  pub is : area ≡ front ++ 0 ∷ behind
  pub open_front : Front j front

-- how many bytes records with these payloads take, each with its gate
abbrev pub size_of : List (List ℕ) → ℕ
size_of [] = 0
size_of (payload ∷ payloads) = 5 + length payload + size_of payloads

-- where the gate behind the records is, from the area's start
abbrev pub next_gate : Journaled → ℕ
next_gate j = 17 + length j.image + size_of j.payloads

-- an area just begun, for this image
abbrev pub begun : List ℕ → Journaled
begun image = record { serial = pos 1; image = image; payloads = [] }

-- the same with one record more
abbrev pub with_payload : Journaled → List ℕ → Journaled
with_payload j payload = record j { payloads = j.payloads ++ payload ∷ [] }

-- an area is blank: it has one byte at most, or its gate is closed
abbrev pub IsBlank : List ℕ → Type 0
IsBlank area = (length area ≤ 1) ⊎ ((rest : List ℕ) × (area ≡ 0 ∷ rest))

-- an area has more than one byte, and its gate is open
pub record IsOpen (area : List ℕ) : Type 0 where
  pub gate : ℕ
  pub rest : List ℕ
  pub is_open : 0 < gate
  pub some : 0 < length rest
  pub is : area ≡ gate ∷ rest

-- behind an area's gate stands a header with a serial from 1 on, and behind that a gate
pub record HasHeader (serial : ℤ) (image area : List ℕ) : Type 0 where
  pub gate : ℕ
  pub next : ℕ
  pub behind : List ℕ
  pub is : area ≡ gate ∷ (header.bytes (serial, image) ++ next ∷ behind)
  pub fits : header.fits (serial, image)
  pub from_one : pos 1 ≤ℤ serial

-- An area is no store: it is open and has no header.
pub record IsNoStore (area : List ℕ) : Type 0 where
  pub open_area : IsOpen area
  pub no_header : (serial : ℤ) (image : List ℕ) → ¬ (HasHeader serial image area)

-- behind a gate stands a record, and behind that a gate
pub record HasRecord (behind : List ℕ) : Type 0 where
  pub payload : List ℕ
  pub next : ℕ
  pub more : List ℕ
  pub fits : sized.fits payload
  pub is : behind ≡ sized.bytes payload ++ next ∷ more

-- An area is damaged at an offset: behind whole records stands an open gate there, and behind it no record.
pub record IsDamaged (offset : ℕ) (area : List ℕ) : Type 0 where
  pub before : Journaled
  pub front : List ℕ
  pub gate : ℕ
  pub behind : List ℕ
  pub is : area ≡ front ++ gate ∷ behind
  pub open_front : Front before front
  pub is_open : 0 < gate
  pub at : offset ≡ length front
  pub no_record : ¬ (HasRecord behind)
