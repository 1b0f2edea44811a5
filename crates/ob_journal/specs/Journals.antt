-- What a journal says, and what it is asked to write.
use Rattle.std.specs.Prelude.{ℕ, pos, ◌+ℤ◌, ◌<ℤ◌, ◌≡◌, ◌<◌, ◌≤◌, ◌+◌, ◌⊎◌, List, [], ◌∷◌, ◌++◌, length, Result, Ok, Err}
use Rattle.ob_base.specs.Bytes.{u32_bytes}
use Rattle.ob_disk_spec.specs.Disk.{DiskView}
use Rattle.ob_disk_spec.specs.Durable.{Throughout}
use Rattle.ob_journal_spec.specs.Spellings.{sized, header}
use Rattle.ob_journal_spec.specs.Areas.{Journaled, begun, with_payload, next_gate}
use Rattle.ob_journal_spec.specs.Disks.{Place, other_place, start_of}
use Rattle.ob_journal_spec.specs.Lasting.{last_serial}
use Rattle.ob_journal.specs.Moments.{IsWhole, LooksBeside}
use Rattle.ob_journal.specs.Opening.{AreaOver}
use Rattle.ob_journal.specs.Places.{place_in}
use Rattle.ob_journal.specs.declared.error.BuildError.{BuildError}
use Rattle.ob_journal.specs.declared.error.BuildError.TheVariants as of_build
use Rattle.ob_journal.specs.declared.error.JournalError.{JournalError}
use Rattle.ob_journal.specs.declared.error.JournalError.TheVariants.{NotStore, Damaged, Room, DiskFault, Memory}
use Rattle.ob_journal.specs.declared.journal.Journal.{Journal}
use Rattle.ob_journal.specs.declared.journal.Built.{Built}
use Rattle.ob_journal.specs.declared.journal.AreaDraft.{AreaDraft}
use Rattle.ob_journal.specs.declared.journal.BuiltArea.{BuiltArea}

-- the place of a journal's area
abbrev pub place_of : Journal → Place
place_of journal = place_in journal.place

-- how many bytes each area has at most
abbrev pub area_size : Journal → ℕ
area_size journal = journal.area

-- the bytes of a journal's image
abbrev pub image_of : Journal → List ℕ
image_of journal = journal.image.items

-- what a journal says, where its records have these payloads
abbrev pub journaled : Journal → List (List ℕ) → Journaled
journaled journal payloads = record { serial = journal.serial; image = journal.image.items; payloads = payloads }

-- The disk and each image of it represent a journal with these payloads, and it knows where the gate behind them is, and whether its other
-- area begins with a closed gate.
pub record Holds (journal : Journal) (payloads : List (List ℕ)) (v : DiskView) : Type 0 where
  pub whole : IsWhole journal.area (place_of journal) (journaled journal payloads) v
  pub gate : journal.gate ≡ next_gate (journaled journal payloads)
  pub other : Throughout v (LooksBeside journal.area (place_of journal) journal.other_closed)

-- the bytes that append what was built
abbrev pub bytes_built : Built → List ℕ
bytes_built built = built.bytes.items

-- the bytes of the area that was built, behind its gate
abbrev pub area_built : BuiltArea → List ℕ
area_built built = built.bytes.items

-- how many bytes an area needs for one payload more
abbrev pub need_for : Journal → List ℕ → ℕ
need_for journal payload = journal.gate + 6 + length payload

-- how many bytes an area needs for a header with this image, one record of this payload, and the next gate
abbrev pub need_for_one : List ℕ → List ℕ → ℕ
need_for_one image payload = next_gate (with_payload (begun image) payload) + 1

-- it was built of this payload for this journal: it fits behind the records, and its bytes are those of the payload
pub record IsBuilt (journal : Journal) (payload : List ℕ) (built : Built) : Type 0 where
  pub within : need_for journal payload ≤ journal.area
  pub is : bytes_built built ≡ sized.bytes payload ++ 0 ∷ []

-- It was built of this payload for a move of this journal: a serial is left, its area fits, and its bytes are a header with the next
-- serial and the same image, an open gate with the payload behind it, and a closed gate.
pub record IsBuiltArea (journal : Journal) (payload : List ℕ) (built : BuiltArea) : Type 0 where
  pub serial : journal.serial <ℤ last_serial
  pub within : need_for_one journal.image.items payload ≤ journal.area
  pub is : area_built built ≡ header.bytes (journal.serial +ℤ pos 1, journal.image.items) ++ 1 ∷ (sized.bytes payload ++ 0 ∷ [])

-- The front of an area for a move of this journal: a header with the next serial, if one is left, and the same image, an open gate, and four
-- bytes for a number.
pub record IsFront (journal : Journal) (front : List ℕ) : Type 0 where
  pub length : length front ≡ 21 + length journal.image.items
  pub is : journal.serial <ℤ last_serial → front ≡ header.bytes (journal.serial +ℤ pos 1, journal.image.items) ++ 1 ∷ u32_bytes 0

-- an area is being built for a move of this journal, and this payload stands behind its front
pub record IsDraftOf (journal : Journal) (payload : List ℕ) (draft : AreaDraft) : Type 0 where
  pub front : List ℕ
  pub begins : IsFront journal front
  pub is : draft.bytes.items ≡ front ++ payload

-- an area is being built for a move of this journal
abbrev pub IsDraftFor : Journal → AreaDraft → Type 0
IsDraftFor journal draft = (payload : List ℕ) × IsDraftOf journal payload draft

-- it was built for this journal
abbrev pub IsBuiltFor : Journal → Built → Type 0
IsBuiltFor journal built = (payload : List ℕ) × IsBuilt journal payload built

-- it was built for a move of this journal
abbrev pub IsAreaFor : Journal → BuiltArea → Type 0
IsAreaFor journal built = (payload : List ℕ) × IsBuiltArea journal payload built

-- what building a record answers: `Room` exactly where the area is smaller than what is needed
abbrev pub Builds : Journal → List ℕ → Result Built BuildError → Type 0
Builds journal payload (Ok built) = IsBuilt journal payload built
Builds journal payload (Err (of_build.Room need size)) = (need ≡ need_for journal payload) × (size ≡ journal.area) × (size < need)
Builds journal payload (Err of_build.Memory) = need_for journal payload ≤ journal.area

-- what building an area answers: `Room` exactly where it would be larger than an area may be, or no serial is left
abbrev pub BuildsArea : Journal → List ℕ → Result BuiltArea BuildError → Type 0
BuildsArea journal payload (Ok built) = IsBuiltArea journal payload built
BuildsArea journal payload (Err (of_build.Room need size)) =
    (need ≡ need_for_one journal.image.items payload) × (size ≡ journal.area) × ((size < need) ⊎ (journal.serial ≡ last_serial))
BuildsArea journal payload (Err of_build.Memory) =
    (need_for_one journal.image.items payload ≤ journal.area) × (journal.serial <ℤ last_serial)

-- two journals are of one disk, and say the same but for their records
pub record IsSameButRecords (a b : Journal) : Type 0 where
  pub area : b.area ≡ a.area
  pub image : b.image.items ≡ a.image.items

-- a record of this payload was appended
pub record IsAppended (before : Journal) (payload : List ℕ) (after : Journal) : Type 0 where
  pub same : IsSameButRecords before after
  pub place : after.place ≡ before.place
  pub serial : after.serial ≡ before.serial
  pub gate : after.gate ≡ before.gate + 5 + length payload

-- the journal moved, with one record of this payload
pub record IsMoved (before : Journal) (payload : List ℕ) (after : Journal) : Type 0 where
  pub same : IsSameButRecords before after
  pub place : place_of after ≡ other_place (place_of before)
  pub serial : after.serial ≡ before.serial +ℤ pos 1
  pub gate : after.gate + 1 ≡ need_for_one before.image.items payload

-- what beginning an area answers: `Room` exactly where it is smaller than a header with its two gates
abbrev pub Begins : ℕ → List ℕ → Result Journal JournalError → Type 0
Begins size image (Ok journal) =
    (journaled journal [] ≡ begun image) × (journal.gate ≡ next_gate (begun image)) × (journal.area ≡ size) × (18 + length image ≤ size)
Begins size image (Err NotStore) = ⊥
Begins size image (Err (Damaged offset)) = ⊥
Begins size image (Err (Room need area)) = (need ≡ 18 + length image) × (area ≡ size) × (size < need)
Begins size image (Err DiskFault) = 18 + length image ≤ size
Begins size image (Err Memory) = 18 + length image ≤ size

-- the offset of the gate behind the records, from the area's start
abbrev pub gate_of : Journal → ℕ
gate_of journal = journal.gate

-- the same from the disk's start
abbrev pub next_offset : Journal → ℕ
next_offset journal = start_of journal.area (place_of journal) + journal.gate

-- where its area ends
abbrev pub end_offset : Journal → ℕ
end_offset journal = start_of journal.area (place_of journal) + journal.area

-- where the other area begins
abbrev pub other_start : Journal → ℕ
other_start journal = start_of journal.area (other_place (place_of journal))

-- What a move writes: a closed gate at the other area's start, unless that has one; the area behind it; and then the open gate.
abbrev pub MovedOver : (List ℕ → Type 0) → Journal → BuiltArea → List ℕ → Type 0
MovedOver olds journal built c = AreaOver journal.other_closed olds (other_start journal) (area_built built) c
