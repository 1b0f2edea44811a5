-- A disk represents one journal, or has one cause to represent none.
use Rattle.std.proofs.Common.{◌≡◌, inl, inr, ℕ, ℤ, List, [], drop, refl, sym, ap, subst, arith, length-take, length-drop}
use Rattle.ob_journal_spec.specs.Areas.{Journaled, AreaRepresents, IsBlank, HasHeader, IsNoStore, IsDamaged}
use Rattle.ob_journal_spec.specs.Disks.{Place, first, second, other_place, start_of, area_at, GoesBefore, IsOlder, IsJournalAt, IsBlankDisk, IsNoStoreDisk, IsDamagedDisk}
use Rattle.ob_journal_spec.proofs.Older.{stands_header, damaged_header, one_serial, never_both}
use Rattle.ob_journal_spec.proofs.Unique.{one_stands, one_damage, whole_or_damaged, blank_or_no_store, blank_or_stands, blank_or_damaged}

-- The area of this place is current, by its serial: it isn't blank, and the other one is older.
record IsCurrent (size : ℕ) (place : Place) (serial : ℤ) (bytes : List ℕ) : Type 0 where
  image : List ℕ
  has : HasHeader serial image (area_at size place bytes)
  some : IsBlank (area_at size place bytes) → ⊥
  older : IsOlder place serial (area_at size (other_place place) bytes)

journal_current : (size : ℕ) (place : Place) (j : Journaled) (bytes : List ℕ) → IsJournalAt size place j bytes → IsCurrent size place j.serial bytes
journal_current size place j bytes is = record {
  image = j.image;
  has = stands_header j (area_at size place bytes) is.current;
  some = λ blank. blank_or_stands (area_at size place bytes) j blank is.current;
  older = is.older;
}

damaged_current : (size offset : ℕ) (bytes : List ℕ) (d : IsDamagedDisk size offset bytes) → IsCurrent size d.place d.damaged.before.serial bytes
damaged_current size offset bytes d = record {
  image = d.damaged.before.image;
  has = damaged_header d.within (area_at size d.place bytes) d.damaged;
  some = λ blank. blank_or_damaged (area_at size d.place bytes) d.within blank d.damaged;
  older = d.older;
}

-- a current area goes before the other one that isn't blank
beats : (place : Place) (s t : ℤ) (image area : List ℕ) → IsOlder place s area → (IsBlank area → ⊥) → HasHeader t image area → GoesBefore place s t
beats place s t image area (inl blank) some has = absurd (some blank)
beats place s t image area (inr older) some has = subst (GoesBefore place s) (one_serial area older.0 t older.1 image older.3 has) older.2

one_place : (size : ℕ) (p q : Place) (s t : ℤ) (bytes : List ℕ) → IsCurrent size p s bytes → IsCurrent size q t bytes → p ≡ q
one_place size first first s t bytes a b = refl
one_place size second second s t bytes a b = refl
one_place size first second s t bytes a b =
    absurd (never_both first s t (beats first s t b.image (area_at size second bytes) a.older b.some b.has) (beats second t s a.image (area_at size first bytes) b.older a.some a.has))
one_place size second first s t bytes a b =
    absurd (never_both second s t (beats second s t b.image (area_at size first bytes) a.older b.some b.has) (beats first t s a.image (area_at size second bytes) b.older a.some a.has))

-- ---- one meaning

pub one_journal : (size : ℕ) (bytes : List ℕ) (p q : Place) (j k : Journaled) → IsJournalAt size p j bytes → IsJournalAt size q k bytes → (p ≡ q) × (j ≡ k)
one_journal size bytes p q j k a b =
    let same = one_place size p q j.serial k.serial bytes (journal_current size p j bytes a) (journal_current size q k bytes b) in
    (same, one_stands (area_at size p bytes) j k a.current (subst (λ (x : Place). AreaRepresents k (area_at size x bytes)) (sym same) b.current))

pub one_damage_disk : (size : ℕ) (bytes : List ℕ) (m n : ℕ) → IsDamagedDisk size m bytes → IsDamagedDisk size n bytes → m ≡ n
one_damage_disk size bytes m n a b =
    let same = one_place size a.place b.place a.damaged.before.serial b.damaged.before.serial bytes (damaged_current size m bytes a) (damaged_current size n bytes b) in
    let within : a.within ≡ b.within = one_damage (area_at size a.place bytes) a.within b.within a.damaged (subst (λ (x : Place). IsDamaged b.within (area_at size x bytes)) (sym same) b.damaged) in
    let start : start_of size a.place ≡ start_of size b.place = ap (start_of size) same in
    omega (arith, a.at, b.at, within, start)

-- ---- never two

blank_at : (size : ℕ) (place : Place) (bytes : List ℕ) → IsBlankDisk size bytes → IsBlank (area_at size place bytes)
blank_at size first bytes blank = blank.one
blank_at size second bytes blank = blank.other

-- an older area isn't one of no store
beside_none : (place : Place) (s : ℤ) (area : List ℕ) → IsOlder place s area → IsNoStore area → ⊥
beside_none place s area (inl blank) none = blank_or_no_store area blank none
beside_none place s area (inr older) none = none.no_header older.0 older.1 older.3

-- where an area is current, none is one of no store
stores_at : (size : ℕ) (p q : Place) (s : ℤ) (bytes : List ℕ) → IsCurrent size p s bytes → IsNoStore (area_at size q bytes) → ⊥
stores_at size first first s bytes a none = none.no_header s a.image a.has
stores_at size second second s bytes a none = none.no_header s a.image a.has
stores_at size first second s bytes a none = beside_none first s (area_at size second bytes) a.older none
stores_at size second first s bytes a none = beside_none second s (area_at size first bytes) a.older none

never_no_store : (size : ℕ) (p : Place) (s : ℤ) (bytes : List ℕ) → IsCurrent size p s bytes → IsNoStoreDisk size bytes → ⊥
never_no_store size p s bytes a (inl none) = stores_at size p first s bytes a none
never_no_store size p s bytes a (inr none) = stores_at size p second s bytes a none

pub blank_or_journal : (size : ℕ) (bytes : List ℕ) (place : Place) (j : Journaled) → IsBlankDisk size bytes → IsJournalAt size place j bytes → ⊥
blank_or_journal size bytes place j blank is = blank_or_stands (area_at size place bytes) j (blank_at size place bytes blank) is.current

pub blank_or_damaged_disk : (size : ℕ) (bytes : List ℕ) (offset : ℕ) → IsBlankDisk size bytes → IsDamagedDisk size offset bytes → ⊥
blank_or_damaged_disk size bytes offset blank d = blank_or_damaged (area_at size d.place bytes) d.within (blank_at size d.place bytes blank) d.damaged

pub blank_or_no_store_disk : (size : ℕ) (bytes : List ℕ) → IsBlankDisk size bytes → IsNoStoreDisk size bytes → ⊥
blank_or_no_store_disk size bytes blank (inl none) = blank_or_no_store (area_at size first bytes) blank.one none
blank_or_no_store_disk size bytes blank (inr none) = blank_or_no_store (area_at size second bytes) blank.other none

pub no_store_or_journal : (size : ℕ) (bytes : List ℕ) (place : Place) (j : Journaled) → IsNoStoreDisk size bytes → IsJournalAt size place j bytes → ⊥
no_store_or_journal size bytes place j none is = never_no_store size place j.serial bytes (journal_current size place j bytes is) none

pub no_store_or_damaged_disk : (size : ℕ) (bytes : List ℕ) (offset : ℕ) → IsNoStoreDisk size bytes → IsDamagedDisk size offset bytes → ⊥
no_store_or_damaged_disk size bytes offset none d = never_no_store size d.place d.damaged.before.serial bytes (damaged_current size offset bytes d) none

pub journal_or_damaged_disk : (size : ℕ) (bytes : List ℕ) (place : Place) (j : Journaled) (offset : ℕ) → IsJournalAt size place j bytes → IsDamagedDisk size offset bytes → ⊥
journal_or_damaged_disk size bytes place j offset is d =
    let same = one_place size place d.place j.serial d.damaged.before.serial bytes (journal_current size place j bytes is) (damaged_current size offset bytes d) in
    whole_or_damaged (area_at size d.place bytes) j d.within (subst (λ (x : Place). AreaRepresents j (area_at size x bytes)) same is.current) d.damaged

-- a disk of no bytes
pub no_bytes_blank : (size : ℕ) → IsBlankDisk size []
no_bytes_blank size = record { one = inl (omega (arith, length-take {A = ℕ} size [])); other = inl (omega (arith, length-take {A = ℕ} size (drop size []), length-drop {A = ℕ} size [])) }
