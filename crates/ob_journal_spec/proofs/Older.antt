-- Headers of areas, and the older one of two.
use Rattle.std.proofs.Common.{◌≡◌, ◌⊎◌, inl, inr, ℕ, ℤ, List, [], ◌∷◌, ◌++◌, refl, sym, ◌∙◌, subst, arith}
use Rattle.std.specs.Prelude.{pos, ◌+ℤ◌}
use Rattle.std.proofs.lemmas.Int.{ints, by_lt_z}
use Rattle.ob_disk_spec.specs.Disk.{Torn}
use Rattle.ob_journal_spec.specs.Spellings.{header}
use Rattle.ob_journal_spec.specs.Areas.{Journaled, AreaRepresents, IsBlank, HasHeader, IsDamaged}
use Rattle.ob_journal_spec.specs.Disks.{Place, first, second, other_place, GoesBefore, IsOlder}
use Rattle.ob_journal_spec.proofs.Bytes.{torn_byte}
use Rattle.ob_journal_spec.proofs.Beginning.{short_torn}
use Rattle.ob_journal_spec.proofs.Spelled.{one_header}
use Rattle.ob_journal_spec.proofs.Unique.{tail, front_header}

-- ---- headers

pub stands_header : (j : Journaled) (area : List ℕ) → AreaRepresents j area → HasHeader j.serial j.image area
stands_header j area s = front_header j area s.front s.behind 0 s.open_front s.is

pub damaged_header : (n : ℕ) (area : List ℕ) (d : IsDamaged n area) → HasHeader d.before.serial d.before.image area
damaged_header n area d = front_header d.before area d.front d.behind d.gate d.open_front d.is

-- an area has one header
pub one_serial : (area : List ℕ) (s t : ℤ) (i k : List ℕ) → HasHeader s i area → HasHeader t k area → s ≡ t
one_serial area s t i k a b = (one_header s t i k (a.next ∷ a.behind) (b.next ∷ b.behind) a.fits b.fits (tail (sym a.is ∙ b.is))).0

-- ---- of two serials

-- one goes before the other
pub goes_before : (s t : ℤ) → GoesBefore first s t ⊎ GoesBefore second t s
goes_before s t = by_lt_z s t (λ less. inr less) (λ more. inl more)

-- and never both
pub never_both : (p : Place) (s t : ℤ) → GoesBefore p s t → GoesBefore (other_place p) t s → ⊥
never_both first s t a b = omega (arith, ints, a, b)
never_both second s t a b = omega (arith, ints, a, b)

pub next_goes_before : (place : Place) (serial : ℤ) → GoesBefore place (serial +ℤ pos 1) serial
next_goes_before first serial = omega (arith, ints)
next_goes_before second serial = omega (arith, ints)

-- ---- an older area

-- Of an area that doesn't begin with a closed gate, a torn first byte changes no header, and brings no second byte.
pub older_torn : (place : Place) (serial : ℤ) (d c : List ℕ) → IsOlder place serial d → ((rest : List ℕ) → d ≡ 0 ∷ rest → ⊥) → Torn 0 1 d c → IsOlder place serial c
older_torn place serial d c (inl (inl short)) is_open torn = inl (short_torn d c short torn)
older_torn place serial d c (inl (inr closed)) is_open torn = absurd (is_open closed.0 closed.1)
older_torn place serial d c (inr older) is_open torn =
    let has = older.3 in
    let behind = header.bytes (older.0, older.1) ++ has.next ∷ has.behind in
    let now = torn_byte [] behind c has.gate 0 refl (subst (λ (l : List ℕ). Torn 0 1 l c) has.is torn) in
    let there : HasHeader older.0 older.1 c = record { gate = now.0; next = has.next; behind = has.behind; is = now.1; fits = has.fits; from_one = has.from_one } in
    inr (older.0, older.1, older.2, there)

-- the same of a blank area
pub blank_torn : (d c : List ℕ) → IsBlank d → ((rest : List ℕ) → d ≡ 0 ∷ rest → ⊥) → Torn 0 1 d c → IsBlank c
blank_torn d c (inl short) is_open torn = short_torn d c short torn
blank_torn d c (inr closed) is_open torn = absurd (is_open closed.0 closed.1)
