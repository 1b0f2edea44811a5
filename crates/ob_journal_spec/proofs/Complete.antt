-- A disk of bytes is one of these: blank, no store, damaged, or one that represents a journal.
use Rattle.std.proofs.Common.{◌≡◌, ◌⊎◌, inl, inr, ℕ, ℤ, zero, suc, ◌+◌, ◌<◌, ◌≤◌, ◌^◌, List, [], ◌∷◌, ◌++◌, length, get_or, take, drop, refl, sym, ◌∙◌, ap, subst, arith, append_assoc, take-append-drop}
use Rattle.std.specs.Prelude.{pos, ◌≤ℤ◌}
use Rattle.std.specs.Int.Signed.{<ℤ_irrefl, <ℤ-≤ℤ_trans}
use Rattle.std.proofs.lemmas.Bool.{cases_lt, cases_eq}
use Rattle.std.proofs.lemmas.Int.{by_lt_z}
use Rattle.ob_base.specs.Bytes.{u32_bytes, i64_bytes}
use Rattle.ob_base.proofs.FieldsLemmas.{one_i64}
use Rattle.ob_format_spec.specs.Formats.{Format}
use Rattle.ob_format_spec.specs.Combinators.{number, integer, literal}
use Rattle.ob_format_spec.specs.Lawful.{AreBytes, Lawful}
use Rattle.ob_format_spec.proofs.CombinatorLaws.{rest_bytes, Case, is_done, is_stop, case_of}
use Rattle.ob_format_spec.proofs.NumberLaws.{number_lawful, integer_lawful}
use Rattle.ob_format_spec.proofs.KindLaws.{literal_lawful}
use Rattle.ob_journal_spec.specs.Spellings.{sized}
use Rattle.ob_journal_spec.specs.Areas.{Journaled, Front, AreaRepresents, IsBlank, IsOpen, HasHeader, IsNoStore, HasRecord, IsDamaged, with_payload}
use Rattle.ob_journal_spec.specs.Disks.{Place, first, second, other_place, start_of, area_at, GoesBefore, IsOlder, IsJournalAt, IsBlankDisk, IsNoStoreDisk, IsDamagedDisk}
use Rattle.ob_journal_spec.proofs.DiskReading.{journal_at, damaged_at}
use Rattle.ob_journal_spec.proofs.Older.{goes_before}
use Rattle.ob_journal_spec.proofs.Reading.{BeginsSized, headed, one_more, closes, damages, whole_sized, cut_sized}
use Rattle.ob_journal_spec.proofs.Spelled.{one_sized}
use Rattle.ob_journal_spec.proofs.Unique.{tail}

-- ---- parts from the front, there or not

-- the bytes begin with what spells some value
Starts : {A : Type 0} → Format A → List ℕ → Type 0
Starts {A} f bytes = (x : A) × (rest : List ℕ) × f.fits x × (bytes ≡ f.bytes x ++ rest)

starts_or_not : {A : Type 0} (f : Format A) → Lawful f → (bytes : List ℕ) → AreBytes bytes → Starts f bytes ⊎ (¬ (Starts f bytes))
unfolding Starts
starts_or_not f lawful bytes are = by_case (case_of (f.read bytes)) where
  by_case : Case (f.read bytes) → Starts f bytes ⊎ (¬ (Starts f bytes))
  by_case (is_done x rest is) = let there = lawful.sound bytes are x rest is in inl (x, rest, there.0, there.1)
  by_case (is_stop left is) = inr (λ s. let there = sym is ∙ ap f.read s.3 ∙ lawful.full s.0 s.2 s.1 in absurd cc)

sized_or_not : (bytes : List ℕ) → AreBytes bytes → BeginsSized bytes ⊎ (¬ (BeginsSized bytes))
unfolding Starts
sized_or_not bytes are = by_number (starts_or_not number number_lawful bytes are) where
  -- a number comes before them
  counted : (s : BeginsSized bytes) → bytes ≡ u32_bytes (length s.0) ++ (s.0 ++ s.1)
  counted s = s.3 ∙ append_assoc (u32_bytes (length s.0)) s.0 s.1

  by_length : (n : ℕ) (rest : List ℕ) → n < 2 ^ 32 → bytes ≡ u32_bytes n ++ rest → (length rest < n) ⊎ (n ≤ length rest) → BeginsSized bytes ⊎ (¬ (BeginsSized bytes))
  by_length n rest small is (inl short) = inr (cut_sized bytes rest n small is short)
  by_length n rest small is (inr within) = let whole = whole_sized bytes rest n small is within in inl (take n rest, drop n rest, whole.0, whole.1)

  by_number : Starts number bytes ⊎ (¬ (Starts number bytes)) → BeginsSized bytes ⊎ (¬ (BeginsSized bytes))
  by_number (inl s) = by_length s.0 s.1 s.2 s.3 (cases_lt (length s.1) s.0)
  by_number (inr none) = inr (λ s. none (length s.0, s.0 ++ s.1, s.2.0, counted s))

record_or_not : (bytes : List ℕ) → AreBytes bytes → HasRecord bytes ⊎ (¬ (HasRecord bytes))
record_or_not bytes are = by_sized (sized_or_not bytes are) where
  by_rest : (b rest : List ℕ) → sized.fits b → bytes ≡ sized.bytes b ++ rest → HasRecord bytes ⊎ (¬ (HasRecord bytes))
  by_rest b [] fits is = inr (λ r. let none = (one_sized b r.payload [] (r.next ∷ r.more) fits r.fits (sym is ∙ r.is)).1 in absurd cc)
  by_rest b (next ∷ more) fits is = inl (record { payload = b; next = next; more = more; fits = fits; is = is })

  by_sized : BeginsSized bytes ⊎ (¬ (BeginsSized bytes)) → HasRecord bytes ⊎ (¬ (HasRecord bytes))
  by_sized (inl s) = by_rest s.0 s.1 s.2 s.3
  by_sized (inr none) = inr (λ r. none (r.payload, r.next ∷ r.more, r.fits, r.is))

-- the letters of a header
letters : List ℕ
letters = 79 ∷ 66 ∷ 83 ∷ 65 ∷ []

HeaderOrNot : List ℕ → Type 0
HeaderOrNot area = ((serial : ℤ) × (image : List ℕ) × HasHeader serial image area) ⊎ ((serial : ℤ) (image : List ℕ) → ¬ (HasHeader serial image area))

module _ (gate : ℕ) (bytes : List ℕ) (are : AreBytes bytes) where
  -- what is behind the letters
  behind_letters : (rest : List ℕ) → bytes ≡ 79 ∷ 66 ∷ 83 ∷ 65 ∷ rest → (s : ℤ) (i : List ℕ) (has : HasHeader s i (gate ∷ bytes)) → rest ≡ i64_bytes s ++ (sized.bytes i ++ has.next ∷ has.behind)
  behind_letters rest is s i has =
      let same : rest ≡ (i64_bytes s ++ sized.bytes i) ++ has.next ∷ has.behind = ap (λ (l : List ℕ). drop 4 l) (sym is ∙ tail has.is) in same ∙ append_assoc (i64_bytes s) (sized.bytes i) (has.next ∷ has.behind)

  module _ (rest : List ℕ) (is : bytes ≡ 79 ∷ 66 ∷ 83 ∷ 65 ∷ rest) (are_rest : AreBytes rest) where
    by_image : (z : ℤ) (more : List ℕ) → integer.fits z → pos 1 ≤ℤ z → rest ≡ i64_bytes z ++ more → HasRecord more ⊎ (¬ (HasRecord more)) → HeaderOrNot (gate ∷ bytes)
    unfolding HeaderOrNot
    by_image z more fits from number_is (inl r) =
        let there : HasHeader z r.payload (gate ∷ bytes) = record {
          gate = gate;
          next = r.next;
          behind = r.more;
          is = ap (λ (l : List ℕ). gate ∷ l) is ∙ ap (λ (l : List ℕ). gate ∷ 79 ∷ 66 ∷ 83 ∷ 65 ∷ l) (number_is ∙ ap (λ (l : List ℕ). i64_bytes z ++ l) r.is ∙ sym (append_assoc (i64_bytes z) (sized.bytes r.payload) (r.next ∷ r.more)));
          fits = (tt, (fits, r.fits));
          from_one = from;
        } in
        inl (z, r.payload, there)
    by_image z more fits from number_is (inr none) = inr (λ s i has.
        let both = one_i64 s z (sized.bytes i ++ has.next ∷ has.behind) more has.fits.1.0 fits (sym (behind_letters rest is s i has) ∙ number_is) in
        none (record { payload = i; next = has.next; more = has.behind; fits = has.fits.1.1; is = sym both.1 }))

    by_serial : Starts integer rest ⊎ (¬ (Starts integer rest)) → HeaderOrNot (gate ∷ bytes)
    unfolding Starts HeaderOrNot
    by_serial (inl n) =
        let are_more : AreBytes n.1 = rest_bytes (i64_bytes n.0) n.1 (subst AreBytes n.3 are_rest) in
        by_lt_z n.0 (pos 1)
        (λ low. inr (λ s i has.
        let both = one_i64 s n.0 (sized.bytes i ++ has.next ∷ has.behind) n.1 has.fits.1.0 n.2 (sym (behind_letters rest is s i has) ∙ n.3) in
        <ℤ_irrefl (<ℤ-≤ℤ_trans low (subst (λ (x : ℤ). pos 1 ≤ℤ x) both.0 has.from_one))))
        (λ from. by_image n.0 n.1 n.2 from n.3 (record_or_not n.1 are_more))
    by_serial (inr none) = inr (λ s i has. none (s, sized.bytes i ++ has.next ∷ has.behind, has.fits.1.0, behind_letters rest is s i has))

  by_letters : Starts (literal letters) bytes ⊎ (¬ (Starts (literal letters) bytes)) → HeaderOrNot (gate ∷ bytes)
  unfolding Starts HeaderOrNot letters
  by_letters (inl l) = let are_rest : AreBytes l.1 = rest_bytes letters l.1 (subst AreBytes l.3 are) in by_serial l.1 l.3 are_rest (starts_or_not integer integer_lawful l.1 are_rest)
  by_letters (inr none) = inr (λ s i has. none (tt, (i64_bytes s ++ sized.bytes i) ++ has.next ∷ has.behind, tt, tail has.is))

header_or_not : (gate : ℕ) (bytes : List ℕ) → AreBytes bytes → HeaderOrNot (gate ∷ bytes)
header_or_not gate bytes are = by_letters gate bytes are (starts_or_not (literal letters) (literal_lawful letters) bytes are)

-- ---- an area

-- it is blank, no store, or open with a header
data Kind (area : List ℕ) : Type 0 where
  is_blank : IsBlank area → Kind area
  is_none : IsNoStore area → Kind area
  is_headed : (serial : ℤ) (image : List ℕ) → IsOpen area → HasHeader serial image area → Kind area

by_header : (gate : ℕ) (bytes : List ℕ) → IsOpen (gate ∷ bytes) → HeaderOrNot (gate ∷ bytes) → Kind (gate ∷ bytes)
unfolding HeaderOrNot
by_header gate bytes is_open (inl there) = is_headed there.0 there.1 is_open there.2
by_header gate bytes is_open (inr none) = is_none (record { open_area = is_open; no_header = none })

kind_of : (area : List ℕ) → AreBytes area → Kind area
kind_of [] are = is_blank (inl (omega arith))
kind_of (b ∷ []) are = is_blank (inl (omega arith))
kind_of (zero ∷ c ∷ rest) are = is_blank (inr (c ∷ rest, refl))
kind_of (suc g ∷ c ∷ rest) are =
    let is_open : IsOpen (suc g ∷ c ∷ rest) = record { gate = suc g; rest = c ∷ rest; is_open = omega arith; some = omega arith; is = refl } in by_header (suc g) (c ∷ rest) is_open (header_or_not (suc g) (c ∷ rest) are.1)

drop_bytes : (n : ℕ) (bytes : List ℕ) → AreBytes bytes → AreBytes (drop n bytes)
drop_bytes n bytes are = rest_bytes (take n bytes) (drop n bytes) (subst AreBytes (sym (take-append-drop n bytes)) are)

take_bytes : (n : ℕ) (bytes : List ℕ) → AreBytes bytes → AreBytes (take n bytes)
take_bytes zero bytes are = tt
take_bytes (suc n) [] are = tt
take_bytes (suc n) (b ∷ bytes) are = (are.0, take_bytes n bytes are.1)

-- behind its header it represents something, or is damaged
Ends : List ℕ → Type 0
Ends area = ((j : Journaled) × AreaRepresents j area) ⊎ ((n : ℕ) × IsDamaged n area)

at_gate : (j : Journaled) (area : List ℕ) (gate : ℕ) → Front j (take gate area) → gate < length area
    → ((payload : List ℕ) → Front (with_payload j payload) (take (gate + (5 + length payload)) area) → gate + (5 + length payload) < length area → Ends area)
    → (get_or area gate 0 ≡ 0) ⊎ (get_or area gate 0 ≡ 0 → ⊥) → HasRecord (drop (gate + 1) area) ⊎ (¬ (HasRecord (drop (gate + 1) area))) → Ends area
unfolding Ends
at_gate j area gate front within further (inl closed) there = inl (j, closes j area gate front within closed)
at_gate j area gate front within further (inr is_open) (inl r) = let next = one_more j area r.payload gate front within is_open r refl in further r.payload next.0 next.1
at_gate j area gate front within further (inr is_open) (inr none) = inr (gate, damages j area gate front within is_open none)

walked : (fuel : ℕ) (j : Journaled) (area : List ℕ) (gate : ℕ) → AreBytes area → Front j (take gate area) → gate < length area → length area ≤ gate + fuel → Ends area
walked zero j area gate are front within enough = absurd (omega (arith, within, enough))
walked (suc fuel) j area gate are front within enough =
    at_gate j area gate front within (λ payload more inside. walked fuel (with_payload j payload) area (gate + (5 + length payload)) are more inside (omega (arith, enough)))
    (cases_eq (get_or area gate 0) 0) (record_or_not (drop (gate + 1) area) (drop_bytes (gate + 1) area are))

ends : (area : List ℕ) → AreBytes area → (serial : ℤ) (image : List ℕ) → IsOpen area → HasHeader serial image area → Ends area
ends area are serial image is_open has =
    let some : ¬ (get_or area 0 0 ≡ 0) = λ closed. let gate : get_or area 0 0 ≡ is_open.gate = ap (λ (l : List ℕ). get_or l 0 0) is_open.is in omega (arith, gate, closed, is_open.is_open) in
    let front = headed area serial image has some in
    walked (length area) (record { serial = serial; image = image; payloads = [] }) area (17 + length image) are front.0 front.1 (omega arith)

-- ---- a disk

-- one of the four
abbrev pub IsOneOf : ℕ → List ℕ → Type 0
IsOneOf size bytes = IsBlankDisk size bytes ⊎ (IsNoStoreDisk size bytes ⊎ (((n : ℕ) × IsDamagedDisk size n bytes) ⊎ ((p : Place) × (j : Journaled) × IsJournalAt size p j bytes)))

current : (size : ℕ) (place : Place) (bytes : List ℕ) (serial : ℤ) (image : List ℕ) → HasHeader serial image (area_at size place bytes) → IsOlder place serial (area_at size (other_place place) bytes) → Ends (area_at size place bytes) → IsOneOf size bytes
unfolding Ends
current size place bytes serial image has older (inl s) = inr (inr (inr (place, s.0, journal_at size place serial image s.0 bytes has older s.1)))
current size place bytes serial image has older (inr d) = inr (inr (inl (start_of size place + d.0, damaged_at size place serial image d.0 bytes has older d.1)))

module _ (size : ℕ) (bytes : List ℕ) (are : AreBytes bytes) where
  bytes_at : (place : Place) → AreBytes (area_at size place bytes)
  bytes_at place = take_bytes size (drop (start_of size place) bytes) (drop_bytes (start_of size place) bytes are)

  there : (place : Place) (serial : ℤ) (image : List ℕ) → IsOpen (area_at size place bytes) → HasHeader serial image (area_at size place bytes) → IsOlder place serial (area_at size (other_place place) bytes) → IsOneOf size bytes
  there place serial image is_open has older = current size place bytes serial image has older (ends (area_at size place bytes) (bytes_at place) serial image is_open has)

  by_kinds : Kind (area_at size first bytes) → Kind (area_at size second bytes) → IsOneOf size bytes
  by_kinds (is_none none) other = inr (inl (inl none))
  by_kinds (is_blank blank) (is_blank too) = inl (record { one = blank; other = too })
  by_kinds (is_blank blank) (is_none none) = inr (inl (inr none))
  by_kinds (is_blank blank) (is_headed t k is_open has) = there second t k is_open has (inl blank)
  by_kinds (is_headed s i is_open has) (is_blank blank) = there first s i is_open has (inl blank)
  by_kinds (is_headed s i is_open has) (is_none none) = inr (inl (inr none))
  by_kinds (is_headed s i is_open has) (is_headed t k too behind) = by_serials (goes_before s t) where
    by_serials : GoesBefore first s t ⊎ GoesBefore second t s → IsOneOf size bytes
    by_serials (inl before) = there first s i is_open has (inr (t, k, before, behind))
    by_serials (inr before) = there second t k too behind (inr (s, i, before, has))

  pub each_disk : IsOneOf size bytes
  each_disk = by_kinds (kind_of (area_at size first bytes) (bytes_at first)) (kind_of (area_at size second bytes) (bytes_at second))
