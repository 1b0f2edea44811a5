-- Records are walked through, and an area is read by its header and them.
use Rattle.std.proofs.Common.{◌≡◌, ◌⊎◌, inl, inr, ℕ, zero, suc, ℤ, ◌+◌, ◌-◌, ◌<◌, List, [], ◌∷◌, ◌++◌, length, get_or, take, drop, length-append, length-take, length-drop, take-append-drop, append_assoc, refl, sym, ◌∙◌, ap, subst, arith}
use Rattle.std.proofs.lemmas.List.{take_at, drop_more, drop-drop, get_or-drop, append-nil}
use Rattle.ob_journal_spec.specs.Spellings.{sized, header}
use Rattle.ob_journal_spec.specs.Areas.{Journaled, Records, Front, AreaRepresents, IsOpen, HasHeader, HasRecord, IsDamaged, next_gate}
use Rattle.ob_journal_spec.proofs.Reading.{headed, closes, damages, gate_is}
use Rattle.ob_journal_spec.proofs.Bytes.{records-append}
use Rattle.ob_journal_spec.proofs.Spelled.{length-sized, one_sized}
use Rattle.ob_journal.specs.Parts.{IsSized}
use Rattle.ob_journal.specs.Surveys.{IsFirst, EndsAt, IsRead, first_gate}
use Rattle.ob_journal.specs.declared.records.ReadArea.{ReadArea}

-- ---- records

-- no record stands before the first gate
pub none_yet : (bytes : List ℕ) → 0 < length bytes → EndsAt 0 bytes
none_yet bytes some = record { payloads = []; records = refl; within = some }

-- one record more
pub one_more : (bytes behind payload : List ℕ) (gate : ℕ) → EndsAt gate bytes → ¬ (get_or bytes gate 0 ≡ 0) → behind ≡ drop (gate + 1) bytes → (x : HasRecord behind) × (x.payload ≡ payload) → EndsAt (gate + (5 + length payload)) bytes
one_more bytes behind payload gate was is_open is has =
    let b = get_or bytes gate 0 in
    let r = has.0 in
    let front = take gate bytes in
    let fits : sized.fits payload = subst (λ (l : List ℕ). sized.fits l) has.1 r.fits in
    let there : drop (gate + 1) bytes ≡ sized.bytes payload ++ r.next ∷ r.more = sym is ∙ r.is ∙ ap (λ (l : List ℕ). sized.bytes l ++ r.next ∷ r.more) has.1 in
    let whole : bytes ≡ (front ++ b ∷ sized.bytes payload) ++ r.next ∷ r.more =
    sym (take-append-drop gate bytes) ∙ ap (λ (l : List ℕ). front ++ l) (drop_more bytes gate 0 was.within) ∙ ap (λ (l : List ℕ). front ++ b ∷ l) there ∙ sym (append_assoc front (b ∷ sized.bytes payload) (r.next ∷ r.more)) in
    let starts : length front ≡ gate = omega (arith, length-take gate bytes, was.within) in
    let long : length (front ++ b ∷ sized.bytes payload) ≡ gate + (5 + length payload) = omega (arith, starts, length-append front (b ∷ sized.bytes payload), length-sized payload) in
    let cut : take (gate + (5 + length payload)) bytes ≡ front ++ b ∷ sized.bytes payload = ap (take (gate + (5 + length payload))) whole ∙ take_at (front ++ b ∷ sized.bytes payload) (r.next ∷ r.more) (gate + (5 + length payload)) long in
    record {
      payloads = was.payloads ++ payload ∷ [];
      records = subst (Records (was.payloads ++ payload ∷ [])) (sym cut) (records-append was.payloads front payload b (omega (arith, is_open)) fits was.records);
      within = omega (arith, ap length whole, long, length-append (front ++ b ∷ sized.bytes payload) (r.next ∷ r.more));
    }

-- the first of some records
pub first_there : (bytes behind payload rest : List ℕ) → behind ≡ drop 1 bytes → ¬ (bytes ≡ []) → IsSized behind payload rest → (payloads : List (List ℕ)) → Records payloads bytes → IsFirst payload rest payloads
first_there bytes behind payload rest is some split [] none = absurd (some none)
first_there bytes behind payload rest is some split (p ∷ others) r =
    let there : behind ≡ sized.bytes p ++ r.1 = is ∙ ap (drop 1) r.4 in
    let both = one_sized p payload r.1 rest r.3 split.0 (sym there ∙ split.1) in
    record { others = others; is = ap (λ (l : List ℕ). l ∷ others) both.0; behind = subst (Records others) both.1 r.5 }

pub none_there : (bytes behind : List ℕ) → behind ≡ drop 1 bytes → ¬ (bytes ≡ []) → ((payload : List ℕ) (rest : List ℕ) → ¬ (IsSized behind payload rest)) → (payloads : List (List ℕ)) → Records payloads bytes → payloads ≡ []
none_there bytes behind is some none [] r = refl
none_there bytes behind is some none (p ∷ others) r = absurd (none p r.1 (r.3, is ∙ ap (drop 1) r.4))

pub no_records : (bytes : List ℕ) → bytes ≡ [] → (payloads : List (List ℕ)) → Records payloads bytes → payloads ≡ []
no_records bytes is [] r = refl
no_records bytes is (p ∷ others) r = let no : bytes ≡ r.0 ∷ (sized.bytes p ++ r.1) = r.4 in absurd (omega (arith, ap length is, ap length no))

-- what is left is shorter
pub rest_shorter : (bytes behind payload rest : List ℕ) → behind ≡ drop 1 bytes → ¬ (bytes ≡ []) → IsSized behind payload rest → length rest < length bytes
rest_shorter [] behind payload rest is some split = absurd (some refl)
rest_shorter (b ∷ bytes) behind payload rest is some split = omega (arith, ap length is, ap length split.1, length-append (sized.bytes payload) rest, length-sized payload)

-- ---- an area by its header and its records

take_none : (n : ℕ) → take {A = ℕ} n [] ≡ []
take_none zero = refl
take_none (suc n) = refl

-- a cut behind a cut
take_more_of : (n m : ℕ) (bytes : List ℕ) → take (n + m) bytes ≡ take n bytes ++ take m (drop n bytes)
take_more_of zero m bytes = let same : 0 + m ≡ m = omega arith in ap (λ (k : ℕ). take k bytes) same
take_more_of (suc n) m [] = take_none (suc n + m) ∙ sym (take_none m)
take_more_of (suc n) m (b ∷ bytes) =
    let same : suc n + m ≡ suc (n + m) = omega arith in ap (λ (k : ℕ). take k (b ∷ bytes)) same ∙ ap (λ (l : List ℕ). b ∷ l) (take_more_of n m bytes)

-- what its header and its records say
abbrev pub says : ℤ → List ℕ → List (List ℕ) → Journaled
says serial image payloads = record { serial = serial; image = image; payloads = payloads }

module _ (bytes image : List ℕ) (serial : ℤ) (has : HasHeader serial image bytes) (is_open : ¬ (get_or bytes 0 0 ≡ 0)) (behind : List ℕ) (is : behind ≡ drop (17 + length image) bytes) where
  abbrev pub start : ℕ
  start = 17 + length image

  heads : Front (says serial image []) (take start bytes) × (start < length bytes)
  heads = headed bytes serial image has is_open

  module _ (gate : ℕ) (ends : EndsAt gate behind) where
    pub within_area : start + gate < length bytes
    within_area = omega (arith, heads.1, ap length is, length-drop start bytes, ends.within)

    front : Front (says serial image ends.payloads) (take (start + gate) bytes)
    front =
        let records = take gate behind in
        let text = header.bytes (serial, image) in
        let none : heads.0.records ≡ [] = heads.0.payloads in
        let same : take (start + gate) bytes ≡ heads.0.gate ∷ (text ++ records) =
        take_more_of start gate bytes ∙ ap (λ (l : List ℕ). take start bytes ++ take gate l) (sym is) ∙ ap (λ (l : List ℕ). l ++ records) heads.0.is
        ∙ ap (λ (l : List ℕ). heads.0.gate ∷ ((text ++ l) ++ records)) none ∙ ap (λ (l : List ℕ). heads.0.gate ∷ (l ++ records)) (append-nil text) in
        record {
          gate = heads.0.gate;
          records = records;
          is_open = heads.0.is_open;
          is = same;
          fits = has.fits;
          from_one = has.from_one;
          payloads = ends.records;
        }

    there : get_or bytes (start + gate) 0 ≡ get_or behind gate 0
    there = sym (get_or-drop start bytes gate 0) ∙ ap (λ (l : List ℕ). get_or l gate 0) (sym is)

    pub stands_there : get_or behind gate 0 ≡ 0 → AreaRepresents (says serial image ends.payloads) bytes
    stands_there closed = closes (says serial image ends.payloads) bytes (start + gate) front within_area (there ∙ closed)

    pub gate_there : start + gate ≡ next_gate (says serial image ends.payloads)
    gate_there = gate_is (says serial image ends.payloads) bytes (start + gate) front within_area

    pub records_there : Records ends.payloads (take (start + gate - start) (drop start bytes))
    records_there =
        let same : start + gate - start ≡ gate = omega arith in
        subst (λ (l : List ℕ). Records ends.payloads (take (start + gate - start) l)) is (subst (λ (n : ℕ). Records ends.payloads (take n behind)) (sym same) ends.records)

    -- what was read
    pub read_there : (read : ReadArea) → read.serial ≡ serial → read.image.items ≡ image → read.gate ≡ start + gate → get_or behind gate 0 ≡ 0 → IsRead read bytes
    read_there read same_serial same_image same_gate closed =
        let first : first_gate read ≡ start = ap (λ (l : List ℕ). 17 + length l) same_image in
        let P : ℤ → List ℕ → Type 0 = λ z l. AreaRepresents (says z l ends.payloads) bytes in
        record {
          payloads = ends.payloads;
          stands = subst (λ (z : ℤ). P z read.image.items) (sym same_serial) (subst (λ (l : List ℕ). P serial l) (sym same_image) (stands_there closed));
          records = subst (λ (n : ℕ). Records ends.payloads (take (read.gate - n) (drop n bytes))) (sym first)
              (subst (λ (m : ℕ). Records ends.payloads (take (m - start) (drop start bytes))) (sym same_gate) records_there);
          gate = omega (arith, same_gate, gate_there, first);
          within = omega (arith, same_gate, within_area);
        }

    pub damaged_there : ¬ (get_or behind gate 0 ≡ 0) → ¬ (HasRecord (drop (gate + 1) behind)) → IsDamaged (start + gate) bytes
    damaged_there open_gate none =
        let same : drop (start + gate + 1) bytes ≡ drop (gate + 1) behind =
        let sums : start + gate + 1 ≡ start + (gate + 1) = omega arith in ap (λ (n : ℕ). drop n bytes) sums ∙ sym (drop-drop (gate + 1) start bytes) ∙ ap (drop (gate + 1)) (sym is) in
        damages (says serial image ends.payloads) bytes (start + gate) front within_area (λ closed. open_gate (sym there ∙ closed)) (subst (λ (l : List ℕ). ¬ (HasRecord l)) (sym same) none)

-- an area with a closed gate, or with no header, has no open header
pub closed_no_header : (bytes : List ℕ) → (bytes ≡ []) ⊎ (get_or bytes 0 0 ≡ 0) → ¬ (IsOpen bytes)
closed_no_header bytes (inl none) = λ is_open. omega (arith, ap length none, ap length is_open.is)
closed_no_header bytes (inr closed) = λ is_open.
    let first = ap (λ (l : List ℕ). get_or l 0 0) is_open.is in omega (arith, first, closed, is_open.is_open)
