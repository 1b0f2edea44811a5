-- A header is read part by part.
use Rattle.std.proofs.Common.{◌≡◌, ℕ, ℤ, ◌<◌, ◌≤◌, ◌^◌, List, [], ◌∷◌, ◌++◌, length, take, drop, refl, sym, ◌∙◌, ap, subst, append_assoc}
use Rattle.ob_base.specs.Bytes.{u32_bytes, i64_bytes}
use Rattle.ob_base.proofs.FieldsLemmas.{one_i64}
use Rattle.ob_journal_spec.specs.Spellings.{sized}
use Rattle.ob_journal_spec.specs.Areas.{HasHeader, HasRecord}
use Rattle.ob_journal_spec.proofs.Reading.{whole_sized}
use Rattle.ob_journal_spec.specs.Heads.{BeginsHeader}
use Rattle.ob_journal.specs.Heads.{IsHead}
use Rattle.ob_journal.specs.Parts.{IsSized, IsSerial, BeginsSerial}

-- ---- bytes with their number

pub sized_there : (bytes left rest more : List ℕ) (n : ℕ) → n < 2 ^ 32 → bytes ≡ u32_bytes n ++ left → rest ≡ drop 4 bytes → n ≤ length rest → more ≡ drop n rest → IsSized bytes (take n rest) more
sized_there bytes left rest more n small is behind within ends =
    let same : rest ≡ left = behind ∙ ap (drop 4) is in
    let whole = whole_sized bytes rest n small (is ∙ ap (λ (l : List ℕ). u32_bytes n ++ l) (sym same)) within in
    (whole.0, whole.1 ∙ ap (λ (l : List ℕ). sized.bytes (take n rest) ++ l) (sym ends))

-- ---- a header

module _ (bytes rest : List ℕ) (gate : ℕ) (is : bytes ≡ gate ∷ 79 ∷ 66 ∷ 83 ∷ 65 ∷ rest) where
  -- what follows the letters of a header
  behind_letters : (s : ℤ) (i : List ℕ) → (has : HasHeader s i bytes) → rest ≡ i64_bytes s ++ (sized.bytes i ++ has.next ∷ has.behind)
  behind_letters s i has =
      let same : rest ≡ (i64_bytes s ++ sized.bytes i) ++ has.next ∷ has.behind = ap (λ (l : List ℕ). drop 5 l) (sym is ∙ has.is) in
      same ∙ append_assoc (i64_bytes s) (sized.bytes i) (has.next ∷ has.behind)

  pub no_serial : ¬ (BeginsSerial rest) → (s : ℤ) (i : List ℕ) → ¬ (HasHeader s i bytes)
  no_serial none s i = λ has. none (s, sized.bytes i ++ has.next ∷ has.behind, record { fits = has.fits.1.0; from_one = has.from_one; is = behind_letters s i has })

  module _ (z : ℤ) (more : List ℕ) (number : IsSerial rest z more) where
    pub no_image : ¬ (HasRecord more) → (s : ℤ) (i : List ℕ) → ¬ (HasHeader s i bytes)
    no_image none s i = λ has.
        let both = one_i64 s z (sized.bytes i ++ has.next ∷ has.behind) more has.fits.1.0 number.fits (sym (behind_letters s i has) ∙ number.is) in
        none (record { payload = i; next = has.next; more = has.behind; fits = has.fits.1.1; is = sym both.1 })

    pub header_there : (image : List ℕ) (r : HasRecord more) → r.payload ≡ image → HasHeader z image bytes
    header_there image r same =
        let text : more ≡ sized.bytes image ++ r.next ∷ r.more = r.is ∙ ap (λ (l : List ℕ). sized.bytes l ++ r.next ∷ r.more) same in
        record {
          gate = gate;
          next = r.next;
          behind = r.more;
          is = is ∙ ap (λ (l : List ℕ). gate ∷ 79 ∷ 66 ∷ 83 ∷ 65 ∷ l) (number.is ∙ ap (λ (l : List ℕ). i64_bytes z ++ l) text ∙ sym (append_assoc (i64_bytes z) (sized.bytes image) (r.next ∷ r.more)));
          fits = (tt, (number.fits, subst (λ (l : List ℕ). sized.fits l) same r.fits));
          from_one = number.from_one;
        }

-- ---- the numbers of a header

module _ (bytes rest : List ℕ) (gate : ℕ) (is : bytes ≡ gate ∷ 79 ∷ 66 ∷ 83 ∷ 65 ∷ rest) where
  behind_head : (s : ℤ) (n : ℕ) → BeginsHeader s n bytes → rest ≡ i64_bytes s ++ u32_bytes n
  behind_head s n begins = ap (λ (l : List ℕ). drop 5 l) (sym is ∙ begins.is)

  pub no_head_serial : ¬ (BeginsSerial rest) → ¬ (IsHead bytes)
  no_head_serial none = λ h. none (h.0, u32_bytes h.1, record { fits = h.2.fits; from_one = h.2.from_one; is = behind_head h.0 h.1 h.2 })

-- ---- a record

pub record_there : (bytes payload rest : List ℕ) → IsSized bytes payload rest → ¬ (rest ≡ []) → (r : HasRecord bytes) × (r.payload ≡ payload)
record_there bytes payload [] is some = absurd (some refl)
record_there bytes payload (g ∷ gs) is some = (record { payload = payload; next = g; more = gs; fits = is.0; is = is.1 }, refl)
