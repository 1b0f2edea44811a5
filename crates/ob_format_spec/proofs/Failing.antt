-- What the reader of a lawful format says of whole bytes.
use Rattle.std.proofs.Common.{ℕ, zero, suc, ◌≡◌, ◌+◌, ◌-◌, ◌<◌, List, [], ◌∷◌, ◌++◌, length, take, drop, length-append, take-append-drop, get_or, refl, sym, ap, subst, ◌∙◌, inl, inr, append_assoc, append-nil, true, false, ◌==◌, arith}
use Rattle.std.proofs.Math.Seq.{take-append_seam, take-append-add}
use Rattle.std.proofs.lemmas.Bool.{cases_lt, eqb-true}
use Rattle.std.proofs.Math.Seq.{take-take}
use Rattle.ob_format_spec.specs.Formats.{done, stop, Format, Spells, Begins, FailsAt}
use Rattle.ob_format_spec.specs.Lawful.{AreBytes, first, Lawful}
use Rattle.ob_format_spec.proofs.CombinatorLaws.{done_parts}

-- no value's bytes go on with the first of the rest, or end where there is none
abbrev pub NoneGoesOn : {A : Type 0} → Format A → List ℕ → List ℕ → Type 0
NoneGoesOn {A} f front [] = (value : A) → ¬ (Spells f value front)
NoneGoesOn f front (b ∷ back) = ¬ (Begins f (front ++ b ∷ []))

module _ {A : Type 0} (f : Format A) where
  shorter : (front back : List ℕ) → Begins f (front ++ back) → Begins f front
  shorter front back b = record {
    value = b.value;
    others = back ++ b.others;
    spelled = record { fits = b.spelled.fits; is = sym (append_assoc front back b.others) ∙ b.spelled.is };
  }

  fails_from : (front rest : List ℕ) → Begins f front → NoneGoesOn f front rest → FailsAt f (front ++ rest) (length front)
  fails_from front [] begins none = record {
    within = omega (arith, length-append front (zero ∷ []), length-append {A = ℕ} front []);
    before = subst (Begins f) (sym (take-append_seam front [])) begins;
    at_byte = λ less. absurd (omega (arith, less, length-append {A = ℕ} front []));
    at_end = λ same value spelled. none value (record { fits = spelled.fits; is = sym (append-nil front) ∙ spelled.is });
  }
  fails_from front (b ∷ back) begins none = record {
    within = omega (arith, length-append front (b ∷ back));
    before = subst (Begins f) (sym (take-append_seam front (b ∷ back))) begins;
    at_byte = λ less more. none (subst (Begins f) (take-append-add front (b ∷ back) 1) more);
    at_end = λ same. absurd (omega (arith, same, length-append front (b ∷ back)));
  }

  fails_at : (bytes front rest : List ℕ) → bytes ≡ front ++ rest → Begins f front → NoneGoesOn f front rest → FailsAt f bytes (length bytes - length rest)
  fails_at bytes front rest parts begins none =
      let place : length front ≡ length bytes - length rest = omega (arith, ap length parts, length-append front rest) in
      subst (λ k. FailsAt f bytes k) place (subst (λ l. FailsAt f l (length front)) (sym parts) (fails_from front rest begins none))

  module _ (a : Lawful f) where
    pub whole : (bytes : List ℕ) → AreBytes bytes → (x : A) → f.read bytes ≡ done x [] → Spells f x bytes
    whole bytes all x e = let s = a.sound bytes all x [] e in record { fits = s.0; is = s.1 ∙ append-nil (f.bytes x) }

    pub reads : (x : A) (bytes : List ℕ) → Spells f x bytes → f.read bytes ≡ done x []
    reads x bytes s = ap f.read (s.is ∙ sym (append-nil (f.bytes x))) ∙ a.full x s.fits []

    done_goes_on : (x : A) → f.fits x → (rest : List ℕ) → ¬ (rest ≡ []) → NoneGoesOn f (f.bytes x) rest
    done_goes_on x fits [] other = absurd (other refl)
    done_goes_on x fits (b ∷ back) other = λ more.
        let one = a.full x fits (b ∷ more.others) in
        let two = reads more.value ((f.bytes x ++ b ∷ []) ++ more.others) more.spelled in
        let nil = done_parts x more.value (b ∷ more.others) [] (sym one ∙ ap f.read (sym (append_assoc (f.bytes x) (b ∷ []) more.others)) ∙ two) in
        let e : b ∷ more.others ≡ [] = nil.1 in
        absurd cc

    -- bytes after a value
    pub fails_after : (bytes : List ℕ) → AreBytes bytes → (x : A) (rest : List ℕ) → ¬ (rest ≡ []) → f.read bytes ≡ done x rest → FailsAt f bytes (length bytes - length rest)
    fails_after bytes all x rest other e =
        let s = a.sound bytes all x rest e in
        fails_at bytes (f.bytes x) rest s.1 record { value = x; others = []; spelled = record { fits = s.0; is = append-nil (f.bytes x) } } (done_goes_on x s.0 rest other)

    stop_goes_on : (front rest : List ℕ) → ((new : List ℕ) → first new ≡ first rest → f.read (front ++ new) ≡ stop (length new)) → NoneGoesOn f front rest
    stop_goes_on front [] local = λ value spelled.
        let one = local [] refl in
        let two = reads value front spelled in
        let e : stop 0 ≡ done value [] = sym one ∙ ap f.read (append-nil front) ∙ two in
        absurd cc
    stop_goes_on front (b ∷ back) local = λ more.
        let one = local (b ∷ more.others) refl in
        let two = reads more.value ((front ++ b ∷ []) ++ more.others) more.spelled in
        let e : stop (length (b ∷ more.others)) ≡ done more.value [] = sym one ∙ ap f.read (sym (append_assoc front (b ∷ []) more.others)) ∙ two in
        absurd cc

    -- bytes with which reading stops
    pub fails_stop : (bytes : List ℕ) → AreBytes bytes → (left : ℕ) → f.read bytes ≡ stop left → FailsAt f bytes (length bytes - left)
    fails_stop bytes all left e =
        let s = a.stopped bytes all left e in
        let begins : Begins f s.front = record { value = s.value; others = s.others; spelled = record { fits = s.fits; is = sym s.spelled } } in
        subst (λ k. FailsAt f bytes (length bytes - k)) s.left_is (fails_at bytes s.front s.rest s.parts begins (stop_goes_on s.front s.rest s.local))

    -- ---- no two answers

    pub one_value : (bytes : List ℕ) (x y : A) → Spells f x bytes → Spells f y bytes → x ≡ y
    one_value bytes x y p q = (done_parts x y [] [] (sym (reads x bytes p) ∙ reads y bytes q)).0

  pub not_spelled : (bytes : List ℕ) (k : ℕ) (x : A) → FailsAt f bytes k → ¬ (Spells f x bytes)
  not_spelled bytes k x p q = elim (cases_lt k (length bytes)) [
    | inl less ↦ p.at_byte less record {
      value = x;
      others = drop (k + 1) bytes;
      spelled = record { fits = q.fits; is = take-append-drop (k + 1) bytes ∙ q.is };
    }
    | inr more ↦ let within = p.within in p.at_end (omega (arith, more, within)) x q
  ]

  not_below : (bytes : List ℕ) (j k : ℕ) → FailsAt f bytes j → FailsAt f bytes k → ¬ (j < k)
  not_below bytes j k p q less =
      let within = q.within in
      let parts : take k bytes ≡ take (j + 1) bytes ++ drop (j + 1) (take k bytes) =
      sym (take-append-drop (j + 1) (take k bytes)) ∙ ap (λ l. l ++ drop (j + 1) (take k bytes)) (take-take (j + 1) k bytes (omega (arith, less))) in
      p.at_byte (omega (arith, less, within)) (shorter (take (j + 1) bytes) (drop (j + 1) (take k bytes)) (subst (Begins f) parts q.before))

  pub one_offset : (bytes : List ℕ) (j k : ℕ) → FailsAt f bytes j → FailsAt f bytes k → j ≡ k
  one_offset bytes j k p q = let a = not_below bytes j k p q in let b = not_below bytes k j q p in omega (arith, a, b)

pub are_bytes : (bytes : List ℕ) → ((i : ℕ) → get_or bytes i 0 < 256) → AreBytes bytes
are_bytes [] small = tt
are_bytes (b ∷ bs) small = (small 0, are_bytes bs (λ i. small (suc i)))

-- ---- whether bytes are left

pub nothing_left : (rest : List ℕ) → (length rest == 0) ≡ true → rest ≡ []
nothing_left [] e = refl
nothing_left (b ∷ bs) e = absurd (omega (arith, eqb-true (length (b ∷ bs)) 0 e))

pub something_left : (rest : List ℕ) → (length rest == 0) ≡ false → ¬ (rest ≡ [])
something_left [] e = λ is. absurd cc
something_left (b ∷ bs) e = λ is. absurd cc
