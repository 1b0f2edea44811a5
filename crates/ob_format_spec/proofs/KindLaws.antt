-- The formats of fixed bytes and of kinds of values are lawful.
use Rattle.std.proofs.Common.{◌+◌, ℕ, zero, suc, ◌≡◌, ◌<◌, nat_lt, true, false, Option, Some, None, unwrap_or, ◌==◌, List, [], ◌∷◌, ◌++◌, length, refl, sym, ap, subst, ◌∙◌, append-nil, inl, inr, arith}
use Rattle.std.proofs.lemmas.Bool.{cases_Bool, ltb-true, lt-ltb, eqb-true, eq-eqb}
use Rattle.ob_format_spec.specs.Formats.{Parsed, done, stop, ◌>>=◌, Format}
use Rattle.ob_format_spec.specs.Combinators.{byte, read_byte, constant, ◌⨟◌, literal, read_literal, variant, parts_fit, parts_bytes, kind_fits, read_kind, by_kind, nth, by_kinds}
use Rattle.ob_format_spec.specs.Lawful.{AreBytes, first, Stopped, Lawful}
use Rattle.ob_format_spec.proofs.CombinatorLaws.{first_none, stop_parts, byte_lawful, both_lawful, SameSpelling, same_lawful, constant_lawful}

-- ---- by kinds

kind_passes : {A : Type 0} (many : ℕ) (of : ℕ → Format A) (b : ℕ) (bs : List ℕ) → nat_lt b many ≡ true → read_kind many of (b ∷ bs) ≡ (of b).read bs
kind_passes many of b bs e = rw e refl

kind_refused : {A : Type 0} (many : ℕ) (of : ℕ → Format A) (b : ℕ) (bs : List ℕ) → nat_lt b many ≡ false → read_kind many of (b ∷ bs) ≡ stop (length (b ∷ bs))
kind_refused many of b bs e = rw e refl

module _ {A : Type 0} (many : ℕ) (kind : A → ℕ) (of : ℕ → Format A) (laws : (t : ℕ) → t < many → Lawful (of t)) (is : (t : ℕ) → t < many → (x : A) → (of t).fits x → kind x ≡ t) (one : 0 < many) where
  -- a value of this kind, where its kind is written in
  abbrev IsOf : A → List ℕ → List ℕ → ℕ → Type 0
  IsOf x bytes after t = ((t < many) × (of t).fits x) × (bytes ≡ (t ∷ (of t).bytes x) ++ after)

  is_of : (x : A) (bytes after : List ℕ) (t : ℕ) → t < many → (of t).fits x → bytes ≡ (t ∷ (of t).bytes x) ++ after → IsOf x bytes after (kind x)
  is_of x bytes after t lt fits e = subst (IsOf x bytes after) (sym (is t lt x fits)) ((lt, fits), e)

  kind_sound : (bytes : List ℕ) → AreBytes bytes → (x : A) (rest : List ℕ) → read_kind many of bytes ≡ done x rest → IsOf x bytes rest (kind x)
  kind_sound [] all x rest e = absurd cc
  kind_sound (b ∷ bs) all x rest e = elim (cases_Bool (nat_lt b many)) [
    | inl passes ↦
        let lt = ltb-true b many passes in
        let s = (laws b lt).sound bs all.1 x rest (sym (kind_passes many of b bs passes) ∙ e) in
        is_of x (b ∷ bs) rest b lt s.0 (ap (λ l. b ∷ l) s.1)
    | inr refused ↦ let e' = sym (kind_refused many of b bs refused) ∙ e in absurd cc
  ]

  kind_full : (x : A) → kind_fits many kind of x → (rest : List ℕ) → read_kind many of ((kind x ∷ (of (kind x)).bytes x) ++ rest) ≡ done x rest
  kind_full x fits rest = kind_passes many of (kind x) ((of (kind x)).bytes x ++ rest) (lt-ltb (kind x) many fits.0) ∙ (laws (kind x) fits.0).full x fits.1 rest

  kind_some : A
  kind_some = (laws 0 one).some

  kind_some_is : IsOf kind_some (0 ∷ (of 0).bytes kind_some) [] (kind kind_some)
  unfolding kind_some
  kind_some_is = is_of kind_some (0 ∷ (of 0).bytes kind_some) [] 0 one (laws 0 one).some_fits (sym (append-nil (0 ∷ (of 0).bytes kind_some)))

  at_once : (bytes : List ℕ) (left : ℕ) → length bytes ≡ left → ((new : List ℕ) → first new ≡ first bytes → read_kind many of new ≡ stop (length new)) → Stopped (by_kind many kind of) bytes left
  at_once bytes left all local = record {
    front = [];
    rest = bytes;
    parts = refl;
    left_is = all;
    value = kind_some;
    fits = kind_some_is.0;
    others = kind kind_some ∷ (of (kind kind_some)).bytes kind_some;
    spelled = refl;
    local = local;
  }

  kind_local : (b : ℕ) (bs : List ℕ) → nat_lt b many ≡ false → (new : List ℕ) → first new ≡ Some b → read_kind many of new ≡ stop (length new)
  kind_local b bs refused [] same = absurd cc
  kind_local b bs refused (n ∷ ns) same = let eq : n ≡ b = cc in kind_refused many of n ns (ap (λ m. nat_lt m many) eq ∙ refused)

  kind_inside : (b : ℕ) (bs : List ℕ) (left : ℕ) → b < many → Stopped (of b) bs left → Stopped (by_kind many kind of) (b ∷ bs) left
  kind_inside b bs left lt s =
      let v = is_of s.value (b ∷ (s.front ++ s.others)) [] b lt s.fits (ap (λ l. b ∷ l) (sym s.spelled) ∙ sym (append-nil (b ∷ (of b).bytes s.value))) in
      record {
        front = b ∷ s.front;
        rest = s.rest;
        parts = ap (λ l. b ∷ l) s.parts;
        left_is = s.left_is;
        value = s.value;
        fits = v.0;
        others = s.others;
        spelled = sym (v.1 ∙ append-nil (kind s.value ∷ (of (kind s.value)).bytes s.value));
        local = λ new e. kind_passes many of b (s.front ++ new) (lt-ltb b many lt) ∙ s.local new e;
      }

  kind_stopped : (bytes : List ℕ) → AreBytes bytes → (left : ℕ) → read_kind many of bytes ≡ stop left → Stopped (by_kind many kind of) bytes left
  kind_stopped [] all left e =
      at_once [] left (stop_parts (read_kind many of []) 0 left refl e) (λ new same. let nil : new ≡ [] = first_none new same in ap (read_kind many of) nil ∙ ap (λ l. stop (length l)) (sym nil))
  kind_stopped (b ∷ bs) all left e = elim (cases_Bool (nat_lt b many)) [
    | inl passes ↦
        let lt = ltb-true b many passes in
        kind_inside b bs left lt ((laws b lt).stopped bs all.1 left (sym (kind_passes many of b bs passes) ∙ e))
    | inr refused ↦ at_once (b ∷ bs) left (stop_parts (read_kind many of (b ∷ bs)) (length (b ∷ bs)) left (kind_refused many of b bs refused) e) (kind_local b bs refused)
  ]

  pub kind_lawful : Lawful (by_kind many kind of)
  kind_lawful = record {
    sound = kind_sound;
    full = kind_full;
    stopped = kind_stopped;
    some = kind_some;
    some_fits = kind_some_is.0;
  }

-- ---- these bytes

abbrev with_byte : ℕ → Unit {0} → ℕ × Unit {0}
with_byte b u = (b, u)

literal_same : (b : ℕ) (bs : List ℕ) → SameSpelling (literal (b ∷ bs)) (byte (λ c. c == b) ⨟ literal bs) (λ pair. tt) (λ u. (b, tt))
literal_same b bs = record {
  reads = λ bytes. literal_reads b bs (read_byte (λ c. c == b) bytes);
  bytes = λ u fits. refl;
  to = λ u fits. (eq-eqb b b refl, tt);
  from = λ pair fits. tt;
  again = λ u fits. refl;
  back = λ pair fits. (λ i. (sym (eqb-true pair.0 b fits.0) i, tt));
}
  where
    unit_read : (b : ℕ) (r : Parsed (Unit {0})) → r ≡ ((r >>= (λ u rest. done (with_byte b u) rest)) >>= (λ pair rest. done tt rest))
    unit_read b (done u rest) = refl
    unit_read b (stop left) = refl

    literal_reads : (b : ℕ) (bs : List ℕ) (r : Parsed ℕ) → (r >>= (λ c rest. read_literal bs rest)) ≡ ((r >>= (λ c mid. read_literal bs mid >>= (λ u rest. done (with_byte c u) rest))) >>= (λ pair rest. done tt rest))
    literal_reads b bs (done c rest) = unit_read c (read_literal bs rest)
    literal_reads b bs (stop left) = refl

pub literal_lawful : (bs : List ℕ) → Lawful (literal bs)
literal_lawful [] = same_lawful (literal []) (constant tt) (λ u. u) (λ u. u) record {
  reads = λ bytes. refl;
  bytes = λ u fits. refl;
  to = λ u fits. refl;
  from = λ u fits. tt;
  again = λ u fits. refl;
  back = λ u fits. refl;
} (constant_lawful tt)
literal_lawful (b ∷ bs) =
    same_lawful (literal (b ∷ bs)) (byte (λ c. c == b) ⨟ literal bs) (λ pair. tt) (λ u. (b, tt)) (literal_same b bs)
    (both_lawful (byte (λ c. c == b)) (literal bs) (byte_lawful (λ c. c == b) b (eq-eqb b b refl)) (literal_lawful bs))

-- ---- one kind of value

module _ {A P : Type 0} (whole : P → A) (parts : A → Option P) (f : Format P) (again : (x : A) (p : P) → parts x ≡ Some p → whole p ≡ x) (back : (p : P) → parts (whole p) ≡ Some p) (a : Lawful f) where
  bytes_at : (o : Option P) → parts_fit f.fits o → parts_bytes f.bytes o ≡ f.bytes (unwrap_or o a.some)
  bytes_at None fits = absurd fits
  bytes_at (Some p) fits = refl

  fits_at : (o : Option P) → parts_fit f.fits o → f.fits (unwrap_or o a.some)
  fits_at None fits = absurd fits
  fits_at (Some p) fits = fits

  again_at : (x : A) (o : Option P) → parts x ≡ o → parts_fit f.fits o → whole (unwrap_or o a.some) ≡ x
  again_at x None e fits = absurd fits
  again_at x (Some p) e fits = again x p e

  pub variant_lawful : Lawful (variant whole parts f)
  variant_lawful = same_lawful (variant whole parts f) f whole (λ x. unwrap_or (parts x) a.some) record {
    reads = λ bytes. refl;
    bytes = λ x fits. bytes_at (parts x) fits;
    to = λ x fits. fits_at (parts x) fits;
    from = λ p fits. subst (parts_fit f.fits) (sym (back p)) fits;
    again = λ x fits. again_at x (parts x) refl fits;
    back = λ p fits. ap (λ o. unwrap_or o a.some) (back p);
  } a

  kind_at : (kind : A → ℕ) (n : ℕ) → ((p : P) → kind (whole p) ≡ n) → (x : A) (o : Option P) → parts x ≡ o → parts_fit f.fits o → kind x ≡ n
  kind_at kind n is x None e fits = absurd fits
  kind_at kind n is x (Some p) e fits = ap kind (sym (again x p e)) ∙ is p

  -- a value of this variant is of its kind
  pub variant_kind : (kind : A → ℕ) (n : ℕ) → ((p : P) → kind (whole p) ≡ n) → (x : A) → (variant whole parts f).fits x → kind x ≡ n
  variant_kind kind n is x fits = kind_at kind n is x (parts x) refl fits

-- ---- by a list of kinds

-- each is lawful, and has values of its own kind alone
abbrev pub AllOf : {A : Type 0} → (A → ℕ) → ℕ → List (Format A) → Type 0
AllOf kind n [] = Unit {0}
AllOf {A} kind n (f ∷ fs) = Lawful f × ((x : A) → f.fits x → kind x ≡ n) × AllOf kind (suc n) fs

nth_lawful : {A : Type 0} (kind : A → ℕ) (n : ℕ) (fs : List (Format A)) → AllOf kind n fs → (t : ℕ) → t < length fs → Lawful (nth fs t)
nth_lawful kind n [] all t less = absurd (omega (arith, less))
nth_lawful kind n (f ∷ fs) all zero less = all.0
nth_lawful kind n (f ∷ fs) all (suc t) less = nth_lawful kind (suc n) fs all.2 t (omega (arith, less))

nth_kind : {A : Type 0} (kind : A → ℕ) (n : ℕ) (fs : List (Format A)) → AllOf kind n fs → (t : ℕ) → t < length fs → (x : A) → (nth fs t).fits x → kind x ≡ n + t
nth_kind kind n [] all t less x fits = absurd fits
nth_kind kind n (f ∷ fs) all zero less x fits = omega (arith, all.1 x fits)
nth_kind kind n (f ∷ fs) all (suc t) less x fits = omega (arith, nth_kind kind (suc n) fs all.2 t (omega (arith, less)) x fits)

pub kinds_lawful : {A : Type 0} (kind : A → ℕ) (fs : List (Format A)) → AllOf kind 0 fs → 0 < length fs → Lawful (by_kinds kind fs)
kinds_lawful kind fs all one = kind_lawful (length fs) kind (nth fs) (nth_lawful kind 0 fs all) (λ t less x fits. omega (arith, nth_kind kind 0 fs all t less x fits)) one
