-- What holds of each way to put formats together: where the parts are lawful, the whole is.
use Rattle.std.proofs.Common.{ℕ, zero, suc, ◌≡◌, Bool, true, false, None, List, [], ◌∷◌, ◌++◌, length, refl, sym, ap, subst, ◌∙◌, append_assoc, inl, inr, arith}
use Rattle.std.proofs.lemmas.Bool.{cases_Bool}
use Rattle.ob_format_spec.specs.Formats.{Parsed, done, stop, ◌>>=◌, Format}
use Rattle.ob_format_spec.specs.Combinators.{byte, read_byte, constant, and_then, ◌⨟◌, read_as, of_parts, Each, each_bytes, times, each, each_fit, each_spelled}
use Rattle.ob_format_spec.specs.Lawful.{AreBytes, first, Stopped, Lawful}

pub rest_bytes : (front rest : List ℕ) → AreBytes (front ++ rest) → AreBytes rest
rest_bytes [] rest all = all
rest_bytes (b ∷ bs) rest all = rest_bytes bs rest all.1

pub first_none : (new : List ℕ) → first new ≡ None → new ≡ []
first_none [] e = refl
first_none (n ∷ ns) e = absurd cc

-- ---- the cases of an answer

pub data Case {A : Type 0} (r : Parsed A) : Type 0 where
  is_done : (x : A) (rest : List ℕ) → r ≡ done x rest → Case r
  is_stop : (left : ℕ) → r ≡ stop left → Case r

pub case_of : {A : Type 0} (r : Parsed A) → Case r
case_of (done x rest) = is_done x rest refl
case_of (stop left) = is_stop left refl

pub done_parts : {A : Type 0} (x y : A) (r s : List ℕ) → done x r ≡ done y s → (x ≡ y) × (r ≡ s)
done_parts x y r s e = (cc, cc)

-- a value that comes of what was read
pub mapped_done : {A B : Type 0} (r : Parsed A) (f : A → B) (y : B) (rest : List ℕ) → (r >>= (λ x s. done (f x) s)) ≡ done y rest → (x : A) × (r ≡ done x rest) × (f x ≡ y)
mapped_done (done x s) f y rest e = let p = done_parts (f x) y s rest e in (x, ap (λ l. done x l) p.1, p.0)
mapped_done (stop k) f y rest e = absurd cc

pub mapped_stop : {A B : Type 0} (r : Parsed A) (f : A → B) (left : ℕ) → (r >>= (λ x s. done (f x) s)) ≡ stop left → r ≡ stop left
mapped_stop (done x s) f left e = absurd cc
mapped_stop (stop k) f left e = cc

pub stop_parts : {A : Type 0} (x : Parsed A) (j k : ℕ) → x ≡ stop j → x ≡ stop k → j ≡ k
stop_parts x j k e d = cc

-- ---- one byte

byte_passes : (test : ℕ → Bool) (b : ℕ) (bs : List ℕ) → test b ≡ true → read_byte test (b ∷ bs) ≡ done b bs
byte_passes test b bs e = rw e refl

byte_refused : (test : ℕ → Bool) (b : ℕ) (bs : List ℕ) → test b ≡ false → read_byte test (b ∷ bs) ≡ stop (length (b ∷ bs))
byte_refused test b bs e = rw e refl

module _ (test : ℕ → Bool) (b : ℕ) (is : test b ≡ true) where
  byte_sound : (bytes : List ℕ) (x : ℕ) (rest : List ℕ) → read_byte test bytes ≡ done x rest → (test x ≡ true) × (bytes ≡ x ∷ rest)
  byte_sound [] x rest e = absurd cc
  byte_sound (c ∷ bs) x rest e = elim (cases_Bool (test c)) [
    | inl passes ↦ let p = done_parts c x bs rest (sym (byte_passes test c bs passes) ∙ e) in (ap test (sym p.0) ∙ passes, λ i. p.0 i ∷ p.1 i)
    | inr refused ↦ let e' = sym (byte_refused test c bs refused) ∙ e in absurd cc
  ]

  byte_local : (bytes : List ℕ) → read_byte test bytes ≡ stop (length bytes) → (new : List ℕ) → first new ≡ first bytes → read_byte test new ≡ stop (length new)
  byte_local bytes e [] same = refl
  byte_local [] e (n ∷ ns) same = absurd cc
  byte_local (c ∷ bs) e (n ∷ ns) same = elim (cases_Bool (test c)) [
    | inl passes ↦ let e' = sym (byte_passes test c bs passes) ∙ e in absurd cc
    | inr refused ↦ let eq : n ≡ c = cc in byte_refused test n ns (ap test eq ∙ refused)
  ]

  byte_stops : (bytes : List ℕ) (left : ℕ) → read_byte test bytes ≡ stop left → length bytes ≡ left
  byte_stops [] left e = cc
  byte_stops (c ∷ bs) left e = elim (cases_Bool (test c)) [
    | inl passes ↦ let e' = sym (byte_passes test c bs passes) ∙ e in absurd cc
    | inr refused ↦ stop_parts (read_byte test (c ∷ bs)) (length (c ∷ bs)) left (byte_refused test c bs refused) e
  ]

  byte_stopped : (bytes : List ℕ) (left : ℕ) → read_byte test bytes ≡ stop left → length bytes ≡ left → Stopped (byte test) bytes left
  byte_stopped bytes left e all = record {
    front = [];
    rest = bytes;
    parts = refl;
    left_is = all;
    value = b;
    fits = is;
    others = b ∷ [];
    spelled = refl;
    local = byte_local bytes (e ∙ ap (λ k. stop k) (sym all));
  }

  pub byte_lawful : Lawful (byte test)
  byte_lawful = record {
    sound = λ bytes all x rest e. byte_sound bytes x rest e;
    full = λ x fits rest. byte_passes test x rest fits;
    stopped = λ bytes all left e. byte_stopped bytes left e (byte_stops bytes left e);
    some = b;
    some_fits = is;
  }

-- ---- one format after another

module _ {A B : Type 0} (f : Format A) (g : A → Format B) (a : Lawful f) (b : (x : A) → f.fits x → Lawful (g x)) where
  then_sound_at : (bytes : List ℕ) (x : A) (mid : List ℕ) (pair : A × B) (rest : List ℕ) → AreBytes bytes → f.fits x × (bytes ≡ f.bytes x ++ mid) →
      ((g x).read mid >>= (λ y rest. done (x, y) rest)) ≡ done pair rest → (and_then f g).fits pair × (bytes ≡ (and_then f g).bytes pair ++ rest)
  then_sound_at bytes x mid pair rest all s e =
      let m = mapped_done ((g x).read mid) (λ y. (x, y)) pair rest e in
      let t = (b x s.0).sound mid (rest_bytes (f.bytes x) mid (subst AreBytes s.1 all)) m.0 rest m.1 in
      rw (← m.2) ((s.0, t.0), s.1 ∙ ap (λ l. f.bytes x ++ l) t.1 ∙ sym (append_assoc (f.bytes x) ((g x).bytes m.0) rest))

  then_sound : (bytes : List ℕ) → AreBytes bytes → (pair : A × B) (rest : List ℕ) → Case (f.read bytes) → (and_then f g).read bytes ≡ done pair rest → (and_then f g).fits pair × (bytes ≡ (and_then f g).bytes pair ++ rest)
  then_sound bytes all pair rest (is_done x mid is) e = then_sound_at bytes x mid pair rest all (a.sound bytes all x mid is) (rw is at e)
  then_sound bytes all pair rest (is_stop left is) e = let e' : stop left ≡ done pair rest = rw is at e in absurd cc

  then_full : (x : A) (y : B) → f.fits x → (g x).fits y → (rest : List ℕ) → (and_then f g).read ((f.bytes x ++ (g x).bytes y) ++ rest) ≡ done (x, y) rest
  then_full x y p q rest =
      ap (and_then f g).read (append_assoc (f.bytes x) ((g x).bytes y) rest) ∙ rw (a.full x p ((g x).bytes y ++ rest), (b x p).full y q rest) refl

  then_stopped_first : (bytes : List ℕ) (left : ℕ) → (s : Stopped f bytes left) → Stopped (and_then f g) bytes left
  then_stopped_first bytes left s =
      let y = (b s.value s.fits).some in
      record {
        front = s.front;
        rest = s.rest;
        parts = s.parts;
        left_is = s.left_is;
        value = (s.value, y);
        fits = (s.fits, (b s.value s.fits).some_fits);
        others = s.others ++ (g s.value).bytes y;
        spelled = ap (λ l. l ++ (g s.value).bytes y) s.spelled ∙ append_assoc s.front s.others ((g s.value).bytes y);
        local = λ new e. ap (λ r. r >>= (λ x mid. (g x).read mid >>= (λ y rest. done (x, y) rest))) (s.local new e);
      }

  then_stopped_second : (bytes : List ℕ) (x : A) (mid : List ℕ) (left : ℕ) → (s : f.fits x × (bytes ≡ f.bytes x ++ mid)) → (t : Stopped (g x) mid left) → Stopped (and_then f g) bytes left
  then_stopped_second bytes x mid left s t = record {
    front = f.bytes x ++ t.front;
    rest = t.rest;
    parts = s.1 ∙ ap (λ l. f.bytes x ++ l) t.parts ∙ sym (append_assoc (f.bytes x) t.front t.rest);
    left_is = t.left_is;
    value = (x, t.value);
    fits = (s.0, t.fits);
    others = t.others;
    spelled = ap (λ l. f.bytes x ++ l) t.spelled ∙ sym (append_assoc (f.bytes x) t.front t.others);
    local = λ new e. ap (and_then f g).read (append_assoc (f.bytes x) t.front new) ∙ rw (a.full x s.0 (t.front ++ new), t.local new e) refl;
  }

  then_stopped : (bytes : List ℕ) → AreBytes bytes → (left : ℕ) → Case (f.read bytes) → (and_then f g).read bytes ≡ stop left → Stopped (and_then f g) bytes left
  then_stopped bytes all left (is_done x mid is) e =
      let s = a.sound bytes all x mid is in
      then_stopped_second bytes x mid left s ((b x s.0).stopped mid (rest_bytes (f.bytes x) mid (subst AreBytes s.1 all)) left (mapped_stop ((g x).read mid) (λ y. (x, y)) left (rw is at e)))
  then_stopped bytes all left (is_stop k is) e =
      then_stopped_first bytes left (a.stopped bytes all left (is ∙ ap (λ r. stop r) (stop_parts ((and_then f g).read bytes) k left (rw is refl) e)))

  pub and_then_lawful : Lawful (and_then f g)
  and_then_lawful = record {
    sound = λ bytes all pair rest e. then_sound bytes all pair rest (case_of (f.read bytes)) e;
    full = λ pair fits rest. then_full pair.0 pair.1 fits.0 fits.1 rest;
    stopped = λ bytes all left e. then_stopped bytes all left (case_of (f.read bytes)) e;
    some = (a.some, (b a.some a.some_fits).some);
    some_fits = (a.some_fits, (b a.some a.some_fits).some_fits);
  }

pub both_lawful : {A B : Type 0} (f : Format A) (g : Format B) → Lawful f → Lawful g → Lawful (f ⨟ g)
both_lawful f g a b = and_then_lawful f (λ x. g) a (λ x fits. b)

-- ---- a value by its parts

-- Two formats spell the same bytes, each value of one for a value of the other.
pub record SameSpelling {A P : Type 0} (f : Format A) (g : Format P) (whole : P → A) (parts : A → P) : Type 0 where
  pub reads : (bytes : List ℕ) → f.read bytes ≡ read_as whole g.read bytes
  pub bytes : (x : A) → f.fits x → f.bytes x ≡ g.bytes (parts x)
  pub to : (x : A) → f.fits x → g.fits (parts x)
  pub from : (p : P) → g.fits p → f.fits (whole p)
  pub again : (x : A) → f.fits x → whole (parts x) ≡ x
  pub back : (p : P) → g.fits p → parts (whole p) ≡ p

module _ {A P : Type 0} (f : Format A) (g : Format P) (whole : P → A) (parts : A → P) (m : SameSpelling f g whole parts) (a : Lawful g) where
  same_bytes : (p : P) → g.fits p → f.bytes (whole p) ≡ g.bytes p
  same_bytes p fits = m.bytes (whole p) (m.from p fits) ∙ ap g.bytes (m.back p fits)

  parts_sound : (bytes : List ℕ) → AreBytes bytes → (x : A) (rest : List ℕ) → f.read bytes ≡ done x rest → f.fits x × (bytes ≡ f.bytes x ++ rest)
  parts_sound bytes all x rest e =
      let d = mapped_done (g.read bytes) whole x rest (sym (m.reads bytes) ∙ e) in
      let s = a.sound bytes all d.0 rest d.1 in
      (subst f.fits d.2 (m.from d.0 s.0), s.1 ∙ ap (λ l. l ++ rest) (sym (same_bytes d.0 s.0) ∙ ap f.bytes d.2))

  parts_full : (x : A) → f.fits x → (rest : List ℕ) → f.read (f.bytes x ++ rest) ≡ done x rest
  parts_full x fits rest =
      ap (λ l. f.read (l ++ rest)) (m.bytes x fits) ∙ m.reads (g.bytes (parts x) ++ rest)
      ∙ ap (λ r. r >>= (λ p rest. done (whole p) rest)) (a.full (parts x) (m.to x fits) rest) ∙ ap (λ y. done y rest) (m.again x fits)

  parts_stopped : (bytes : List ℕ) (left : ℕ) → Stopped g bytes left → Stopped f bytes left
  parts_stopped bytes left s = record {
    front = s.front;
    rest = s.rest;
    parts = s.parts;
    left_is = s.left_is;
    value = whole s.value;
    fits = m.from s.value s.fits;
    others = s.others;
    spelled = same_bytes s.value s.fits ∙ s.spelled;
    local = λ new e. m.reads (s.front ++ new) ∙ ap (λ r. r >>= (λ p rest. done (whole p) rest)) (s.local new e);
  }

  pub same_lawful : Lawful f
  same_lawful = record {
    sound = parts_sound;
    full = parts_full;
    stopped = λ bytes all left e. parts_stopped bytes left (a.stopped bytes all left (mapped_stop (g.read bytes) whole left (sym (m.reads bytes) ∙ e)));
    some = whole a.some;
    some_fits = m.from a.some a.some_fits;
  }

-- a value by its parts, and has no others
pub of_parts_lawful : {A P : Type 0} (whole : P → A) (parts : A → P) (f : Format P) → ((x : A) → whole (parts x) ≡ x) → ((p : P) → f.fits p → parts (whole p) ≡ p) → Lawful f → Lawful (of_parts whole parts f)
of_parts_lawful whole parts f again back a =
    same_lawful (of_parts whole parts f) f whole parts record {
      reads = λ bytes. refl;
      bytes = λ x fits. refl;
      to = λ x fits. fits;
      from = λ p fits. subst f.fits (sym (back p fits)) fits;
      again = λ x fits. again x;
      back = back;
    } a

-- ---- nothing, and so many of a format

pub constant_lawful : {A : Type 0} (x : A) → Lawful (constant x)
constant_lawful x = record {
  sound = λ bytes all y rest e. let p = done_parts x y bytes rest e in (sym p.0, p.1);
  full = λ y fits rest. ap (λ z. done z rest) (sym fits);
  stopped = λ bytes all left e. absurd cc;
  some = x;
  some_fits = refl;
}

suc_parts : (m n : ℕ) → suc m ≡ suc n → m ≡ n
suc_parts m n e = omega (arith, e)

module _ {A : Type 0} (f : Format A) (a : Lawful f) where
  none_nil : (xs : List A) → length xs ≡ 0 → xs ≡ []
  none_nil [] e = refl
  none_nil (x ∷ xs) e = absurd (omega (arith, e))

  none_same : SameSpelling (times f 0) (constant []) (λ xs. xs) (λ xs. xs)
  none_same = record {
    reads = λ bytes. refl;
    bytes = λ xs fits. ap (each_bytes f.bytes) (none_nil xs fits.0);
    to = λ xs fits. none_nil xs fits.0;
    from = λ xs fits. let P : List A → Type 0 = λ l. (length l ≡ 0) × Each f.fits l in subst P (sym fits) (refl, tt);
    again = λ xs fits. refl;
    back = λ xs fits. refl;
  }

  head_tail : List A → A × List A
  head_tail [] = (a.some, [])
  head_tail (x ∷ xs) = (x, xs)

  more_bytes : (n : ℕ) (xs : List A) → (times f (suc n)).fits xs → each_bytes f.bytes xs ≡ (f ⨟ times f n).bytes (head_tail xs)
  unfolding head_tail
  more_bytes n [] fits = absurd (omega (arith, fits.0))
  more_bytes n (x ∷ xs) fits = refl

  more_to : (n : ℕ) (xs : List A) → (times f (suc n)).fits xs → (f ⨟ times f n).fits (head_tail xs)
  unfolding head_tail
  more_to n [] fits = absurd (omega (arith, fits.0))
  more_to n (x ∷ xs) fits = (fits.1.0, (suc_parts (length xs) n fits.0, fits.1.1))

  more_again : (n : ℕ) (xs : List A) → (times f (suc n)).fits xs → (head_tail xs).0 ∷ (head_tail xs).1 ≡ xs
  unfolding head_tail
  more_again n [] fits = absurd (omega (arith, fits.0))
  more_again n (x ∷ xs) fits = refl

  more_same : (n : ℕ) → SameSpelling (times f (suc n)) (f ⨟ times f n) (λ pair. pair.0 ∷ pair.1) head_tail
  unfolding head_tail
  more_same n = record {
    reads = λ bytes. refl;
    bytes = more_bytes n;
    to = more_to n;
    from = λ pair fits. (ap (λ k. suc k) fits.1.0, (fits.0, fits.1.1));
    again = more_again n;
    back = λ pair fits. refl;
  }

  pub times_lawful : (n : ℕ) → Lawful (times f n)
  times_lawful zero = same_lawful (times f 0) (constant []) (λ xs. xs) (λ xs. xs) none_same (constant_lawful [])
  times_lawful (suc n) = same_lawful (times f (suc n)) (f ⨟ times f n) (λ pair. pair.0 ∷ pair.1) head_tail (more_same n) (both_lawful f (times f n) a (times_lawful n))

-- ---- so many, where each may depend on those before it

module _ {A S : Type 0} (one : ℕ → S → Format A) (next : ℕ → S → A → S) (Fine : ℕ → S → Type 0) (laws : (n : ℕ) (s : S) → Fine (suc n) s → Lawful (one n s))
    (goes_on : (n : ℕ) (s : S) (x : A) → Fine (suc n) s → (one n s).fits x → Fine n (next n s x)) where
  end_same : (s : S) → SameSpelling (each one next 0 s) (constant []) (λ xs. xs) (λ xs. xs)
  end_same s = record {
    reads = λ bytes. refl;
    bytes = λ xs fits. refl;
    to = λ xs fits. fits;
    from = λ xs fits. fits;
    again = λ xs fits. refl;
    back = λ xs fits. refl;
  }

  module _ (n : ℕ) (s : S) (fine : Fine (suc n) s) where
    first_rest : List A → A × List A
    first_rest [] = ((laws n s fine).some, [])
    first_rest (x ∷ xs) = (x, xs)

    tail_of : A → Format (List A)
    tail_of x = each one next n (next n s x)

    each_bytes_are : (xs : List A) → each_fit one next (suc n) s xs → each_spelled one next (suc n) s xs ≡ (and_then (one n s) tail_of).bytes (first_rest xs)
    unfolding first_rest tail_of
    each_bytes_are [] fits = absurd fits
    each_bytes_are (x ∷ xs) fits = refl

    each_to : (xs : List A) → each_fit one next (suc n) s xs → (and_then (one n s) tail_of).fits (first_rest xs)
    unfolding first_rest tail_of
    each_to [] fits = absurd fits
    each_to (x ∷ xs) fits = fits

    each_again : (xs : List A) → each_fit one next (suc n) s xs → (first_rest xs).0 ∷ (first_rest xs).1 ≡ xs
    unfolding first_rest
    each_again [] fits = absurd fits
    each_again (x ∷ xs) fits = refl

    each_same : SameSpelling (each one next (suc n) s) (and_then (one n s) tail_of) (λ pair. pair.0 ∷ pair.1) first_rest
    unfolding first_rest tail_of
    each_same = record {
      reads = λ bytes. refl;
      bytes = each_bytes_are;
      to = each_to;
      from = λ pair fits. fits;
      again = each_again;
      back = λ pair fits. refl;
    }

    each_step : ((x : A) → (one n s).fits x → Lawful (each one next n (next n s x))) → Lawful (each one next (suc n) s)
    unfolding tail_of
    each_step after = same_lawful (each one next (suc n) s) (and_then (one n s) tail_of) (λ pair. pair.0 ∷ pair.1) first_rest each_same (and_then_lawful (one n s) tail_of (laws n s fine) after)

  pub each_lawful : (n : ℕ) (s : S) → Fine n s → Lawful (each one next n s)
  each_lawful zero s fine = same_lawful (each one next 0 s) (constant []) (λ xs. xs) (λ xs. xs) (end_same s) (constant_lawful [])
  each_lawful (suc n) s fine = each_step n s fine (λ x fits. each_lawful n (next n s x) (goes_on n s x fine fits))
