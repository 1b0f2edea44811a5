-- What reading answers where things of one sort alone are wanted.
use Rattle.std.proofs.Common.{◌≡◌, ◌∙◌, ℕ, suc, ◌<◌, ◌-◌, ◌+◌, List, [], ◌∷◌, ◌++◌, All, Err, refl, sym, ap, subst, arith}
use Rattle.std.proofs.lemmas.List.Elements.{All-head, All-tail}
use Rattle.ob_format_spec.specs.Formats.{Parsed, done, stop, ◌>>=◌}
use Rattle.ob_format_spec.specs.Combinators.{read_times}
use Rattle.ob_format_spec.proofs.CombinatorLaws.{done_parts, mapped_done}
use Rattle.ob_format.proofs.Loops.{prefixed}
use Rattle.ob_store_payload.specs.Answering.{AnswersOnly}
use Rattle.ob_store_payload.specs.declared.error.PayloadError.{PayloadError}
use Rattle.ob_store_payload.specs.declared.error.PayloadError.TheVariants.{Bad, Memory}

module _ {A Q : Type 0} (plain : A → Q) (wanted : Q → Type 0) where
  -- what the front reads isn't wanted, or nothing is read
  pub front_only : {B P : Type 0} (front : B → P) (wanted_front : P → Type 0) (e : PayloadError) (r : Parsed P) (f : P → List ℕ → Parsed Q)
      → ((p : P) (mid : List ℕ) (q : Q) (rest : List ℕ) → f p mid ≡ done q rest → wanted q → wanted_front p)
      → AnswersOnly front wanted_front (Err e) r → AnswersOnly plain wanted (Err e) (r >>= f)
  front_only front wanted_front Memory r f so h = tt
  front_only {B} {P} front wanted_front Bad r f so h = by r h
    where
      by : (r : Parsed P) → ((p : P) (mid : List ℕ) → r ≡ done p mid → ¬ (wanted_front p)) → (q : Q) (rest : List ℕ) → (r >>= f) ≡ done q rest → ¬ (wanted q)
      by (done p mid) h q rest is want = h p mid refl (so p mid q rest is want)
      by (stop left) h q rest is want = absurd cc

-- what is read isn't wanted as a whole, or nothing is read
pub mapped_only : {A P Q : Type 0} (plain : A → Q) (wanted : Q → Type 0) (whole : P → Q) (e : PayloadError) (r : Parsed P)
    → AnswersOnly (λ (p : P). p) (λ p. wanted (whole p)) (Err e) r → AnswersOnly plain wanted (Err e) (r >>= (λ p rest. done (whole p) rest))
mapped_only plain wanted whole e r h =
    front_only plain wanted (λ p. p) (λ p. wanted (whole p)) e r (λ p rest. done (whole p) rest)
    (λ p mid q rest is want. subst wanted (sym (done_parts (whole p) q mid rest is).0) want) h

module _ {P R : Type 0} (wanted : P × R → Type 0) (e : PayloadError) (r : Parsed P) (next : P → List ℕ → Parsed R) where
  -- the first of two parts isn't wanted, or isn't read
  pub first_only : {B : Type 0} (front : B → P) (wanted_front : P → Type 0) → ((x : P) (y : R) → wanted (x, y) → wanted_front x)
      → AnswersOnly front wanted_front (Err e) r → AnswersOnly (λ (p : P × R). p) wanted (Err e) (r >>= (λ x mid. next x mid >>= (λ y rest. done (x, y) rest)))
  first_only front wanted_front so h =
      front_only (λ p. p) wanted front wanted_front e r (λ x mid. next x mid >>= (λ y rest. done (x, y) rest)) so_front h
    where
      so_front : (x : P) (mid : List ℕ) (q : P × R) (rest : List ℕ) → (next x mid >>= (λ y last. done (x, y) last)) ≡ done q rest → wanted q → wanted_front x
      so_front x mid q rest is want =
          let parts = mapped_done (next x mid) (λ y. (x, y)) q rest is in so x parts.0 (subst wanted (sym parts.2) want)

  -- the second of two parts isn't wanted, or isn't read
  pub second_only : {B : Type 0} (back : B → R) (wanted_back : R → Type 0) (x : P) (mid : List ℕ) → ((y : R) → wanted (x, y) → wanted_back y) → r ≡ done x mid
      → AnswersOnly back wanted_back (Err e) (next x mid) → AnswersOnly (λ (p : P × R). p) wanted (Err e) (r >>= (λ x mid. next x mid >>= (λ y rest. done (x, y) rest)))
  second_only back wanted_back x mid so is h =
      subst (λ s. AnswersOnly (λ (p : P × R). p) wanted (Err e) (s >>= (λ x mid. next x mid >>= (λ y rest. done (x, y) rest)))) (sym is)
      (front_only (λ p. p) wanted back wanted_back e (next x mid) (λ y rest. done (x, y) rest)
      (λ y last q rest end want. so y (subst wanted (sym (done_parts (x, y) q last rest end).0) want)) h)

-- ---- so many, one after another

abbrev beside : {P : Type 0} → P → List P → P × List P
beside p ps = (p, ps)

module _ {P : Type 0} (wanted : P → Type 0) (read : List ℕ → Parsed P) where
  all_wanted : (items : List P) (p : P) (more : List P) → All wanted (items ++ p ∷ more) → wanted p
  all_wanted [] p more all = All-head wanted p more all
  all_wanted (x ∷ items) p more all = all_wanted items p more (All-tail wanted x (items ++ p ∷ more) all)

  the_first : (items : List P) (p : P) (r : Parsed (List P)) (ps : List P) (rest : List ℕ)
      → prefixed items ((r >>= (λ ys last. done (beside p ys) last)) >>= (λ pair last. done (pair.0 ∷ pair.1) last)) ≡ done ps rest → All wanted ps → wanted p
  the_first items p (done ys last) ps rest is all = all_wanted items p ys (subst (All wanted) (sym (done_parts (items ++ p ∷ ys) ps last rest is).0) all)
  the_first items p (stop left) ps rest is all = absurd cc

  one_bad : (items : List P) (m : ℕ) (r : Parsed P) → ((p : P) (mid : List ℕ) → r ≡ done p mid → ¬ (wanted p)) → (ps : List P) (rest : List ℕ)
      → prefixed items ((r >>= (λ x mid. read_times read m mid >>= (λ ys last. done (beside x ys) last))) >>= (λ pair last. done (pair.0 ∷ pair.1) last)) ≡ done ps rest → ¬ (All wanted ps)
  one_bad items m (done p mid) h ps rest is all = h p mid refl (the_first items p (read_times read m mid) ps rest is all)
  one_bad items m (stop left) h ps rest is all = absurd cc

  -- what one of them reads isn't wanted, or nothing is read
  pub times_only : {A B : Type 0} (plain : A → P) (each : B → List P) (n k : ℕ) (items : List P) (bytes : List ℕ) (whole : Parsed (List P)) (e : PayloadError) → k < n
      → prefixed items (read_times read (n - k) bytes) ≡ whole → AnswersOnly plain wanted (Err e) (read bytes) → AnswersOnly each (All wanted) (Err e) whole
  times_only plain each n k items bytes whole Memory less is h = tt
  times_only plain each n k items bytes whole Bad less is h =
      let count : n - k ≡ suc (n - (k + 1)) = omega (arith, less) in
      λ ps rest end. one_bad items (n - (k + 1)) (read bytes) h ps rest (ap (λ m. prefixed items (read_times read m bytes)) (sym count) ∙ is ∙ end)
