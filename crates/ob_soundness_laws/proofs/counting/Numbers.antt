-- How often a number is among others.
use Rattle.std.proofs.Common.{◌≡◌, ◌≢◌, ℕ, zero, suc, ◌+◌, ◌<◌, ⊎_elim, true, false, nat_eq, ◌||◌, List, [], ◌∷◌, refl, sym, ap, ◌∙◌, subst, arith, eq-eqb, ne_eqb, true≢false}
use Rattle.std.proofs.lemmas.Bool.Decides.{eqb_tells}
use Rattle.ob_heap_spec.specs.Marks.{is_among, without_first}
use Rattle.ob_coherent_spec.specs.Counting.{one_if}
use Rattle.ob_coherent_spec.specs.Runs.{times}

pub one_same : (n : ℕ) → one_if (nat_eq n n) ≡ 1
one_same n = ap one_if (eq-eqb n n refl)

pub one_other : (n m : ℕ) → n ≢ m → one_if (nat_eq n m) ≡ 0
one_other n m other = ap one_if (ne_eqb n m other)

pub one_of : (n m : ℕ) → 0 < one_if (nat_eq n m) → n ≡ m
one_of n m some = ⊎_elim (λ e. e.1) (λ e. absurd (omega (arith, one_other n m e.1))) (eqb_tells n m)

pub times_same : (n : ℕ) (ns : List ℕ) → times n (n ∷ ns) ≡ 1 + times n ns
times_same n ns = omega (arith, one_same n)

pub times_other : (n m : ℕ) (ns : List ℕ) → m ≢ n → times n (m ∷ ns) ≡ times n ns
times_other n m ns other = omega (arith, one_other m n other)

pub among_times : (n : ℕ) (ns : List ℕ) → is_among n ns ≡ true → 0 < times n ns
among_times n [] e = absurd (true≢false (sym e))
among_times n (m ∷ ns) e = ⊎_elim
    (λ same. omega (arith, ap (λ k. one_if (nat_eq m k)) same.1, one_same m))
    (λ other. omega (arith, among_times n ns (subst (λ b. (b || is_among n ns) ≡ true) other.0 e)))
    (eqb_tells n m)

pub times_among : (n : ℕ) (ns : List ℕ) → 0 < times n ns → is_among n ns ≡ true
times_among n [] some = absurd (omega arith)
times_among n (m ∷ ns) some = ⊎_elim
    (λ same. rw same.0)
    (λ other. rw other.0 (times_among n ns (omega (arith, one_other m n (λ e. other.1 (sym e))))))
    (eqb_tells n m)

pub not_among_times : (n : ℕ) (ns : List ℕ) → is_among n ns ≡ false → times n ns ≡ 0
not_among_times n ns e = go (times n ns) refl
  where
    go : (m : ℕ) → times n ns ≡ m → m ≡ 0
    go zero is = refl
    go (suc m) is = absurd (true≢false (sym (times_among n ns (omega arith)) ∙ e))

-- where a number is among them, one time less
pub without_times : (n : ℕ) (ns : List ℕ) → 0 < times n ns → 1 + times n (without_first n ns) ≡ times n ns
without_times n [] some = absurd (omega arith)
without_times n (m ∷ ns) some = ⊎_elim
    (λ same. rw same.0 (omega (arith, ap (λ k. one_if (nat_eq m k)) same.1, one_same m)))
    (λ other. rw other.0 (omega (
      arith,
      one_other m n (λ e. other.1 (sym e)),
      without_times n ns (omega (arith, one_other m n (λ e. other.1 (sym e)))),
    )))
    (eqb_tells n m)

pub without_none : (n : ℕ) (ns : List ℕ) → times n ns ≡ 0 → without_first n ns ≡ ns
without_none n [] none = refl
without_none n (m ∷ ns) none = ⊎_elim
    (λ same. absurd (omega (arith, ap (λ k. one_if (nat_eq m k)) same.1, one_same m)))
    (λ other. rw other.0 (ap (λ l. m ∷ l) (without_none n ns (omega arith))))
    (eqb_tells n m)

-- another number stays as often
pub without_other : (n k : ℕ) (ns : List ℕ) → k ≢ n → times k (without_first n ns) ≡ times k ns
without_other n k [] other = refl
without_other n k (m ∷ ns) other = ⊎_elim
    (λ same. rw same.0 (omega (arith, one_other m k (λ e. other (sym e ∙ sym same.1)))))
    (λ differs. rw differs.0 (omega (arith, without_other n k ns other)))
    (eqb_tells n m)
