-- One turn of the loops that say a set of states for an interface, and for a contract.
use Rattle.std.proofs.Common.{◌≡◌, ℕ, ◌+◌, ◌<◌, ◌≤◌, ◌⊎◌, inl, inr, true, false, ◌&&◌, ◌||◌, nat_lt, sym, ap, ◌∙◌, arith, le-ltb, add-one}
use Rattle.std.specs.Bool.{◌==◌}
use Rattle.std.proofs.Math.Path.{fun_ext}
use Rattle.std.proofs.Math.Bool.{or_comm}
use Rattle.std.proofs.lemmas.Bool.{cases_order, cases_lt}
use Rattle.std.proofs.lemmas.Bool.Decides.{nat_tests}
use Rattle.ob_perm.specs.States.{any_below, States, no_states, only, union, intersection, all_states}

-- the states below a number that pass a test
abbrev pub below_passing : ℕ → States → States
below_passing n p = λ i. nat_lt i n && p i

-- what the states of a set below a number are called
abbrev pub below_called : ℕ → (ℕ → ℕ) → States → States
below_called n f a = λ i. any_below n (λ s. a s && i == f s)

pub called_more : (n : ℕ) (f : ℕ → ℕ) (a old : States) → a n ≡ true → old ≡ below_called n f a
    → union old (only (f n)) ≡ below_called (n + 1) f a
called_more n f a old e is = fun_ext (λ i. let among = λ (s : ℕ). a s && i == f s in
    ap (λ (o : States). o i || i == f n) is
    ∙ or_comm (any_below n among) (i == f n)
    ∙ ap (λ b. (b && i == f n) || any_below n among) (sym e)
    ∙ ap (λ k. any_below k among) (sym (add-one n)))

pub called_same : (n : ℕ) (f : ℕ → ℕ) (a old : States) → a n ≡ false → old ≡ below_called n f a
    → old ≡ below_called (n + 1) f a
called_same n f a old e is = is ∙ fun_ext (λ i. let among = λ (s : ℕ). a s && i == f s in
    ap (λ b. (b && i == f n) || any_below n among) (sym e) ∙ ap (λ k. any_below k among) (sym (add-one n)))

pub passing-none : (p : States) → no_states ≡ below_passing 0 p
passing-none p = fun_ext (λ i. ap (λ b. b && p i) (sym (le-ltb i 0 (omega arith))))

pub passing_more : (n : ℕ) (p old : States) → p n ≡ true → old ≡ below_passing n p
    → union old (only n) ≡ below_passing (n + 1) p
passing_more n p old e is = fun_ext (λ i. ap (λ (o : States). o i || i == n) is ∙ at i (cases_order i n))
  where
    at : (i : ℕ) → (i ≡ n) ⊎ ((i < n) ⊎ (n < i)) → (nat_lt i n && p i || i == n) ≡ (nat_lt i (n + 1) && p i)
    at i (inl same) = let here : p i ≡ true = ap p same ∙ e in grind (arith, nat_tests)
    at i (inr (inl below)) = grind (arith, nat_tests)
    at i (inr (inr above)) = grind (arith, nat_tests)

pub passing_same : (n : ℕ) (p old : States) → p n ≡ false → old ≡ below_passing n p → old ≡ below_passing (n + 1) p
passing_same n p old e is = is ∙ fun_ext (λ i. at i (cases_order i n))
  where
    at : (i : ℕ) → (i ≡ n) ⊎ ((i < n) ⊎ (n < i)) → (nat_lt i n && p i) ≡ (nat_lt i (n + 1) && p i)
    at i (inl same) = let here : p i ≡ false = ap p same ∙ e in grind (arith, nat_tests)
    at i (inr (inl below)) = grind (arith, nat_tests)
    at i (inr (inr above)) = grind (arith, nat_tests)

-- The states of a contract are all below the last number.
pub all_states-passing : (n : ℕ) (p : States) → n ≤ 32
    → intersection (all_states n) (below_passing 34 p) ≡ intersection (all_states n) p
all_states-passing n p few = fun_ext (λ i. at i (cases_lt i 34))
  where
    at : (i : ℕ) → (i < 34) ⊎ (34 ≤ i) → (all_states n i && (nat_lt i 34 && p i)) ≡ (all_states n i && p i)
    at i (inl below) = grind (arith, nat_tests)
    at i (inr above) = grind (arith, nat_tests)
