-- What holds of what fits.
use Rattle.std.proofs.Common.{◌≡◌, ℕ, ◌<◌, Bool, true, false, not, if◌then◌else◌, ◌&&◌, ◌||◌, Option, Some, None, is_none, IsTrue, IsFalse, refl, sym, ◌∙◌, ⊎_elim}
use Rattle.std.proofs.lemmas.Bool.{or_cases, or_left, or_right, not_from_false, not_from_true, both_ways, cases_Bool}
use Rattle.ob_perm.specs.declared.permission.FitFault.{FitFault}
use Rattle.ob_perm.specs.declared.permission.FitFault.TheVariants.{WrongState}
use Rattle.ob_perm.specs.States.{States, states_max, subset}
use Rattle.ob_perm.specs.Permissions.{Permission, owned, shared, unowned, owns, fits, matches, kept}
use Rattle.ob_perm.proofs.SetLemmas.{all_below_at, all_below_from}

-- What is in the first set is in the second, of the states that count.
pub subset_at : (a b : States) → subset a b ≡ true → (i : ℕ) → i < states_max → a i ≡ true → b i ≡ true
subset_at a b e i h in_a = ⊎_elim
    (λ out. absurd (both_ways (not (a i)) (not_from_true (a i) in_a) out))
    (λ in_b. in_b)
    (or_cases (not (a i)) (b i) (all_below_at states_max (λ i. not (a i) || b i) e i h))

pub subset_from : (a b : States) → ((i : ℕ) → i < states_max → a i ≡ true → b i ≡ true) → subset a b ≡ true
subset_from a b e = all_below_from states_max (λ i. not (a i) || b i) (λ i h. ⊎_elim
    (λ in_a. or_right (not (a i)) (b i) (e i h in_a))
    (λ out. or_left (not (a i)) (b i) (not_from_false (a i) out))
    (cases_Bool (a i)))

abbrev unless : Bool → Option FitFault
unless b = if b then None else Some WrongState

pub subset_itself : (a : States) → subset a a ≡ true
subset_itself a = subset_from a a (λ i h in_a. in_a)

pub subset_onward : (a b c : States) → subset a b ≡ true → subset b c ≡ true → subset a c ≡ true
subset_onward a b c first second = subset_from a c (λ i h in_a. subset_at b c second i h (subset_at a b first i h in_a))

-- An owner serves for an owner where its states are among the other's.
pub fits-owned : (a b : States) → fits (owned a) (owned b) ≡ subset a b
fits-owned a b = of_test (subset a b)
  where
    of_test : (b : Bool) → is_none (unless b) ≡ b
    of_test true = refl
    of_test false = refl

pub fits_itself : (p : Permission) → IsTrue (fits p p)
fits_itself (owned a) = fits-owned a a ∙ subset_itself a
fits_itself shared = refl
fits_itself unowned = refl

pub fits_onward : (p q r : Permission) → IsTrue (fits p q) → IsTrue (fits q r) → IsTrue (fits p r)
fits_onward (owned a) (owned b) (owned c) first second =
    fits-owned a c ∙ subset_onward a b c (sym (fits-owned a b) ∙ first) (sym (fits-owned b c) ∙ second)
fits_onward p q unowned first second = refl
fits_onward (owned a) q shared first second = refl
fits_onward shared q shared first second = refl
fits_onward unowned (owned b) shared first second = absurd cc
fits_onward unowned shared shared first second = absurd cc
fits_onward unowned unowned shared first second = absurd cc
fits_onward p shared (owned c) first second = absurd cc
fits_onward p unowned (owned c) first second = absurd cc
fits_onward shared (owned b) (owned c) first second = absurd cc
fits_onward unowned (owned b) (owned c) first second = absurd cc

pub fits_matching : (p q : Permission) → IsTrue (matches p q) → IsTrue (fits p q)
fits_matching (owned a) (owned b) e = fits-owned a b ∙ e
fits_matching p unowned e = refl
fits_matching (owned a) shared e = refl
fits_matching shared shared e = refl
fits_matching unowned shared e = absurd cc
fits_matching shared (owned b) e = absurd cc
fits_matching unowned (owned b) e = absurd cc

pub one_owner : (p wanted : Permission) → IsFalse (owns (kept p wanted) && owns wanted)
one_owner p (owned b) = refl
one_owner p shared = refl
one_owner (owned a) unowned = refl
one_owner shared unowned = refl
one_owner unowned unowned = refl
