-- What holds of what is held after two branches.
use Rattle.std.proofs.Common.{◌≡◌, ℕ, Bool, true, false, not, ◌&&◌, ◌||◌, IsTrue, refl, ap, ◌∙◌, ⊎_elim}
use Rattle.std.specs.Bool.{◌==◌}
use Rattle.std.proofs.Math.Path.{fun_ext}
use Rattle.std.proofs.Math.Bool.{or_comm}
use Rattle.std.proofs.lemmas.Bool.{or_cases, or_left}
use Rattle.ob_perm.specs.States.{States, no_states, union, intersection, within, without}
use Rattle.ob_perm.specs.Permissions.{Permission, owned, shared, unowned, fits, matches, joined, permission_within, permission_without}
use Rattle.ob_perm.proofs.FitLemmas.{subset_at, subset_from, fits-owned}

pub joined_comm : (p q : Permission) → joined p q ≡ joined q p
joined_comm (owned a) (owned b) = ap owned (fun_ext (λ i. or_comm (a i) (b i)))
joined_comm (owned a) shared = refl
joined_comm (owned a) unowned = refl
joined_comm shared (owned b) = refl
joined_comm shared shared = refl
joined_comm shared unowned = refl
joined_comm unowned (owned b) = refl
joined_comm unowned shared = refl
joined_comm unowned unowned = refl

pub joined_same : (p : Permission) → joined p p ≡ p
joined_same (owned a) = ap owned (fun_ext (λ i. twice (a i)))
  where
    twice : (x : Bool) → (x || x) ≡ x
    twice true = refl
    twice false = refl
joined_same shared = refl
joined_same unowned = refl

pub fits-joined : (p q : Permission) → IsTrue (fits p (joined p q))
fits-joined (owned a) (owned b) =
    fits-owned a (union a b) ∙ subset_from a (union a b) (λ i h in_a. or_left (a i) (b i) in_a)
fits-joined (owned a) shared = refl
fits-joined (owned a) unowned = refl
fits-joined shared (owned b) = refl
fits-joined shared shared = refl
fits-joined shared unowned = refl
fits-joined unowned (owned b) = refl
fits-joined unowned shared = refl
fits-joined unowned unowned = refl

pub matches-joined : (p q wanted : Permission) → IsTrue (matches p wanted) → IsTrue (matches q wanted)
    → IsTrue (matches (joined p q) wanted)
matches-joined (owned a) (owned b) (owned c) first second =
    subset_from (union a b) c (λ i h some.
    ⊎_elim (subset_at a c first i h) (subset_at b c second i h) (or_cases (a i) (b i) some))
matches-joined shared shared shared first second = refl
matches-joined unowned unowned unowned first second = refl
matches-joined (owned a) q shared first second = absurd cc
matches-joined (owned a) q unowned first second = absurd cc
matches-joined shared q (owned c) first second = absurd cc
matches-joined shared q unowned first second = absurd cc
matches-joined unowned q (owned c) first second = absurd cc
matches-joined unowned q shared first second = absurd cc
matches-joined (owned a) shared (owned c) first second = absurd cc
matches-joined (owned a) unowned (owned c) first second = absurd cc
matches-joined shared (owned b) shared first second = absurd cc
matches-joined shared unowned shared first second = absurd cc
matches-joined unowned (owned b) unowned first second = absurd cc
matches-joined unowned shared unowned first second = absurd cc

pub joined_split : (p : Permission) (s : ℕ) → joined (permission_within p s) (permission_without p s) ≡ p
joined_split (owned a) s = ap owned (fun_ext (λ i. either (a i) (i == s)))
  where
    either : (x y : Bool) → (x && y || x && not y) ≡ x
    either true true = refl
    either true false = refl
    either false y = refl
joined_split shared s = refl
joined_split unowned s = refl

pub within_apart : (a : States) (s : ℕ) → intersection (within a s) (without a s) ≡ no_states
within_apart a s = fun_ext (λ i. never (a i) (i == s))
  where
    never : (x y : Bool) → ((x && y) && (x && not y)) ≡ false
    never true true = refl
    never true false = refl
    never false y = refl
