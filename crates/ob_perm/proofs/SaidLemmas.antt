-- What holds of a permission that is said for an interface, or back for a contract.
use Rattle.std.proofs.Common.{◌≡◌, ℕ, ◌<◌, true, ◌&&◌, Option, Some, None, length, IsTrue, refl, sym, ap, subst, ◌∙◌, arith, eq-eqb, eqb-true, get_or, lit<}
use Rattle.std.specs.Prelude.{IfSome, slice_get}
use Rattle.std.specs.Bool.{◌==◌}
use Rattle.std.specs.Cmp.{both_ways}
use Rattle.std.specs.Option.{option_map_or, option_flatten}
use Rattle.std.proofs.lemmas.Bool.{and_parts, and_from, cond_both}
use Rattle.std.proofs.lemmas.Option.{slice_get_within, slice_get-get_or}
use Rattle.ob_base.specs.declared.id.StateId.{StateId}
use Rattle.ob_perm.specs.States.{States, stateless, unnamed, states_max, subset, intersection, all_states, image, preimage}
use Rattle.ob_perm.specs.Permissions.{Permission, owned, shared, unowned, fits, matches, is_on}
use Rattle.ob_perm.specs.Naming.{Names, IsNaming, called_in_interface, seen, states_for_interface, states_for_contract, for_interface, for_contract}
use Rattle.ob_perm.proofs.SetLemmas.{any_below_at, any_below_from}
use Rattle.ob_perm.proofs.FitLemmas.{subset_at, subset_from, subset_itself, fits-owned}

-- what a name that is found, or not, denotes
abbrev named : Option (Option StateId) → ℕ
named name = option_map_or (λ (k : StateId). k.0) (option_flatten name) unnamed

named_below : (name : Option (Option StateId)) → ((x : Option StateId) → name ≡ Some x → IfSome x (λ k. k.0 < 32))
    → named name < 34
named_below None low = lit< tt
named_below (Some None) low = lit< tt
named_below (Some (Some k)) low = omega (arith, low (Some k) refl)

-- What the interface sees is one of its states, no state or any other.
pub seen_below : (names : Names) (s : ℕ) → IsNaming names → seen names s < states_max
unfolding states_max
seen_below names s is = cond_both (s == stateless) stateless (called_in_interface names s) (λ n. n < 34) (λ none. lit< tt)
    (λ some. named_below (slice_get names s) (λ x found.
    let within = slice_get_within names s x found in
    let same : get_or names s x ≡ x = cc (slice_get-get_or names s x within) in
    subst (λ y. IfSome y (λ k. k.0 < 32)) same (is.of_interface s x within)))

-- What a state of the set is called is in its image, and nothing else is.
pub in_image : (f : ℕ → ℕ) (a : States) (s : ℕ) → s < states_max → a s ≡ true → image f a (f s) ≡ true
in_image f a s h in_a = any_below_from states_max (λ k. a k && f s == f k) s h
    (and_from (a s) (f s == f s) in_a (eq-eqb (f s) (f s) refl))

pub from_image : (f : ℕ → ℕ) (a : States) (i : ℕ) → image f a i ≡ true → (s : ℕ) × (s < states_max) × (a s ≡ true) × (i ≡ f s)
from_image f a i called_in_interface =
    let some : (s : ℕ) × (s < states_max) × ((a s && i == f s) ≡ true) = any_below_at states_max (λ s. a s && i == f s) called_in_interface in
    let parts = and_parts (a some.0) (i == f some.0) some.2 in
    (some.0, some.1, parts.0, eqb-true i (f some.0) parts.1)

-- A set is among others as it is said for the interface, where it is among the others said back.
pub image-subset : (f : ℕ → ℕ) (all a b : States) → ((s : ℕ) → f s < states_max) → subset a all ≡ true
    → subset (image f a) b ≡ subset a (intersection all (preimage f b))
image-subset f all a b low among = both_ways (subset (image f a) b) (subset a (intersection all (preimage f b)))
    (λ there. subset_from a (intersection all (preimage f b)) (λ s h in_a.
    and_from (all s) (b (f s)) (subset_at a all among s h in_a)
    (subset_at (image f a) b there (f s) (low s) (in_image f a s h in_a))))
    (λ back. subset_from (image f a) b (λ i h called_in_interface.
    let some = from_image f a i called_in_interface in
    let in_back = subset_at a (intersection all (preimage f b)) back some.0 some.1 some.2 in
    ap b some.3 ∙ (and_parts (all some.0) (b (f some.0)) in_back).1))

pub fits-for_interface : (names : Names) (p wanted : Permission) → IsNaming names → IsTrue (is_on (length names) p)
    → fits (for_interface names p) wanted ≡ fits p (for_contract names wanted)
fits-for_interface names (owned a) (owned b) is among =
    fits-owned (states_for_interface names a) b
    ∙ image-subset (seen names) (all_states (length names)) a b (λ s. seen_below names s is) among
    ∙ sym (fits-owned a (states_for_contract names b))
fits-for_interface names (owned a) shared is among = refl
fits-for_interface names (owned a) unowned is among = refl
fits-for_interface names shared (owned b) is among = refl
fits-for_interface names shared shared is among = refl
fits-for_interface names shared unowned is among = refl
fits-for_interface names unowned (owned b) is among = refl
fits-for_interface names unowned shared is among = refl
fits-for_interface names unowned unowned is among = refl

pub matches-for_contract : (names : Names) (p : Permission) → IsNaming names → IsTrue (is_on (length names) p)
    → IsTrue (matches p (for_contract names (for_interface names p)))
matches-for_contract names (owned a) is among = let there = states_for_interface names a in
    sym (image-subset (seen names) (all_states (length names)) a there (λ s. seen_below names s is) among)
    ∙ subset_itself there
matches-for_contract names shared is among = refl
matches-for_contract names unowned is among = refl
