-- What tests and operations on permissions tell of the ways in which an object is held.
use Rattle.std.proofs.Common.{◌≡◌, ℕ, Bool, true, false, not, ◌&&◌, ◌||◌, Option, Some, None, is_none, refl, sym, ap, ◌∙◌, ◌⊎◌, inl, inr, true≢false}
use Rattle.ob_perm.specs.declared.permission.FitFault.{FitFault}
use Rattle.ob_perm.specs.States.{States}
use Rattle.ob_perm.specs.Permissions.{Permission, owned, shared, unowned, owns, is_shared, is_unowned, fit_fault, fits, matches, kept, joined, loses_owner, on_states, permission_within, permission_without}
use Rattle.ob_silica_places.specs.Converting.{gotten}
use Rattle.ob_silica_places.specs.Known.{unowned_under}
use Rattle.ob_flow_spec.specs.Uses.{goes_away}
use Rattle.ob_flow_spec.specs.Joining.{same_mode}
use Rattle.ob_perm.proofs.FitLemmas.{fits-owned}
use Rattle.ob_places_laws.specs.Serving.{AreAmong}
use Rattle.ob_places_laws.proofs.Sets.{among_from_subset, subset_from_among}

-- The ways in which an object is held.

pub owner_is : (p : Permission) → owns p ≡ true → (a : States) × (p ≡ owned a)
owner_is (owned a) e = (a, refl)
owner_is shared e = absurd (true≢false (sym e))
owner_is unowned e = absurd (true≢false (sym e))

pub shared_is : (p : Permission) → is_shared p ≡ true → p ≡ shared
shared_is (owned a) e = absurd (true≢false (sym e))
shared_is shared e = refl
shared_is unowned e = absurd (true≢false (sym e))

pub unowned_is : (p : Permission) → is_unowned p ≡ true → p ≡ unowned
unowned_is (owned a) e = absurd (true≢false (sym e))
unowned_is shared e = absurd (true≢false (sym e))
unowned_is unowned e = refl

pub some_way : (p : Permission) → ((a : States) × (p ≡ owned a)) ⊎ ((p ≡ shared) ⊎ (p ≡ unowned))
some_way (owned a) = inl (a, refl)
some_way shared = inr (inl refl)
some_way unowned = inr (inr refl)

pub no_owner_is : (p : Permission) → owns p ≡ false → (p ≡ shared) ⊎ (p ≡ unowned)
no_owner_is (owned a) e = absurd (true≢false e)
no_owner_is shared e = inl refl
no_owner_is unowned e = inr refl

-- Permissions that are held in the same way.

pub same_mode_itself : (p : Permission) → same_mode p p ≡ true
same_mode_itself (owned a) = refl
same_mode_itself shared = refl
same_mode_itself unowned = refl

pub same_mode_back : (p q : Permission) → same_mode p q ≡ true → same_mode q p ≡ true
same_mode_back (owned a) (owned b) e = refl
same_mode_back (owned a) shared e = absurd (true≢false (sym e))
same_mode_back (owned a) unowned e = absurd (true≢false (sym e))
same_mode_back shared (owned b) e = absurd (true≢false (sym e))
same_mode_back shared shared e = refl
same_mode_back shared unowned e = absurd (true≢false (sym e))
same_mode_back unowned (owned b) e = absurd (true≢false (sym e))
same_mode_back unowned shared e = absurd (true≢false (sym e))
same_mode_back unowned unowned e = refl

pub same_mode_owns : (p q : Permission) → same_mode p q ≡ true → owns p ≡ owns q
same_mode_owns (owned a) q e = sym e
same_mode_owns shared (owned b) e = absurd (true≢false (sym e))
same_mode_owns shared shared e = refl
same_mode_owns shared unowned e = absurd (true≢false (sym e))
same_mode_owns unowned (owned b) e = absurd (true≢false (sym e))
same_mode_owns unowned shared e = absurd (true≢false (sym e))
same_mode_owns unowned unowned e = refl

pub same_mode_shares : (p q : Permission) → same_mode p q ≡ true → is_shared p ≡ is_shared q
same_mode_shares (owned a) (owned b) e = refl
same_mode_shares (owned a) shared e = absurd (true≢false (sym e))
same_mode_shares (owned a) unowned e = absurd (true≢false (sym e))
same_mode_shares shared q e = sym e
same_mode_shares unowned (owned b) e = absurd (true≢false (sym e))
same_mode_shares unowned shared e = absurd (true≢false (sym e))
same_mode_shares unowned unowned e = refl

pub same_mode_no_say : (p q : Permission) → same_mode p q ≡ true → is_unowned p ≡ is_unowned q
same_mode_no_say (owned a) (owned b) e = refl
same_mode_no_say (owned a) shared e = absurd (true≢false (sym e))
same_mode_no_say (owned a) unowned e = absurd (true≢false (sym e))
same_mode_no_say shared (owned b) e = absurd (true≢false (sym e))
same_mode_no_say shared shared e = refl
same_mode_no_say shared unowned e = absurd (true≢false (sym e))
same_mode_no_say unowned q e = sym e

pub same_mode_onward : (p q r : Permission) → same_mode p q ≡ true → same_mode q r ≡ true → same_mode p r ≡ true
same_mode_onward (owned a) q r first second = sym (same_mode_owns q r second) ∙ first
same_mode_onward shared q r first second = sym (same_mode_shares q r second) ∙ first
same_mode_onward unowned q r first second = sym (same_mode_no_say q r second) ∙ first

-- What matches.

pub matches_owner : (p : Permission) (b : States) → matches p (owned b) ≡ true
    → (a : States) × (p ≡ owned a) × AreAmong a b
matches_owner (owned a) b e = (a, refl, among_from_subset a b e)
matches_owner shared b e = absurd (true≢false (sym e))
matches_owner unowned b e = absurd (true≢false (sym e))

pub matches_shared : (p : Permission) → matches p shared ≡ true → p ≡ shared
matches_shared (owned a) e = absurd (true≢false (sym e))
matches_shared shared e = refl
matches_shared unowned e = absurd (true≢false (sym e))

pub matches_unowned : (p : Permission) → matches p unowned ≡ true → p ≡ unowned
matches_unowned (owned a) e = absurd (true≢false (sym e))
matches_unowned shared e = absurd (true≢false (sym e))
matches_unowned unowned e = refl

pub owner_matches : (a : States) (q : Permission) → matches (owned a) q ≡ true
    → (b : States) × (q ≡ owned b) × AreAmong a b
owner_matches a (owned b) e = (b, refl, among_from_subset a b e)
owner_matches a shared e = absurd (true≢false (sym e))
owner_matches a unowned e = absurd (true≢false (sym e))

pub shared_matches : (q : Permission) → matches shared q ≡ true → q ≡ shared
shared_matches (owned b) e = absurd (true≢false (sym e))
shared_matches shared e = refl
shared_matches unowned e = absurd (true≢false (sym e))

pub unowned_matches : (q : Permission) → matches unowned q ≡ true → q ≡ unowned
unowned_matches (owned b) e = absurd (true≢false (sym e))
unowned_matches shared e = absurd (true≢false (sym e))
unowned_matches unowned e = refl

pub matches_from : (a b : States) → AreAmong a b → matches (owned a) (owned b) ≡ true
matches_from a b h = subset_from_among a b h

pub matches_mode : (p q : Permission) → matches p q ≡ true → same_mode p q ≡ true
matches_mode (owned a) (owned b) e = refl
matches_mode (owned a) shared e = e
matches_mode (owned a) unowned e = e
matches_mode shared (owned b) e = e
matches_mode shared shared e = refl
matches_mode shared unowned e = e
matches_mode unowned (owned b) e = e
matches_mode unowned shared e = e
matches_mode unowned unowned e = refl

pub matches_itself : (p : Permission) → matches p p ≡ true
matches_itself (owned a) = subset_from_among a a (λ i h e. e)
matches_itself shared = refl
matches_itself unowned = refl

-- What fits.

fault_none : (f : Option FitFault) → is_none f ≡ true → f ≡ None
fault_none None e = refl
fault_none (Some cause) e = absurd (true≢false (sym e))

pub fits_no_fault : (p w : Permission) → fits p w ≡ true → fit_fault p w ≡ None
fits_no_fault p w e = fault_none (fit_fault p w) e

pub no_fault_fits : (p w : Permission) → fit_fault p w ≡ None → fits p w ≡ true
no_fault_fits p w e = ap is_none e

pub fits_owner : (p : Permission) (b : States) → fits p (owned b) ≡ true → (a : States) × (p ≡ owned a) × AreAmong a b
fits_owner (owned a) b e = (a, refl, among_from_subset a b (sym (fits-owned a b) ∙ e))
fits_owner shared b e = absurd (true≢false (sym e))
fits_owner unowned b e = absurd (true≢false (sym e))

pub fits_shared : (p : Permission) → fits p shared ≡ true → ((a : States) × (p ≡ owned a)) ⊎ (p ≡ shared)
fits_shared (owned a) e = inl (a, refl)
fits_shared shared e = inr refl
fits_shared unowned e = absurd (true≢false (sym e))

pub fits_unowned : (p : Permission) → fits p unowned ≡ true
fits_unowned p = refl

pub fits_from : (a b : States) → AreAmong a b → fits (owned a) (owned b) ≡ true
fits_from a b h = fits-owned a b ∙ subset_from_among a b h

-- What is kept, and what is got.

and_true : (b : Bool) → b ≡ (b && true)
and_true true = refl
and_true false = refl

and_false : (b : Bool) → false ≡ (b && false)
and_false true = refl
and_false false = refl

pub kept_owns : (p w : Permission) → owns (kept p w) ≡ (owns p && is_unowned w)
kept_owns p unowned = and_true (owns p)
kept_owns p shared = and_false (owns p)
kept_owns p (owned b) = and_false (owns p)

pub kept_unowned : (p : Permission) → kept p unowned ≡ p
kept_unowned p = refl

pub kept_shared : (p : Permission) → kept p shared ≡ shared
kept_shared p = refl

pub kept_owner : (p w : Permission) → owns w ≡ true → kept p w ≡ unowned
kept_owner p (owned b) e = refl
kept_owner p shared e = absurd (true≢false (sym e))
kept_owner p unowned e = absurd (true≢false (sym e))

-- What is got is held as wanted, where it fits.
pub gotten_mode : (w p : Permission) → fits p w ≡ true → same_mode (gotten w p) w ≡ true
gotten_mode (owned a) (owned b) e = refl
gotten_mode (owned a) shared e = absurd (true≢false (sym e))
gotten_mode (owned a) unowned e = absurd (true≢false (sym e))
gotten_mode shared p e = refl
gotten_mode unowned p e = refl

pub gotten_owns : (w p : Permission) → owns (gotten w p) ≡ (owns w && owns p)
gotten_owns (owned a) p = refl
gotten_owns shared p = refl
gotten_owns unowned p = refl

pub gotten_owner : (w p : Permission) → owns w ≡ true → gotten w p ≡ p
gotten_owner (owned a) p e = refl
gotten_owner shared p e = absurd (true≢false (sym e))
gotten_owner unowned p e = absurd (true≢false (sym e))

pub gotten_other : (w p : Permission) → owns w ≡ false → gotten w p ≡ w
gotten_other (owned a) p e = absurd (true≢false e)
gotten_other shared p e = refl
gotten_other unowned p e = refl

-- Under the permission of `this`.

pub under_owns : (t p : Permission) → owns (unowned_under t p) ≡ (not (is_unowned t) && owns p)
under_owns (owned a) p = refl
under_owns shared p = refl
under_owns unowned (owned b) = refl
under_owns unowned shared = refl
under_owns unowned unowned = refl

pub under_shares : (t p : Permission) → is_shared (unowned_under t p) ≡ is_shared p
under_shares (owned a) p = refl
under_shares shared p = refl
under_shares unowned (owned b) = refl
under_shares unowned shared = refl
under_shares unowned unowned = refl

-- A permission counts as itself or as Unowned.
pub under_is : (t p : Permission) → (unowned_under t p ≡ p) ⊎ (unowned_under t p ≡ unowned)
under_is (owned a) p = inl refl
under_is shared p = inl refl
under_is unowned (owned b) = inr refl
under_is unowned shared = inl refl
under_is unowned unowned = inl refl

pub under_say : (t p : Permission) → is_unowned t ≡ false → unowned_under t p ≡ p
under_say (owned a) p e = refl
under_say shared p e = refl
under_say unowned p e = absurd (true≢false e)

pub under_same : (s t p : Permission) → same_mode s t ≡ true → unowned_under s p ≡ unowned_under t p
under_same (owned a) (owned b) p e = refl
under_same (owned a) shared p e = absurd (true≢false (sym e))
under_same (owned a) unowned p e = absurd (true≢false (sym e))
under_same shared (owned b) p e = absurd (true≢false (sym e))
under_same shared shared p e = refl
under_same shared unowned p e = absurd (true≢false (sym e))
under_same unowned (owned b) p e = absurd (true≢false (sym e))
under_same unowned shared p e = absurd (true≢false (sym e))
under_same unowned unowned p e = refl

-- What doesn't go away where a place is given: no say is wanted, or an owner that comes back as one.
pub goes_is : (w exit : Permission) → goes_away w exit ≡ (is_shared w || (owns w && not (owns exit)))
goes_is (owned a) exit = refl
goes_is shared exit = refl
goes_is unowned exit = refl

pub stays_is : (w exit : Permission) → goes_away w exit ≡ false → (w ≡ unowned) ⊎ ((owns w ≡ true) × (owns exit ≡ true))
stays_is (owned a) (owned b) e = inr (refl, refl)
stays_is (owned a) shared e = absurd (true≢false e)
stays_is (owned a) unowned e = absurd (true≢false e)
stays_is shared exit e = absurd (true≢false e)
stays_is unowned exit e = inl refl

-- Other states.

pub on_states_owns : (f : States → States) (p : Permission) → owns (on_states f p) ≡ owns p
on_states_owns f (owned a) = refl
on_states_owns f shared = refl
on_states_owns f unowned = refl

pub on_states_mode : (f : States → States) (p : Permission) → same_mode (on_states f p) p ≡ true
on_states_mode f (owned a) = refl
on_states_mode f shared = refl
on_states_mode f unowned = refl

pub within_mode : (p : Permission) (s : ℕ) → same_mode (permission_within p s) p ≡ true
within_mode p s = on_states_mode _ p

pub without_mode : (p : Permission) (s : ℕ) → same_mode (permission_without p s) p ≡ true
without_mode p s = on_states_mode _ p

-- After two branches.

pub joined_owns : (p q : Permission) → owns (joined p q) ≡ (owns p && owns q)
joined_owns (owned a) (owned b) = refl
joined_owns (owned a) shared = refl
joined_owns (owned a) unowned = refl
joined_owns shared (owned b) = refl
joined_owns shared shared = refl
joined_owns shared unowned = refl
joined_owns unowned (owned b) = refl
joined_owns unowned shared = refl
joined_owns unowned unowned = refl

pub joined_shares : (p q : Permission) → is_shared (joined p q) ≡ (is_shared p && is_shared q)
joined_shares (owned a) (owned b) = refl
joined_shares (owned a) shared = refl
joined_shares (owned a) unowned = refl
joined_shares shared (owned b) = refl
joined_shares shared shared = refl
joined_shares shared unowned = refl
joined_shares unowned (owned b) = refl
joined_shares unowned shared = refl
joined_shares unowned unowned = refl

-- Where both branches hold an object in the same way, it is held so after them.
pub joined_mode_left : (p q : Permission) → same_mode p q ≡ true → same_mode (joined p q) p ≡ true
joined_mode_left (owned a) (owned b) e = refl
joined_mode_left (owned a) shared e = absurd (true≢false (sym e))
joined_mode_left (owned a) unowned e = absurd (true≢false (sym e))
joined_mode_left shared (owned b) e = absurd (true≢false (sym e))
joined_mode_left shared shared e = refl
joined_mode_left shared unowned e = absurd (true≢false (sym e))
joined_mode_left unowned (owned b) e = absurd (true≢false (sym e))
joined_mode_left unowned shared e = absurd (true≢false (sym e))
joined_mode_left unowned unowned e = refl

pub joined_mode_right : (p q : Permission) → same_mode p q ≡ true → same_mode (joined p q) q ≡ true
joined_mode_right p q e = same_mode_onward (joined p q) p q (joined_mode_left p q e) e

pub loses_is : (p q : Permission) → loses_owner p q ≡ false → owns p ≡ owns q
loses_is (owned a) (owned b) e = refl
loses_is (owned a) shared e = absurd (true≢false e)
loses_is (owned a) unowned e = absurd (true≢false e)
loses_is shared q e = sym e
loses_is unowned q e = sym e
