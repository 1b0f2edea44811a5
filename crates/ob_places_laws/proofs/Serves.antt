-- Which permission serves where another is said.
use Rattle.std.proofs.Common.{◌≡◌, ◌≢◌, ◌⊎◌, ⊎_elim, ℕ, ◌<◌, true, false, refl, sym, ap, subst, ◌∙◌, true≢false}
use Rattle.ob_perm.specs.States.{States, states_max, all_states, within, without}
use Rattle.ob_perm.specs.Permissions.{Permission, owned, shared, unowned, owns, is_shared, fits, matches, kept, joined, on_states, permission_within, permission_without, possible}
use Rattle.ob_silica_places.specs.Converting.{gotten}
use Rattle.ob_silica_places.specs.Known.{unowned_under}
use Rattle.ob_flow_spec.specs.Joining.{same_mode}
use Rattle.ob_places_laws.specs.Serving.{AreAmong, Allows, AllowsState}
use Rattle.ob_places_laws.proofs.Sets.{among_itself, among_onward, union_left, union_right, within_at, within_from, without_at, without_from, within_among, without_among}
use Rattle.ob_places_laws.proofs.Permissions.{fits_owner, fits_from, matches_owner, matches_shared}

-- Order.

pub allows_itself : (p : Permission) → Allows p p
allows_itself (owned a) = (a, refl, among_itself a)
allows_itself shared = refl
allows_itself unowned = tt

pub allows_onward : (p q r : Permission) → Allows p q → Allows q r → Allows p r
allows_onward (owned a) q r (b, is, among) second =
    let next : Allows (owned b) r = subst (λ x. Allows x r) is second in
    (next.0, next.1, among_onward next.0 b a next.2 among)
allows_onward shared q r is second = subst (λ x. Allows x r) is second
allows_onward unowned q r first second = tt

-- An owner's permission is served by an owner's, and a Shared one by a Shared one.
pub allows_owner : (p q : Permission) → Allows p q → owns p ≡ true → owns q ≡ true
allows_owner (owned a) q (b, is, among) e = ap owns is
allows_owner shared q is e = absurd (true≢false (sym e))
allows_owner unowned q first e = absurd (true≢false (sym e))

pub allows_shared : (p q : Permission) → Allows p q → is_shared p ≡ true → q ≡ shared
allows_shared (owned a) q first e = absurd (true≢false (sym e))
allows_shared shared q is e = is
allows_shared unowned q first e = absurd (true≢false (sym e))

-- Where no owner serves, none is said.
pub allows_no_owner : (p q : Permission) → Allows p q → owns q ≡ false → owns p ≡ false
allows_no_owner (owned a) q (b, is, among) e = absurd (true≢false (sym (ap owns is) ∙ e))
allows_no_owner shared q is e = refl
allows_no_owner unowned q first e = refl

-- What matches or fits.

pub allows_matching : (p w : Permission) → matches p w ≡ true → Allows w p
allows_matching p (owned b) e = matches_owner p b e
allows_matching p shared e = matches_shared p e
allows_matching p unowned e = tt

pub allows_matched : (p q w : Permission) → Allows p q → matches p w ≡ true → Allows w q
allows_matched p q w first e = allows_onward w p q (allows_matching p w e) first

pub fits_allowed : (p q w : Permission) → Allows p q → fits p w ≡ true → fits q w ≡ true
fits_allowed (owned a) q (owned c) (b, is, among) e =
    let wanted = fits_owner (owned a) c e in
    let same : a ≡ wanted.0 = same_states a wanted.0 wanted.1 in
    subst (λ x. fits x (owned c) ≡ true) (sym is)
    (fits_from b c (among_onward b a c among (subst (λ x. AreAmong x c) (sym same) wanted.2)))
  where
    same_states : (a b : States) → owned a ≡ owned b → a ≡ b
    same_states a b e = cc
fits_allowed (owned a) q shared (b, is, among) e = subst (λ x. fits x shared ≡ true) (sym is) refl
fits_allowed shared q (owned c) is e = absurd (true≢false (sym e))
fits_allowed shared q shared is e = subst (λ x. fits x shared ≡ true) (sym is) refl
fits_allowed unowned q (owned c) first e = absurd (true≢false (sym e))
fits_allowed unowned q shared first e = absurd (true≢false (sym e))
fits_allowed p q unowned first e = refl

-- What a place gets of a permission that fits serves where its own is declared.
pub gotten_allows : (w p : Permission) → fits p w ≡ true → Allows w (gotten w p)
gotten_allows (owned b) p e = fits_owner p b e
gotten_allows shared p e = refl
gotten_allows unowned p e = tt

-- and what it gets of one that serves, serves where it gets the other
pub gotten_keeps : (w p q : Permission) → Allows p q → Allows (gotten w p) (gotten w q)
gotten_keeps (owned b) p q first = first
gotten_keeps shared p q first = refl
gotten_keeps unowned p q first = tt

-- What is kept, and what counts.

pub kept_keeps : (w p q : Permission) → Allows p q → Allows (kept p w) (kept q w)
kept_keeps (owned b) p q first = tt
kept_keeps shared p q first = refl
kept_keeps unowned p q first = first

pub under_keeps : (s t p q : Permission) → same_mode s t ≡ true → Allows p q
    → Allows (unowned_under s p) (unowned_under t q)
under_keeps (owned a) (owned b) p q e first = first
under_keeps (owned a) shared p q e first = absurd (true≢false (sym e))
under_keeps (owned a) unowned p q e first = absurd (true≢false (sym e))
under_keeps shared (owned b) p q e first = absurd (true≢false (sym e))
under_keeps shared shared p q e first = first
under_keeps shared unowned p q e first = absurd (true≢false (sym e))
under_keeps unowned (owned b) p q e first = absurd (true≢false (sym e))
under_keeps unowned shared p q e first = absurd (true≢false (sym e))
under_keeps unowned unowned (owned a) q e first = tt
under_keeps unowned unowned shared q e is = ap (unowned_under unowned) is
under_keeps unowned unowned unowned q e first = tt

-- What a place keeps that gives all of it, and one that gives all that counts of it.
pub kept_whole : (p q : Permission) → Allows p q → Allows (kept p p) (kept q q)
kept_whole (owned a) q first = tt
kept_whole shared q is = ap (λ x. kept x x) is
kept_whole unowned q first = tt

pub kept_counted : (s t p q : Permission) → same_mode s t ≡ true → Allows p q
    → Allows (kept p (unowned_under s p)) (kept q (unowned_under t q))
kept_counted (owned a) (owned b) p q e first = kept_whole p q first
kept_counted (owned a) shared p q e first = absurd (true≢false (sym e))
kept_counted (owned a) unowned p q e first = absurd (true≢false (sym e))
kept_counted shared (owned b) p q e first = absurd (true≢false (sym e))
kept_counted shared shared p q e first = kept_whole p q first
kept_counted shared unowned p q e first = absurd (true≢false (sym e))
kept_counted unowned (owned b) p q e first = absurd (true≢false (sym e))
kept_counted unowned shared p q e first = absurd (true≢false (sym e))
kept_counted unowned unowned (owned a) q e (b, is, among) =
    subst (λ x. Allows (owned a) (kept x (unowned_under unowned x))) (sym is) (b, refl, among)
kept_counted unowned unowned shared q e is = ap (λ x. kept x (unowned_under unowned x)) is
kept_counted unowned unowned unowned q e first = tt

-- After two branches.

pub joined_allows_left : (p q r : Permission) → Allows p r → Allows (joined p q) r
joined_allows_left (owned a) (owned b) r (c, is, among) = (c, is, λ i h e. union_left a b i (among i h e))
joined_allows_left (owned a) shared r first = tt
joined_allows_left (owned a) unowned r first = tt
joined_allows_left shared (owned b) r first = tt
joined_allows_left shared shared r is = is
joined_allows_left shared unowned r first = tt
joined_allows_left unowned (owned b) r first = tt
joined_allows_left unowned shared r first = tt
joined_allows_left unowned unowned r first = tt

pub joined_allows_right : (p q r : Permission) → Allows q r → Allows (joined p q) r
joined_allows_right (owned a) (owned b) r (c, is, among) = (c, is, λ i h e. union_right a b i (among i h e))
joined_allows_right (owned a) shared r first = tt
joined_allows_right (owned a) unowned r first = tt
joined_allows_right shared (owned b) r first = tt
joined_allows_right shared shared r is = is
joined_allows_right shared unowned r first = tt
joined_allows_right unowned (owned b) r first = tt
joined_allows_right unowned shared r first = tt
joined_allows_right unowned unowned r first = tt

pub joined_allows : (p q r : Permission) → Allows p r ⊎ Allows q r → Allows (joined p q) r
joined_allows p q r some = ⊎_elim (joined_allows_left p q r) (joined_allows_right p q r) some

-- Other states.

pub on_states_keeps : (f : States → States) → ((a b : States) → AreAmong b a → AreAmong (f b) (f a))
    → (p q : Permission)
    → Allows p q → Allows (on_states f p) (on_states f q)
on_states_keeps f more (owned a) q (b, is, among) = (f b, ap (on_states f) is, more a b among)
on_states_keeps f more shared q is = ap (on_states f) is
on_states_keeps f more unowned q first = tt

pub within_keeps : (p q : Permission) (s : ℕ) → Allows p q → Allows (permission_within p s) (permission_within q s)
within_keeps p q s first = on_states_keeps (λ a. within a s) (λ a b among. within_among b a s among) p q first

pub without_keeps : (p q : Permission) (s : ℕ) → Allows p q → Allows (permission_without p s) (permission_without q s)
without_keeps p q s first = on_states_keeps (λ a. without a s) (λ a b among. without_among b a s among) p q first

-- What is narrowed serves where the whole was said.
pub allows_within : (p : Permission) (s : ℕ) → Allows p (permission_within p s)
allows_within (owned a) s = (within a s, refl, λ i h e. (within_at a s i e).0)
allows_within shared s = refl
allows_within unowned s = tt

pub allows_without : (p : Permission) (s : ℕ) → Allows p (permission_without p s)
allows_without (owned a) s = (without a s, refl, λ i h e. (without_at a s i e).0)
allows_without shared s = refl
allows_without unowned s = tt

-- States.

-- A state that one permission allows is allowed by each that it serves.
pub allows_state_onward : (p q : Permission) (s : ℕ) → Allows p q → s < states_max → AllowsState q s → AllowsState p s
allows_state_onward (owned a) q s (b, is, among) low e = among s low (subst (λ x. AllowsState x s) is e)
allows_state_onward shared q s first low e = tt
allows_state_onward unowned q s first low e = tt

pub allows_state_fitting : (p w : Permission) (s : ℕ) → fits p w ≡ true → s < states_max → AllowsState p s
    → AllowsState w s
allows_state_fitting p (owned b) s e low h = allows_state_onward (owned b) p s (fits_owner p b e) low h
allows_state_fitting p shared s e low h = tt
allows_state_fitting p unowned s e low h = tt

pub allows_state_within : (p : Permission) (s : ℕ) → AllowsState p s → AllowsState (permission_within p s) s
allows_state_within (owned a) s e = within_from a s s e refl
allows_state_within shared s e = tt
allows_state_within unowned s e = tt

pub allows_state_without : (p : Permission) (s i : ℕ) → i ≢ s → AllowsState p i → AllowsState (permission_without p s) i
allows_state_without (owned a) s i other e = without_from a s i e other
allows_state_without shared s i other e = tt
allows_state_without unowned s i other e = tt

pub allows_state_under : (t p : Permission) (s : ℕ) → AllowsState p s → AllowsState (unowned_under t p) s
allows_state_under (owned b) p s e = e
allows_state_under shared p s e = e
allows_state_under unowned (owned a) s e = tt
allows_state_under unowned shared s e = tt
allows_state_under unowned unowned s e = tt

pub allows_state_kept : (p w : Permission) (s : ℕ) → AllowsState p s → AllowsState (kept p w) s
allows_state_kept p (owned b) s e = tt
allows_state_kept p shared s e = tt
allows_state_kept p unowned s e = e

pub allows_state_gotten : (w p : Permission) (s : ℕ) → AllowsState p s → AllowsState (gotten w p) s
allows_state_gotten (owned b) p s e = e
allows_state_gotten shared p s e = tt
allows_state_gotten unowned p s e = tt

pub allows_state_joined : (p q : Permission) (s : ℕ) → AllowsState p s ⊎ AllowsState q s → AllowsState (joined p q) s
allows_state_joined (owned a) (owned b) s some = ⊎_elim (union_left a b s) (union_right a b s) some
allows_state_joined (owned a) shared s some = tt
allows_state_joined (owned a) unowned s some = tt
allows_state_joined shared (owned b) s some = tt
allows_state_joined shared shared s some = tt
allows_state_joined shared unowned s some = tt
allows_state_joined unowned (owned b) s some = tt
allows_state_joined unowned shared s some = tt
allows_state_joined unowned unowned s some = tt

-- Where no owner is, nothing is said of states.
pub allows_any_state : (p : Permission) (s : ℕ) → owns p ≡ false → AllowsState p s
allows_any_state (owned a) s e = absurd (true≢false e)
allows_any_state shared s e = tt
allows_any_state unowned s e = tt

-- The state is among those that are possible: the owner's, or any of the contract's.
pub possible_at : (n : ℕ) (p : Permission) (s : ℕ) → AllowsState p s → (owns p ≡ false → all_states n s ≡ true)
    → possible n p s ≡ true
possible_at n (owned a) s e any = e
possible_at n shared s e any = any refl
possible_at n unowned s e any = any refl
