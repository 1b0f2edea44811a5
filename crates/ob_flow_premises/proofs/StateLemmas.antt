-- Changes of state, and ends of tests, turn by turn.
use Rattle.std.proofs.Common.{◌≡◌, ℕ, zero, suc, ◌+◌, ◌<◌, ⊎_elim, Bool, true, false, List, [], ◌∷◌, length, take, get_or, Option, Some, None, nat_eq, nat_lt, refl, ap, sym, ◌∙◌, arith, add-one, lt-ltb, le-ltb}
use Rattle.std.specs.Prelude.{not, ◌&&◌, ◌||◌, if◌then◌else◌}
use Rattle.std.proofs.Math.Path.{fun_ext}
use Rattle.std.proofs.lemmas.Bool.{cases_lt, eq-eqb, ne_eqb, eqb-true}
use Rattle.ob_base.specs.declared.id.StateId.{StateId}
use Rattle.ob_perm.specs.States.{only}
use Rattle.ob_perm.specs.Permissions.{owned, shared, owns}
use Rattle.ob_silica.specs.declared.place.Place.{Place}
use Rattle.ob_silica_places.specs.Known.{Known}
use Rattle.ob_silica_places.specs.Places.{Location, slot, field, this, same_location, location_of}
use Rattle.ob_flow_spec.specs.Contexts.{BodyFrame, Context, put, now, with_permission, permission_at, declared_known, available, field_count, TestedPlaces, is_tested}
use Rattle.ob_flow_spec.specs.Changing.{in_state}
use Rattle.ob_flow_spec.specs.Returning.{tests_ended}
use Rattle.ob_flow_context.specs.View.{tested_of}
use Rattle.ob_flow_context.proofs.TestedLemmas.{tested_turn}
use Rattle.ob_flow_premises.specs.Forms.{all_own}
use Rattle.ob_flow_premises.specs.Changes.{this_in_state, field_in_state, fields_in_state}

-- Places under test.

pub all_own_turn : (g : Context) (xs : List Place) (i : ℕ) (x : Place) → i < length xs → x ≡ get_or xs i x
    → all_own g (tested_of (take (i + 1) xs)) ≡ (owns (permission_at g (location_of x)) && all_own g (tested_of (take i xs)))
all_own_turn g xs i x h is = ap (all_own g) (tested_turn xs i x h is)

twice : (x : Option Known) (b : Bool) → with_permission shared (if b then with_permission shared x else x) ≡ with_permission shared x
twice None true = refl
twice None false = refl
twice (Some x) true = refl
twice (Some x) false = refl

same_so : (p q : Location) → same_location p q ≡ true → p ≡ q
same_so (slot j) (slot k) e = ap slot (eqb-true j k e)
same_so (slot j) (field k) e = absurd cc
same_so (field j) (slot k) e = absurd cc
same_so (field j) (field k) e = ap field (eqb-true j k e)

ended_at : (ts : TestedPlaces) (q : Location) (g : Context) (p : Location) (b : Bool) → same_location p q ≡ b
    → (if (b || is_tested ts p) then with_permission shared (g p) else g p)
    ≡ (if b then with_permission shared (tests_ended ts g q) else tests_ended ts g p)
ended_at ts q g p true e =
    ap (λ r. with_permission shared (g r)) (same_so p q e) ∙ sym (twice (g q) (is_tested ts q))
ended_at ts q g p false e = refl

ended_more : (ts : TestedPlaces) (q : Location) (g : Context) → tests_ended (q ∷ ts) g ≡ now (tests_ended ts g) q shared
ended_more ts q g = fun_ext (λ p. ended_at ts q g p (same_location p q) refl)

pub ended_turn : (g : Context) (xs : List Place) (i : ℕ) (x : Place) → i < length xs → x ≡ get_or xs i x
    → tests_ended (tested_of (take (i + 1) xs)) g ≡ now (tests_ended (tested_of (take i xs)) g) (location_of x) shared
ended_turn g xs i x h is =
    ap (λ ts. tests_ended ts g) (tested_turn xs i x h is) ∙ ended_more (tested_of (take i xs)) (location_of x) g

-- one more test ends
pub ended_next : (g before next : Context) (xs : List Place) (i : ℕ) (x : Place) → i < length xs → x ≡ get_or xs i x
    → before ≡ tests_ended (tested_of (take i xs)) g → next ≡ now before (location_of x) shared
    → next ≡ tests_ended (tested_of (take (i + 1) xs)) g
ended_next g before next xs i x h is e n =
    n ∙ ap (λ f. now f (location_of x) shared) e ∙ sym (ended_turn g xs i x h is)

get_or_same : (xs : List Place) (i : ℕ) (d : Place) → i < length xs → get_or xs i d ≡ get_or xs i (get_or xs i d)
get_or_same [] i d h = absurd (omega arith)
get_or_same (x ∷ xs) zero d h = refl
get_or_same (x ∷ xs) (suc i) d h = get_or_same xs i d (omega arith)

pub ended_at_number : (g before next : Context) (xs : List Place) (i : ℕ) (d : Place) → i < length xs
    → before ≡ tests_ended (tested_of (take i xs)) g → next ≡ now before (location_of (get_or xs i d)) shared
    → next ≡ tests_ended (tested_of (take (i + 1) xs)) g
ended_at_number g before next xs i d h e n =
    ended_next g before next xs i (get_or xs i d) h (get_or_same xs i d h) e n

-- What holds in a state.

pub fields_turn : (b : BodyFrame) (s : StateId) (n : ℕ) (g : Context)
    → fields_in_state b s (n + 1) g ≡ field_in_state b s n (fields_in_state b s n g)
fields_turn b s n g = ap (λ m. fields_in_state b s m g) (add-one n)

slot_kept : (b : BodyFrame) (s : StateId) (n k : ℕ) (g : Context) (c : Bool)
    → (if c then g else put g (field n) (Some (declared_known b n))) (slot k) ≡ g (slot k)
slot_kept b s n k g true = refl
slot_kept b s n k g false = refl

slots_kept : (b : BodyFrame) (s : StateId) (n k : ℕ) (g : Context) → fields_in_state b s n g (slot k) ≡ g (slot k)
slots_kept b s zero k g = refl
slots_kept b s (suc n) k g =
    slot_kept b s n k (fields_in_state b s n g) (available b n s.0) ∙ slots_kept b s n k g

-- a field below this number
below : BodyFrame → StateId → ℕ → ℕ → Context → Option Known
below b s n f g = if nat_lt f n && not (available b f s.0) then Some (declared_known b f) else g (field f)

field_set : (b : BodyFrame) (n f : ℕ) (g : Context) (c : Bool)
    → (if c then g else put g (field n) (Some (declared_known b n))) (field f)
    ≡ (if (nat_eq f n && not c) then Some (declared_known b n) else g (field f))
field_set b n f g true = by (nat_eq f n)
  where
    by : (e : Bool) → g (field f) ≡ (if (e && false) then Some (declared_known b n) else g (field f))
    by true = refl
    by false = refl
field_set b n f g false = by (nat_eq f n)
  where
    by : (e : Bool) → (if e then Some (declared_known b n) else g (field f)) ≡ (if (e && true) then Some (declared_known b n) else g (field f))
    by true = refl
    by false = refl

fields_set : (b : BodyFrame) (s : StateId) (n f : ℕ) (g : Context) → fields_in_state b s n g (field f) ≡ below b s n f g
unfolding below
fields_set b s zero f g = ap (λ c. if (c && not (available b f s.0)) then Some (declared_known b f) else g (field f)) (sym (le-ltb f 0 (omega arith)))
fields_set b s (suc n) f g =
    field_set b n f (fields_in_state b s n g) (available b n s.0)
    ∙ ap (λ x. if (nat_eq f n && not (available b n s.0)) then Some (declared_known b n) else x) (fields_set b s n f g)
    ∙ step b s n f g
  where
    step : (b : BodyFrame) (s : StateId) (n f : ℕ) (g : Context)
        → (if (nat_eq f n && not (available b n s.0)) then Some (declared_known b n)
        else (if (nat_lt f n && not (available b f s.0)) then Some (declared_known b f) else g (field f)))
        ≡ (if (nat_lt f (suc n) && not (available b f s.0)) then Some (declared_known b f) else g (field f))
    step b s n f g = ⊎_elim
        (λ less. rw (ne_eqb f n (λ e. omega (arith, e, less)), lt-ltb f n less, lt-ltb f (suc n) (omega (arith, less))) refl)
        (λ more. ⊎_elim
        (λ above. rw (ne_eqb f n (λ e. omega (arith, e, above)), le-ltb f n (omega (arith, above)), le-ltb f (suc n) (omega (arith, above))) refl)
        (λ last. let same : f ≡ n = omega (arith, more, last) in
        rw same (rw (eq-eqb n n refl, le-ltb n n (omega arith), lt-ltb n (suc n) (omega arith)) refl))
        (cases_lt n f))
        (cases_lt f n)

owner_set : (s : StateId) (g : Context) (k : ℕ) (c e : Bool) → nat_eq k 0 ≡ e
    → (if c then now g this (owned (only s.0)) else g) (slot k)
    ≡ (if (e && c) then with_permission (owned (only s.0)) (g (slot k)) else g (slot k))
owner_set s g k true true e = rw e (ap (λ j. with_permission (owned (only s.0)) (g (slot j))) (sym (eqb-true k 0 e)))
owner_set s g k true false e = rw e refl
owner_set s g k false true e = refl
owner_set s g k false false e = refl

owner_field : (s : StateId) (g : Context) (f : ℕ) (c : Bool) → (if c then now g this (owned (only s.0)) else g) (field f) ≡ g (field f)
owner_field s g f true = refl
owner_field s g f false = refl

pub in_state_is : (b : BodyFrame) (s : StateId) (g : Context) → in_state b s g ≡ fields_in_state b s (field_count b) (this_in_state s g)
unfolding below
in_state_is b s g = fun_ext by
  where
    by : (q : Location) → in_state b s g q ≡ fields_in_state b s (field_count b) (this_in_state s g) q
    by (slot k) =
        sym (slots_kept b s (field_count b) k (this_in_state s g) ∙ owner_set s g k (owns (permission_at g this)) (nat_eq k 0) refl)
    by (field f) =
        sym (fields_set b s (field_count b) f (this_in_state s g)
        ∙ ap (λ x. if (nat_lt f (field_count b) && not (available b f s.0)) then Some (declared_known b f) else x)
        (owner_field s g f (owns (permission_at g this))))
