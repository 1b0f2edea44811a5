-- What holds where a change of state derives.
use Rattle.std.proofs.Common.{◌≡◌, ℕ, ◌<◌, List, [], ◌∷◌, ◌++◌, Bool, true, false, Option, Some, None, Contains, refl, subst}
use Rattle.std.specs.Prelude.{not, ◌&&◌, ◌||◌, if◌then◌else◌}
use Rattle.ob_base.specs.Faults.{view_changes}
use Rattle.ob_base.specs.declared.fault.Span.{Span}
use Rattle.ob_base.specs.declared.id.StateId.{StateId}
use Rattle.ob_perm.specs.Permissions.{is_shared, is_unowned}
use Rattle.ob_silica.specs.declared.place.Given.{Given}
use Rattle.ob_silica_places.specs.Places.{field, this, same_location}
use Rattle.ob_flow_spec.specs.Premises.{Premise, one, each, for_all}
use Rattle.ob_flow_spec.specs.Contexts.{BodyFrame, field_count, available, declared_permission, Context, permission_at, is_set, is_held_as, accessible, maybe_there, owns_asset, TestedPlaces, is_tested}
use Rattle.ob_flow_spec.specs.Binding.{read_of}
use Rattle.ob_flow_spec.specs.Filling.{fills_field, after_fill}
use Rattle.ob_flow_spec.specs.Changing.{given_from, given_at, is_given, is_of_state, has_value, takes_owner, fills_owner, fills_once, tested_field, stays_under_test, fills_all, filled_all, overwrites_none, loses_none, shares_as_declared, refilled, changes_state}
use Rattle.ob_flow_laws.specs.Premises.{Hold}
use Rattle.ob_flow_laws.specs.Changing.{HasValue, FillsNew, FillOnce, StaysUnderTest, CanFillAll, CanChange}
use Rattle.ob_flow_laws.proofs.Tests.{isnt, where_first, second_of, never_both, neither, both_of}
use Rattle.ob_flow_laws.proofs.Premises.{both_hold, each_holds, for_all_holds}
use Rattle.ob_flow_laws.proofs.Filling.{can_fill}

pub value_there : (b : BodyFrame) (g : Context) (at : Span) (s : StateId) (xs : List Given) (f : ℕ)
    → Hold (has_value b g at s xs f) → available b f s.0 ≡ true → is_given f xs ≡ false → HasValue b g f
value_there b g at s xs f h t n =
    let r = both_of (accessible b g f) (is_set (g (field f)))
    (second_of (is_given f xs) _ (where_first (available b f s.0) _ h.0 t) n) in
    record { reached = r.0; set = r.1 }

pub fill_once : (b : BodyFrame) (before xs : List Given) → Hold (fills_once b before xs) → FillOnce b before xs
fill_once b before [] h = tt
fill_once b before (x ∷ xs) h = (λ t. fills_new b before x h.0 t, fill_once b (x ∷ before) xs h.1)
  where
    first_so : (a c : Bool) → not (a && c) ≡ true → a ≡ true → not c ≡ true
    first_so true c k t = k
    first_so false c k t = absurd (cc)

    fills_new : (b : BodyFrame) (before : List Given) (x : Given)
        → not (takes_owner b x && (same_location (given_from x) this || fills_owner b (given_from x) before)) ≡ true
        → takes_owner b x ≡ true → FillsNew b before x
    fills_new b before x k t =
        let r = neither (same_location (given_from x) this) (fills_owner b (given_from x) before)
        (first_so (takes_owner b x) _ k t) in
        record { no_this = r.0; fills_none = r.1 }

stays_so : (b : BodyFrame) (at : Span) (s : StateId) (xs : List Given) (f : ℕ) (x : Option Given) → given_at f xs ≡ x
    → Hold (tested_field b at s f x) → StaysUnderTest b s xs f
stays_so b at s xs f (Some x) e h = absurd (let z = h.0 in cc)
stays_so b at s xs f None e h = record { not_given = e; there = h.0 }

pub stays : (b : BodyFrame) (ts : TestedPlaces) (at : Span) (s : StateId) (xs : List Given) (f : ℕ)
    → Hold (stays_under_test b ts at s xs f) → is_tested ts (field f) ≡ true → StaysUnderTest b s xs f
stays b ts at s xs f h t =
    stays_so b at s xs f (given_at f xs) refl
    (subst (λ c. Hold (if c then tested_field b at s f (given_at f xs) else [])) t h)

pub can_fill_all : (b : BodyFrame) (ts : TestedPlaces) (g : Context) (at : Span) (xs : List Given)
    → Hold (fills_all b ts g at xs) → CanFillAll b ts g xs
can_fill_all b ts g at [] h = tt
can_fill_all b ts g at (x ∷ xs) h =
    let after = after_fill b g x.field.0 (given_from x) in
    let r = both_hold (fills_field b ts g at x.field.0 (read_of x.from)) (fills_all b ts after at xs) h in
    (can_fill b ts g at x.field.0 (read_of x.from) r.0, can_fill_all b ts after at xs r.1)

-- what is asked up to the values of other fields
abbrev to_values : BodyFrame → Context → Span → StateId → List Given → List Premise
to_values b g at s xs =
    one view_changes at (not (is_unowned (permission_at g this)))
    ++ for_all xs (is_of_state b s)
    ++ each (field_count b) (has_value b g at s xs)

-- what is asked up to the fields that are filled
abbrev to_filled : BodyFrame → TestedPlaces → Context → Span → StateId → List Given → List Premise
to_filled b ts g at s xs =
    to_values b g at s xs ++ fills_once b [] xs ++ each (field_count b) (stays_under_test b ts at s xs)
    ++ fills_all b ts g at xs

-- what holds up to the fields that are filled
record IsFilled (b : BodyFrame) (ts : TestedPlaces) (g : Context) (s : StateId) (xs : List Given) : Type 0 where
  pub changes : is_unowned (permission_at g this) ≡ false
  pub of_state : (x : Given) → Contains xs x → available b x.field.0 s.0 ≡ true
  pub values : (f : ℕ) → f < field_count b → available b f s.0 ≡ true → is_given f xs ≡ false → HasValue b g f
  pub once : FillOnce b [] xs
  pub stays : (f : ℕ) → f < field_count b → is_tested ts (field f) ≡ true → StaysUnderTest b s xs f
  pub fills : CanFillAll b ts g xs

is_filled : (b : BodyFrame) (ts : TestedPlaces) (g : Context) (at : Span) (s : StateId) (xs : List Given)
    → Hold (to_filled b ts g at s xs) → IsFilled b ts g s xs
is_filled b ts g at s xs h =
    let tested = each (field_count b) (stays_under_test b ts at s xs) in
    let fills = both_hold (to_values b g at s xs ++ fills_once b [] xs ++ tested) (fills_all b ts g at xs) h in
    let tests = both_hold (to_values b g at s xs ++ fills_once b [] xs) tested fills.0 in
    let once = both_hold (to_values b g at s xs) (fills_once b [] xs) tests.0 in
    let values = both_hold (for_all xs (is_of_state b s)) (each (field_count b) (has_value b g at s xs)) once.0.1 in
    record {
      changes = isnt (is_unowned (permission_at g this)) once.0.0;
      of_state = λ x c. (for_all_holds xs (is_of_state b s) values.0 x c).0;
      values = λ f lt. value_there b g at s xs f (each_holds (field_count b) (has_value b g at s xs) values.1 f lt);
      once = fill_once b [] xs once.1;
      stays = λ f lt. stays b ts at s xs f (each_holds (field_count b) (stays_under_test b ts at s xs) tests.1 f lt);
      fills = can_fill_all b ts g at xs fills.1;
    }

pub can_change : (b : BodyFrame) (ts : TestedPlaces) (g : Context) (at : Span) (s : StateId) (xs : List Given)
    → Hold (changes_state b ts g at s xs) → CanChange b ts g s xs
can_change b ts g at s xs h =
    let filled = filled_all b g xs in
    let over = overwrites_none b (filled_all b g xs) in
    let loses = loses_none b (filled_all b g xs) at s in
    let shares = shares_as_declared b (filled_all b g xs) (refilled b g xs) in
    let declared = both_hold (to_filled b ts g at s xs ++ for_all xs over ++ each (field_count b) loses)
    (for_all xs shares) h in
    let lost = both_hold (to_filled b ts g at s xs ++ for_all xs over) (each (field_count b) loses) declared.0 in
    let first = both_hold (to_filled b ts g at s xs) (for_all xs over) lost.0 in
    let k = is_filled b ts g at s xs first.0 in
    record {
      changes = k.changes;
      of_state = k.of_state;
      values = k.values;
      once = k.once;
      stays = k.stays;
      fills = k.fills;
      overwrites_none = λ x c. never_both (maybe_there b filled x.field.0) (owns_asset b filled (field x.field.0))
          (for_all_holds xs over first.1 x c).0;
      loses_none = λ f lt away. never_both (maybe_there b filled f) (owns_asset b filled (field f))
          (second_of (available b f s.0) _ (each_holds (field_count b) loses lost.1 f lt).0 away);
      as_declared = λ x c t. second_of (accessible b filled x.field.0)
          (is_held_as (refilled b g xs (field x.field.0)) (declared_permission b x.field.0))
          (where_first (is_shared (permission_at filled this)) _ (for_all_holds xs shares declared.1 x c).0 t);
    }
