-- What given fields get in a change of state, and what it is asked for.
use Rattle.std.proofs.Common.{◌≡◌, suc, List, [], ◌∷◌, length, Option, None, subst, refl, ap, sym, ◌∙◌}
use Rattle.ob_base.specs.declared.fault.Span.{Span}
use Rattle.ob_base.specs.declared.id.StateId.{StateId}
use Rattle.ob_silica.specs.declared.place.Given.{Given}
use Rattle.ob_silica_places.specs.Places.{field}
use Rattle.ob_flow_spec.specs.Premises.{first_failing}
use Rattle.ob_flow_spec.specs.Contexts.{BodyFrame, Context, put, TestedPlaces}
use Rattle.ob_flow_spec.specs.Changing.{given_from, got_all, filled_all, refilled, changes_state}
use Rattle.ob_flow_spec.specs.Filling.{after_fill, got}
use Rattle.ob_base.specs.declared.text_error.TextError.{TextError}
use Rattle.ob_flow_context.specs.Checking.{FailsPremises}
use Rattle.ob_flow_context.specs.View.{all_known}
use Rattle.ob_flow_context.specs.declared.context.Known.{Known as KnownOfPlace}
use Rattle.ob_flow_premises.specs.Forms.{all_got, put_got}
use Rattle.ob_flow.specs.Changes.{may_change_to, refills_and_shares}

pub got_all_is : (b : BodyFrame) (g : Context) (xs : List Given) (h : Context) → got_all b g xs h ≡ put_got h xs (all_got b g xs)
got_all_is b g [] h = refl
got_all_is b g (x ∷ xs) h =
    got_all_is b (after_fill b g x.field.0 (given_from x)) xs (put h (field x.field.0) (got b g x.field.0 (given_from x)))

pub all_got_long : (b : BodyFrame) (g : Context) (xs : List Given) → length (all_got b g xs) ≡ length xs
all_got_long b g [] = refl
all_got_long b g (x ∷ xs) = ap suc (all_got_long b (after_fill b g x.field.0 (given_from x)) xs)

known_long : (ks : List (Option KnownOfPlace)) → length (all_known ks) ≡ length ks
known_long [] = refl
known_long (k ∷ ks) = ap suc (known_long ks)

pub as_long : (b : BodyFrame) (g : Context) (xs : List Given) (ks : List (Option KnownOfPlace)) → all_known ks ≡ all_got b g xs
    → length ks ≡ length xs
as_long b g xs ks e = sym (known_long ks) ∙ ap length e ∙ all_got_long b g xs

-- the fields have what they get
pub refilled_is : (b : BodyFrame) (g h : Context) (xs : List Given) (ks : List (Option KnownOfPlace)) → h ≡ filled_all b g xs
    → all_known ks ≡ all_got b g xs → put_got h xs (all_known ks) ≡ refilled b g xs
refilled_is b g h xs ks f e =
    ap (put_got h xs) e ∙ ap (λ i. put_got i xs (all_got b g xs)) f ∙ sym (got_all_is b g xs (filled_all b g xs))

pub ruleset refilling = (as_long, refilled_is)

-- the premises of a change of state
changes_are : (b : BodyFrame) (ts : TestedPlaces) (g : Context) (at : Span) (s : StateId) (xs : List Given)
    → changes_state b ts g at s xs ≡ refills_and_shares b ts g at s xs
unfolding may_change_to
changes_are b ts g at s xs = refl

pub change_fails : (b : BodyFrame) (ts : TestedPlaces) (g : Context) (at : Span) (s : StateId) (xs : List Given) (e : TextError)
    → FailsPremises e (refills_and_shares b ts g at s xs) → FailsPremises e (changes_state b ts g at s xs)
change_fails b ts g at s xs e h = subst (FailsPremises e) (sym (changes_are b ts g at s xs)) h

pub change_holds : (b : BodyFrame) (ts : TestedPlaces) (g : Context) (at : Span) (s : StateId) (xs : List Given)
    → first_failing (refills_and_shares b ts g at s xs) ≡ None → first_failing (changes_state b ts g at s xs) ≡ None
change_holds b ts g at s xs h = ap first_failing (changes_are b ts g at s xs) ∙ h

pub ruleset changing = (change_fails, change_holds)
