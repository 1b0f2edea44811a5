-- Given fields, turn by turn.
use Rattle.std.proofs.Common.{◌≡◌, ℕ, zero, suc, ◌+◌, ◌<◌, ◌≤◌, Bool, true, false, List, [], ◌∷◌, ◌++◌, length, map, take, drop, reverse, get_or, subst, Option, Some, None, cond, nat_eq, refl, ap, sym, ◌∙◌, arith, add-one, drop-cons, append_assoc, append-nil}
use Rattle.std.specs.Prelude.{◌&&◌, ◌||◌, option_map}
use Rattle.std.proofs.Math.ListN.{drop_of_length-le}
use Rattle.std.proofs.Math.Seq.{take-suc}
use Rattle.std.proofs.lemmas.List.{reverse-append, take_all}
use Rattle.ob_base.specs.declared.fault.Span.{Span}
use Rattle.ob_silica.specs.declared.place.Given.{Given}
use Rattle.ob_silica.specs.declared.place.Place.TheVariants.{This}
use Rattle.ob_silica_places.specs.Known.{Known}
use Rattle.ob_silica_places.specs.Places.{Location, field, same_location}
use Rattle.ob_flow_spec.specs.Premises.{Premise, first_failing}
use Rattle.ob_flow_spec.specs.Contexts.{BodyFrame, Context, TestedPlaces, put}
use Rattle.ob_flow_spec.specs.Binding.{read_of}
use Rattle.ob_flow_spec.specs.Filling.{fills_field, after_fill, got}
use Rattle.ob_flow_spec.specs.Changing.{given_from, given_at, takes_owner, fills_owner, fills_once, fills_all, filled_all}
use Rattle.ob_base.specs.declared.text_error.TextError.{TextError}
use Rattle.ob_flow_context.specs.declared.context.Known.{Known as KnownOfPlace}
use Rattle.ob_flow_context.specs.Checking.{FailsPremises}
use Rattle.ob_flow_context.specs.View.{known_of, all_known}
use Rattle.ob_flow_context.proofs.PremiseLemmas.{holds_more, fails_first, fails_same}
use Rattle.ob_flow_premises.specs.Forms.{all_got, put_got}
use Rattle.ob_flow_premises.specs.Changes.{fills_once_at}

rest : (xs : List Given) (i : ℕ) (x : Given) → i < length xs → x ≡ get_or xs i x → drop i xs ≡ x ∷ drop (i + 1) xs
rest xs i x h is = rw add-one (drop-cons xs i x h ∙ ap (λ y. y ∷ drop (suc i) xs) (sym is))

front : (xs : List Given) (i : ℕ) (x : Given) → i < length xs → x ≡ get_or xs i x → take (i + 1) xs ≡ take i xs ++ x ∷ []
front xs i x h is = rw add-one (take-suc xs i x h ∙ ap (λ y. take i xs ++ y ∷ []) (sym is))

back : (xs : List Given) (i : ℕ) (x : Given) → i < length xs → x ≡ get_or xs i x
    → reverse (take (i + 1) xs) ≡ x ∷ reverse (take i xs)
back xs i x h is = ap reverse (front xs i x h is) ∙ reverse-append (take i xs) (x ∷ [])

-- The first of a number.

here : (xs : List Given) (i f : ℕ) (x : Given) → i < length xs → x ≡ get_or xs i x
    → given_at f (drop i xs) ≡ cond (nat_eq x.field.0 f) (Some x) (given_at f (drop (i + 1) xs))
here xs i f x h is = ap (given_at f) (rest xs i x h is)

pub given_found : (xs : List Given) (i f : ℕ) (x : Given) → i < length xs → x ≡ get_or xs i x
    → nat_eq x.field.0 f ≡ true → given_at f (drop i xs) ≡ Some x
given_found xs i f x h is e = here xs i f x h is ∙ ap (λ b. cond b (Some x) (given_at f (drop (i + 1) xs))) e

pub given_passed : (xs : List Given) (i f : ℕ) (x : Given) → i < length xs → x ≡ get_or xs i x
    → nat_eq x.field.0 f ≡ false → given_at f (drop i xs) ≡ given_at f (drop (i + 1) xs)
given_passed xs i f x h is e = here xs i f x h is ∙ ap (λ b. cond b (Some x) (given_at f (drop (i + 1) xs))) e

pub given_end : (xs : List Given) (i f : ℕ) → length xs ≤ i → given_at f (drop i xs) ≡ None
given_end xs i f h = ap (given_at f) (drop_of_length-le xs h)

pub ruleset givens = (given_found, given_passed, given_end)

-- Fields that want an owner.

pub fills_owner_turn : (b : BodyFrame) (p : Location) (xs : List Given) (i : ℕ) (x : Given) → i < length xs → x ≡ get_or xs i x
    → fills_owner b p (reverse (take (i + 1) xs))
    ≡ ((same_location p (given_from x) && takes_owner b x) || fills_owner b p (reverse (take i xs)))
fills_owner_turn b p xs i x h is = ap (fills_owner b p) (back xs i x h is)

pub ruleset owners = (fills_owner_turn, take_all)

-- what is left to ask of the given fields from this number on
pub once_from : BodyFrame → List Given → ℕ → List Premise
once_from b xs i = fills_once b (reverse (take i xs)) (drop i xs)

once_here : (b : BodyFrame) (xs : List Given) (i : ℕ) (x : Given) → i < length xs → x ≡ get_or xs i x
    → once_from b xs i ≡ fills_once_at b (reverse (take i xs)) x ++ once_from b xs (i + 1)
unfolding once_from
once_here b xs i x h is =
    ap (fills_once b (reverse (take i xs))) (rest xs i x h is)
    ∙ ap (λ before. fills_once_at b (reverse (take i xs)) x ++ fills_once b before (drop (i + 1) xs)) (sym (back xs i x h is))

pub once_none : (b : BodyFrame) (xs : List Given) → first_failing (fills_once b [] xs) ≡ first_failing (once_from b xs 0)
unfolding once_from
once_none b xs = refl

pub once_turn : (b : BodyFrame) (xs : List Given) (i : ℕ) (x : Given) → i < length xs → x ≡ get_or xs i x
    → first_failing (fills_once_at b (reverse (take i xs)) x) ≡ None
    → first_failing (once_from b xs i) ≡ first_failing (once_from b xs (i + 1))
once_turn b xs i x h is f = ap first_failing (once_here b xs i x h is) ∙ holds_more (fills_once_at b (reverse (take i xs)) x) (once_from b xs (i + 1)) f

pub once_fails : (b : BodyFrame) (xs : List Given) (i : ℕ) (x : Given) (e : TextError) → i < length xs → x ≡ get_or xs i x
    → FailsPremises e (fills_once_at b (reverse (take i xs)) x) → FailsPremises e (once_from b xs i)
once_fails b xs i x e h is f = rw (once_here b xs i x h is) (fails_first (fills_once_at b (reverse (take i xs)) x) (once_from b xs (i + 1)) e f)

pub once_end : (b : BodyFrame) (xs : List Given) (i : ℕ) → length xs ≤ i → first_failing (once_from b xs i) ≡ None
unfolding once_from
once_end b xs i h = ap (λ ys. first_failing (fills_once b (reverse (take i xs)) ys)) (drop_of_length-le xs h)

-- What the given fields get.

rest_known : (ks : List (Option KnownOfPlace)) (i : ℕ) (k : Option KnownOfPlace) → i < length ks → k ≡ get_or ks i k
    → drop i ks ≡ k ∷ drop (i + 1) ks
rest_known ks i k h is = rw add-one (drop-cons ks i k h ∙ ap (λ y. y ∷ drop (suc i) ks) (sym is))

pub put_turn : (h : Context) (xs : List Given) (ks : List (Option KnownOfPlace)) (i : ℕ) (x : Given) (k : Option KnownOfPlace)
    → i < length xs → i < length ks → x ≡ get_or xs i x → k ≡ get_or ks i k
    → put_got h (drop i xs) (all_known (drop i ks))
    ≡ put_got (put h (field x.field.0) (option_map known_of k)) (drop (i + 1) xs) (all_known (drop (i + 1) ks))
put_turn h xs ks i x k lt lk is it =
    ap (λ ys. put_got h ys (all_known (drop i ks))) (rest xs i x lt is)
    ∙ ap (λ ls. put_got h (x ∷ drop (i + 1) xs) (all_known ls)) (rest_known ks i k lk it)

pub put_end : (h : Context) (xs : List Given) (ks : List (Option KnownOfPlace)) (i : ℕ) → length xs ≤ i
    → put_got h (drop i xs) (all_known (drop i ks)) ≡ h
put_end h xs ks i le = ap (λ ys. put_got h ys (all_known (drop i ks))) (drop_of_length-le xs le)

-- Fields filled one after another: what is left from this number on.

pub known_push : (ks : List (Option KnownOfPlace)) (k : Option KnownOfPlace)
    → all_known (ks ++ k ∷ []) ≡ all_known ks ++ option_map known_of k ∷ []
known_push [] k = refl
known_push (x ∷ ks) k = ap (λ ys. option_map known_of x ∷ ys) (known_push ks k)

pub asks_turn : (b : BodyFrame) (ts : TestedPlaces) (at : Span) (xs : List Given) (now next : Context) (i : ℕ) (x : Given)
    → i < length xs → x ≡ get_or xs i x
    → first_failing (fills_field b ts now at x.field.0 (read_of x.from)) ≡ None → next ≡ after_fill b now x.field.0 (given_from x)
    → first_failing (fills_all b ts now at (drop i xs)) ≡ first_failing (fills_all b ts next at (drop (i + 1) xs))
asks_turn b ts at xs now next i x h is holds after =
    ap (λ ys. first_failing (fills_all b ts now at ys)) (rest xs i x h is)
    ∙ holds_more (fills_field b ts now at x.field.0 (read_of x.from)) (fills_all b ts (after_fill b now x.field.0 (given_from x)) at (drop (i + 1) xs)) holds
    ∙ ap (λ g. first_failing (fills_all b ts g at (drop (i + 1) xs))) (sym after)

pub leaves_turn : (b : BodyFrame) (xs : List Given) (now next : Context) (i : ℕ) (x : Given) → i < length xs → x ≡ get_or xs i x
    → next ≡ after_fill b now x.field.0 (given_from x) → filled_all b now (drop i xs) ≡ filled_all b next (drop (i + 1) xs)
leaves_turn b xs now next i x h is after =
    ap (filled_all b now) (rest xs i x h is) ∙ ap (λ g. filled_all b g (drop (i + 1) xs)) (sym after)

pub gets_turn : (b : BodyFrame) (xs : List Given) (now next : Context) (i : ℕ) (x : Given) (ks more : List (Option Known))
    → i < length xs → x ≡ get_or xs i x → next ≡ after_fill b now x.field.0 (given_from x)
    → more ≡ ks ++ got b now x.field.0 (given_from x) ∷ []
    → ks ++ all_got b now (drop i xs) ≡ more ++ all_got b next (drop (i + 1) xs)
gets_turn b xs now next i x ks more h is after add =
    ap (λ ys. ks ++ all_got b now ys) (rest xs i x h is)
    ∙ ap (λ g. ks ++ got b now x.field.0 (given_from x) ∷ all_got b g (drop (i + 1) xs)) (sym after)
    ∙ sym (ap (λ ys. ys ++ all_got b next (drop (i + 1) xs)) add
    ∙ append_assoc ks (got b now x.field.0 (given_from x) ∷ []) (all_got b next (drop (i + 1) xs)))

pub fills_fail : (b : BodyFrame) (ts : TestedPlaces) (at : Span) (xs : List Given) (now : Context) (i : ℕ) (x : Given) (e : TextError)
    → i < length xs → x ≡ get_or xs i x → FailsPremises e (fills_field b ts now at x.field.0 (read_of x.from))
    → FailsPremises e (fills_all b ts now at (drop i xs))
fills_fail b ts at xs now i x e h is fails =
    subst (λ ys. FailsPremises e (fills_all b ts now at ys)) (sym (rest xs i x h is))
    (fails_first (fills_field b ts now at x.field.0 (read_of x.from))
    (fills_all b ts (after_fill b now x.field.0 (given_from x)) at (drop (i + 1) xs)) e fails)

pub asks_end : (b : BodyFrame) (ts : TestedPlaces) (at : Span) (xs : List Given) (now : Context) (i : ℕ) → length xs ≤ i
    → first_failing (fills_all b ts now at (drop i xs)) ≡ None
asks_end b ts at xs now i le = ap (λ ys. first_failing (fills_all b ts now at ys)) (drop_of_length-le xs le)

pub leaves_end : (b : BodyFrame) (xs : List Given) (now : Context) (i : ℕ) → length xs ≤ i → filled_all b now (drop i xs) ≡ now
leaves_end b xs now i le = ap (filled_all b now) (drop_of_length-le xs le)

pub gets_end : (b : BodyFrame) (xs : List Given) (now : Context) (i : ℕ) (ks : List (Option Known)) → length xs ≤ i
    → ks ++ all_got b now (drop i xs) ≡ ks
gets_end b xs now i ks le = ap (λ ys. ks ++ all_got b now ys) (drop_of_length-le xs le) ∙ append-nil ks

-- The same of the things of the list, by number.

get_or_same : {A : Type 0} (xs : List A) (i : ℕ) (d : A) → i < length xs → get_or xs i d ≡ get_or xs i (get_or xs i d)
get_or_same [] i d h = absurd (omega arith)
get_or_same (x ∷ xs) zero d h = refl
get_or_same (x ∷ xs) (suc i) d h = get_or_same xs i d (omega arith)

abbrev nowhere : Span
nowhere = record { start = 0; end = 0; line = 0; column = 0 }

-- what stands past the end
abbrev pub blank : Given
blank = record { field = record { 0 = 0 }; span = nowhere; from = record { place = This; span = nowhere } }

pub once_turn_at : (b : BodyFrame) (xs : List Given) (i : ℕ) → i < length xs
    → first_failing (fills_once_at b (reverse (take i xs)) (get_or xs i blank)) ≡ None
    → first_failing (once_from b xs i) ≡ first_failing (once_from b xs (i + 1))
once_turn_at b xs i h f = once_turn b xs i (get_or xs i blank) h (get_or_same xs i blank h) f

pub once_fails_at : (b : BodyFrame) (xs : List Given) (i : ℕ) (e : TextError) → i < length xs
    → first_failing (fills_once b [] xs) ≡ first_failing (once_from b xs i)
    → FailsPremises e (fills_once_at b (reverse (take i xs)) (get_or xs i blank)) → FailsPremises e (fills_once b [] xs)
once_fails_at b xs i e h s f =
    fails_same (fills_once b [] xs) (once_from b xs i) e s (once_fails b xs i (get_or xs i blank) e h (get_or_same xs i blank h) f)

pub asks_turn_at : (b : BodyFrame) (ts : TestedPlaces) (at : Span) (xs : List Given) (now next : Context) (i : ℕ) → i < length xs
    → first_failing (fills_field b ts now at (get_or xs i blank).field.0 (read_of (get_or xs i blank).from)) ≡ None
    → next ≡ after_fill b now (get_or xs i blank).field.0 (given_from (get_or xs i blank))
    → first_failing (fills_all b ts now at (drop i xs)) ≡ first_failing (fills_all b ts next at (drop (i + 1) xs))
asks_turn_at b ts at xs now next i h f g = asks_turn b ts at xs now next i (get_or xs i blank) h (get_or_same xs i blank h) f g

pub leaves_turn_at : (b : BodyFrame) (xs : List Given) (now next : Context) (i : ℕ) → i < length xs
    → next ≡ after_fill b now (get_or xs i blank).field.0 (given_from (get_or xs i blank))
    → filled_all b now (drop i xs) ≡ filled_all b next (drop (i + 1) xs)
leaves_turn_at b xs now next i h g = leaves_turn b xs now next i (get_or xs i blank) h (get_or_same xs i blank h) g

pub gets_turn_at : (b : BodyFrame) (xs : List Given) (now next : Context) (i : ℕ) (ks more : List (Option Known)) → i < length xs
    → next ≡ after_fill b now (get_or xs i blank).field.0 (given_from (get_or xs i blank))
    → more ≡ ks ++ got b now (get_or xs i blank).field.0 (given_from (get_or xs i blank)) ∷ []
    → ks ++ all_got b now (drop i xs) ≡ more ++ all_got b next (drop (i + 1) xs)
gets_turn_at b xs now next i ks more h g m =
    gets_turn b xs now next i (get_or xs i blank) ks more h (get_or_same xs i blank h) g m

pub fills_fail_at : (b : BodyFrame) (ts : TestedPlaces) (at : Span) (xs : List Given) (start now : Context) (i : ℕ) (e : TextError)
    → i < length xs
    → first_failing (fills_all b ts start at xs) ≡ first_failing (fills_all b ts now at (drop i xs))
    → FailsPremises e (fills_field b ts now at (get_or xs i blank).field.0 (read_of (get_or xs i blank).from))
    → FailsPremises e (fills_all b ts start at xs)
fills_fail_at b ts at xs start now i e h s f =
    fails_same (fills_all b ts start at xs) (fills_all b ts now at (drop i xs)) e s
    (fills_fail b ts at xs now i (get_or xs i blank) e h (get_or_same xs i blank h) f)

pub ruleset once = (once_none, once_turn, once_fails, once_end, fails_same)

pub ruleset putting = (put_turn, put_end)

pub ruleset filling = (asks_turn, leaves_turn, gets_turn, fills_fail, asks_end, leaves_end, gets_end, fails_same)
