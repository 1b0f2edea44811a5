-- Parts of the rules, worked out on their own.
use Rattle.std.proofs.Common.{◌≡◌, ℕ, Bool, true, false, List, [], ◌∷◌, ◌++◌, Option, Some, refl, nat_eq}
use Rattle.std.specs.Prelude.{◌&&◌, ◌||◌, if◌then◌else◌, is_some}
use Rattle.ob_base.specs.Faults.{under_test}
use Rattle.ob_base.specs.declared.fault.Span.{Span}
use Rattle.ob_perm.specs.Permissions.{Permission, owned, shared, unowned, owns}
use Rattle.ob_silica.specs.declared.place.Given.{Given}
use Rattle.ob_silica_places.specs.Places.{Location}
use Rattle.ob_flow_spec.specs.Premises.{Premise, one, for_all, first_failing}
use Rattle.ob_flow_spec.specs.Contexts.{BodyFrame, Context, permission_at, TestedPlaces}
use Rattle.ob_flow_spec.specs.Changing.{given_at, is_given}
use Rattle.ob_flow_spec.specs.Returning.{still_owns, leaves_as}
use Rattle.ob_flow_premises.specs.Forms.{all_own, leaves_known_as}

-- Given fields.

given_or : (b : Bool) (x : Given) (o : Option Given) (r : Bool) → r ≡ is_some o → (b || r) ≡ is_some (if b then Some x else o)
given_or true x o r e = refl
given_or false x o r e = e

pub is_given_at : (f : ℕ) (xs : List Given) → is_given f xs ≡ is_some (given_at f xs)
is_given_at f [] = refl
is_given_at f (x ∷ xs) = given_or (nat_eq x.field.0 f) x (given_at f xs) (is_given f xs) (is_given_at f xs)

-- Exits.

pub leaves_known : (b : BodyFrame) (g : Context) (at : Span) (p : Location) (w : Permission) → leaves_as b g at p w ≡ leaves_known_as b (g p) at w
leaves_known b g at p (owned a) = refl
leaves_known b g at p shared = refl
leaves_known b g at p unowned = refl

-- Places under test.

own_so : (a c : Bool) (at : Span) (ps : List Premise) → first_failing ps ≡ first_failing (one under_test at c)
    → first_failing (one under_test at a ++ ps) ≡ first_failing (one under_test at (a && c))
own_so true c at ps e = e
own_so false c at ps e = refl

pub still_own : (g : Context) (at : Span) (ts : TestedPlaces) → first_failing (for_all ts (still_owns g at)) ≡ first_failing (one under_test at (all_own g ts))
still_own g at [] = refl
still_own g at (p ∷ ps) = own_so (owns (permission_at g p)) (all_own g ps) at (for_all ps (still_owns g at)) (still_own g at ps)
