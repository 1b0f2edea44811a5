-- What tests on places tell.
use Rattle.std.proofs.Common.{◌≡◌, zero, suc, Bool, true, false, [], ◌∷◌, Contains, refl, ap, sym, subst, arith}
use Rattle.std.proofs.lemmas.Bool.{or_left, or_right}
use Rattle.ob_silica_places.specs.Places.{Location, slot, field, same_location}
use Rattle.ob_flow_spec.specs.Contexts.{TestedPlaces, is_tested}
use Rattle.ob_flow_laws.proofs.Tests.{same_number, number_itself, second_of}
use Rattle.ob_flow_laws.proofs.Premises.{contains_first, contains_later}

pub is_same : (p q : Location) → same_location p q ≡ true → p ≡ q
is_same (slot j) (slot k) e = ap slot (same_number j k e)
is_same (slot j) (field k) e = absurd (cc)
is_same (field j) (slot k) e = absurd (cc)
is_same (field j) (field k) e = ap field (same_number j k e)

pub same_itself : (p : Location) → same_location p p ≡ true
same_itself (slot k) = number_itself k
same_itself (field f) = number_itself f

first_tested : (p q : Location) (qs : TestedPlaces) → (is_tested qs p ≡ true → Contains qs p) → (c : Bool)
    → same_location p q ≡ c → is_tested (q ∷ qs) p ≡ true → Contains (q ∷ qs) p
first_tested p q qs go true e h = subst (λ z. Contains (z ∷ qs) p) (is_same p q e) (contains_first p qs)
first_tested p q qs go false e h = contains_later q qs p (go (second_of (same_location p q) (is_tested qs p) h e))

-- a place under test is among the places under test
pub tested_is_there : (ts : TestedPlaces) (p : Location) → is_tested ts p ≡ true → Contains ts p
tested_is_there [] p h = absurd (cc)
tested_is_there (q ∷ qs) p h = first_tested p q qs (tested_is_there qs p) (same_location p q) refl h

-- and the other way round
pub there_is_tested : (ts : TestedPlaces) (p : Location) → Contains ts p → is_tested ts p ≡ true
there_is_tested [] p c = absurd (let l = c.1 in omega arith)
there_is_tested (q ∷ qs) p (zero, l, e) =
    or_left (same_location p q) (is_tested qs p) (subst (λ z. same_location p z ≡ true) (sym e) (same_itself p))
there_is_tested (q ∷ qs) p (suc k, l, e) =
    or_right (same_location p q) (is_tested qs p) (there_is_tested qs p (k, omega arith, e))
