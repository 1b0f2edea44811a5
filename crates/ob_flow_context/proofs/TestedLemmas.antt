-- The places under test, turn by turn.
use Rattle.std.proofs.Common.{◌≡◌, ℕ, suc, ◌+◌, ◌<◌, ◌≤◌, List, [], ◌∷◌, ◌++◌, length, map, take, reverse, get_or, Bool, false, ◌||◌, refl, sym, ap, ◌∙◌, arith, add-one}
use Rattle.std.proofs.Math.Seq.{take-suc}
use Rattle.std.proofs.lemmas.List.{reverse-append, take_all}
use Rattle.ob_silica.specs.declared.place.Place.{Place}
use Rattle.ob_silica_places.specs.Places.{Location, location_of, same_location}
use Rattle.ob_flow_spec.specs.Contexts.{is_tested, is_field, tests_field}
use Rattle.ob_flow_context.specs.View.{tested_of}

-- a place more is the innermost
pub tested_of-push : (places : List Place) (place : Place) → tested_of (places ++ place ∷ []) ≡ location_of place ∷ tested_of places
tested_of-push places place = ap (map location_of) (reverse-append places (place ∷ []))

pub tested_turn : (places : List Place) (i : ℕ) (place : Place) → i < length places → place ≡ get_or places i place
    → tested_of (take (i + 1) places) ≡ location_of place ∷ tested_of (take i places)
tested_turn places i place h is = rw add-one
    (ap tested_of (take-suc places i place h ∙ ap (λ x. take i places ++ x ∷ []) (sym is))
    ∙ tested_of-push (take i places) place)

pub is_tested_turn : (places : List Place) (i : ℕ) (place : Place) (p : Location) → i < length places
    → place ≡ get_or places i place
    → is_tested (tested_of (take (i + 1) places)) p
    ≡ (same_location p (location_of place) || is_tested (tested_of (take i places)) p)
is_tested_turn places i place p h is = ap (λ ts. is_tested ts p) (tested_turn places i place h is)

pub tests_field_turn : (places : List Place) (i : ℕ) (place : Place) → i < length places
    → place ≡ get_or places i place
    → tests_field (tested_of (take (i + 1) places))
    ≡ (is_field (location_of place) || tests_field (tested_of (take i places)))
tests_field_turn places i place h is = ap tests_field (tested_turn places i place h is)

pub ruleset tested = (tested_of-push, is_tested_turn, tests_field_turn, take_all)
