-- A store is at rest exactly where each of its objects fails in none of the six ways.
use Rattle.std.proofs.Common.{◌≡◌, ◌↔◌, ℕ, zero, suc, Bool, true, false, List, [], ◌∷◌, Option, Some, None, refl, sym}
use Rattle.std.specs.Prelude.{filter, cond, slice_get}
use Rattle.std.specs.Option.{option_map_or}
use Rattle.std.proofs.lemmas.Option.{slice_get_within}
use Rattle.ob_table.specs.Tables.{ClassTable}
use Rattle.ob_heap_spec.specs.Objects.{Object}
use Rattle.ob_heap_spec.specs.Contents.{Content, object_at}
use Rattle.ob_rest_spec.specs.Failing.{FailingWay, many_owners, owned_and_marked, lost_asset, shared_unmarked, outside_states, other_contract, every_way, fails_by}
use Rattle.ob_rest_spec.specs.AtRest.{IsAtRest}
use Rattle.ob_rest_laws.specs.Laws.{FailsInNoWay}

-- what passes no test at its head
first_fails : {X : Type 0} (x : X) (xs ys : List X) (b : Bool) → cond b (x ∷ xs) ys ≡ [] → (b ≡ false) × (ys ≡ [])
first_fails x xs ys true e = absurd cc
first_fails x xs ys false e = (refl, e)

-- where no item passes a test, the item at a number doesn't
none_passes : {X : Type 0} (test : X → Bool) (xs : List X) (k : ℕ) (x : X) → filter test xs ≡ []
    → slice_get xs k ≡ Some x → test x ≡ false
none_passes test [] k x e found = absurd cc
none_passes test (y ∷ xs) zero x e found =
    let same : y ≡ x = cc in rw (sym same) (first_fails y (filter test xs) (filter test xs) (test y) e).0
none_passes test (y ∷ xs) (suc k) x e found =
    none_passes test xs k x (first_fails y (filter test xs) (filter test xs) (test y) e).1 found

-- the number of a way in their order
place_of_way : FailingWay → ℕ
place_of_way many_owners = 0
place_of_way owned_and_marked = 1
place_of_way lost_asset = 2
place_of_way shared_unmarked = 3
place_of_way outside_states = 4
place_of_way other_contract = 5

-- each way is among all
way_is_there : (way : FailingWay) → slice_get every_way (place_of_way way) ≡ Some way
unfolding place_of_way
way_is_there many_owners = refl
way_is_there owned_and_marked = refl
way_is_there lost_asset = refl
way_is_there shared_unmarked = refl
way_is_there outside_states = refl
way_is_there other_contract = refl

-- in a store at rest an object fails in no way
pub fails_by_none : (table : ClassTable) (content : Content) → IsAtRest table content → FailsInNoWay table content
fails_by_none table content rest n o there way =
    let inside = slice_get_within content.objects n o there in
    none_passes (λ way. fails_by way table content n o) every_way (place_of_way way) way
    (rw there at (rest n inside)) (way_is_there way)

-- where each item fails a test, none passes
passes_none : {X : Type 0} (test : X → Bool) (xs : List X) → ((x : X) → test x ≡ false) → filter test xs ≡ []
passes_none test [] none = refl
passes_none test (x ∷ xs) none = rw (none x) (passes_none test xs none)

-- an object that is there, or isn't, and fails in no way
fails_in_none : (table : ClassTable) (content : Content) (n : ℕ) (there : Option Object)
    → ((o : Object) → there ≡ Some o → (way : FailingWay) → fails_by way table content n o ≡ false)
    → option_map_or (λ o. filter (λ way. fails_by way table content n o) every_way) there [] ≡ []
fails_in_none table content n None none = refl
fails_in_none table content n (Some o) none =
    passes_none (λ way. fails_by way table content n o) every_way (none o refl)

-- a store whose objects fail in no way is at rest
pub at_rest : (table : ClassTable) (content : Content) → FailsInNoWay table content → IsAtRest table content
at_rest table content none n inside =
    fails_in_none table content n (object_at content.objects n) (λ o there way. none n o there way)

pub each_way : (table : ClassTable) (content : Content) → IsAtRest table content ↔ FailsInNoWay table content
each_way table content = (fails_by_none table content, at_rest table content)
