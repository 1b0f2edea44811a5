-- The owner of an object is the first of its owning places.
use Rattle.std.proofs.Common.{◌≡◌, ℕ, Bool, true, false, List, [], ◌∷◌, Option, Some, refl}
use Rattle.std.specs.Prelude.{find, filter, cond, slice_get}
use Rattle.ob_table.specs.Tables.{ClassTable}
use Rattle.ob_heap_spec.specs.Contents.{Content}
use Rattle.ob_rest_spec.specs.Modes.{is_owned}
use Rattle.ob_rest_spec.specs.Incoming.{incoming_references, owning_places, owner_of}

-- the same at a head that passes or doesn't
first_of_both : {X : Type 0} (x : X) (found : Option X) (passing : List X) (b : Bool) → found ≡ slice_get passing 0
    → cond b (Some x) found ≡ slice_get (cond b (x ∷ passing) passing) 0
first_of_both x found passing true e = refl
first_of_both x found passing false e = e

-- what is found first is the first of what passes
first_found : {X : Type 0} (test : X → Bool) (xs : List X) → find test xs ≡ slice_get (filter test xs) 0
first_found test [] = refl
first_found test (x ∷ xs) =
    first_of_both x (find test xs) (filter test xs) (test x) (first_found test xs)

pub owner_is_first : (table : ClassTable) (content : Content) (n : ℕ)
    → owner_of table content n ≡ slice_get (owning_places table content n) 0
owner_is_first table content n = first_found (λ r. is_owned r.mode) (incoming_references table content n)
