-- What holds of each item of a list, and of the item at each number.
use Rattle.std.proofs.Common.{◌≡◌, ℕ, zero, suc, List, [], ◌∷◌, Some, refl, subst, arith}
use Rattle.std.specs.Prelude.{slice_get, All}
use Rattle.std.proofs.lemmas.List.Elements.{All-cons}

-- what holds of each item holds of the item at a number, and the other way round
pub item_of : {X : Type 0} (P : X → Type 0) (xs : List X) → All P xs → (k : ℕ) (x : X) → slice_get xs k ≡ Some x → P x
item_of P [] all k x there = absurd cc
item_of P (y ∷ xs) all zero x there = let same : y ≡ x = cc in subst P same (all 0 y (omega arith))
item_of P (y ∷ xs) all (suc k) x there = item_of P xs (λ j d inside. all (suc j) d (omega arith)) k x there

pub all_of : {X : Type 0} (P : X → Type 0) (xs : List X) → ((k : ℕ) (x : X) → slice_get xs k ≡ Some x → P x) → All P xs
all_of P [] each = λ k d inside. absurd (omega arith)
all_of P (y ∷ xs) each = All-cons P y xs (each 0 y refl) (all_of P xs (λ k x there. each (suc k) x there))
