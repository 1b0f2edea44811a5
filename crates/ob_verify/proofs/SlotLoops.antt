-- The bodies of an image, of each of which a byte says how many slots it has.
use Rattle.std.proofs.Common.{◌≡◌, ℕ, ◌+◌, ◌<◌, ◌≤◌, List, length, take, get_or, subst}
use Rattle.std.specs.Prelude.{All}
use Rattle.std.proofs.lemmas.List.{take_all}
use Rattle.std.proofs.lemmas.List.Elements.{All-more}
use Rattle.std.proofs.lemmas.Option.{get_or_from_slice_get, slice_get_within}
use Rattle.ob_code.specs.declared.image.BodyCode.{BodyCode}
use Rattle.ob_code.specs.declared.image.ContractCode.{ContractCode}
use Rattle.ob_code.specs.declared.image.Image.{Image}
use Rattle.ob_verify_spec.specs.Laws.{HasBody, SlotsFitByte}
use Rattle.ob_verify.specs.Slots.{FitsByte, AllFitByte}

-- what holds of the elements so far holds with one more
pub turn : {X : Type 0} (P : X → Type 0) (xs : List X) (i : ℕ) (x : X) → i < length xs → x ≡ get_or xs i x → All P (take i xs) → P x → All P (take (i + 1) xs)
turn P xs i x lt is before here = All-more P xs i x lt before (subst P is here)

pub end : {X : Type 0} (P : X → Type 0) (xs : List X) (i : ℕ) → length xs ≤ i → All P (take i xs) → All P xs
end P xs i le all = subst (All P) (take_all i xs le) all

pub slots_fit : (m : Image) → All AllFitByte m.contracts → SlotsFitByte m
slots_fit m all = record {
  each = λ c own tx b has.
      let bodies : AllFitByte own = subst AllFitByte (get_or_from_slice_get m.contracts c.0 own own has.contract)
      (all c.0 own (slice_get_within m.contracts c.0 own has.contract)) in
      subst FitsByte (get_or_from_slice_get own.bodies tx.0 b b has.body) (bodies tx.0 b (slice_get_within own.bodies tx.0 b has.body));
}
