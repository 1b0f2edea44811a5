-- The transactions of a contract by their names: each name with the place of the first transaction that has it.
use Rattle.std.specs.Prelude.{◌≡◌, ℕ, bytes_eq, List, [], ◌∷◌, ◌++◌, map, position, Option, Some, None, is_some, if◌then◌else◌}
use Rattle.std.specs.Global.{Vec}
use Rattle.ob_code.specs.declared.image.BodyCode.{BodyCode}
use Rattle.ob_code.specs.Code.{is_constructor, is_transaction_named}

-- the place of a name
abbrev pub place_in : List ℕ → List (List ℕ × ℕ) → Option ℕ
place_in name [] = None
place_in name (e ∷ es) = if bytes_eq name e.0 then Some e.1 else place_in name es

-- with one more name, unless it is there
abbrev pub added : List (List ℕ × ℕ) → List ℕ → ℕ → List (List ℕ × ℕ)
added es name place = if is_some (place_in name es) then es else es ++ (name, place) ∷ []

-- the entries of a map, with the bytes of their keys
abbrev pub plain : List (Vec ℕ × ℕ) → List (List ℕ × ℕ)
plain = map (λ e. (e.0.items, e.1))

-- with one more body, unless it is a constructor's
abbrev pub with_body : List (List ℕ × ℕ) → BodyCode → ℕ → List (List ℕ × ℕ)
with_body es b place = if is_constructor b then es else added es b.name place

-- each name has the place of the first transaction that has it, and no other has a place
abbrev pub HavePlaces : List (List ℕ × ℕ) → List BodyCode → Type 0
HavePlaces es bodies = (name : List ℕ) → place_in name es ≡ position (is_transaction_named name) bodies
