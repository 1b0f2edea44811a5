-- The contracts of an image by name and by number.
use Rattle.std.proofs.Common.{◌≡◌, ◌∙◌, ⊎_elim, ℕ, ◌+◌, ◌<◌, Bool, not, cond, List, [], ◌∷◌, length, map, Option, Some, None, refl, sym, ap, subst, arith, get_or}
use Rattle.std.specs.Prelude.{nat_lt, position, slice_get, bytes_eq, option_map, IsSomeAnd}
use Rattle.std.specs.List.{position_or_len}
use Rattle.std.proofs.lemmas.Bool.{cases_lt}
use Rattle.std.proofs.lemmas.List.{length-map}
use Rattle.std.proofs.lemmas.Option.{slice_get-map, slice_get-get_or}
use Rattle.ob_table.specs.Tables.{ClassTable, contract_at, contract_id, contract_named}
use Rattle.ob_table.specs.declared.contract.Contract.{Contract}
use Rattle.ob_code.specs.declared.image.ContractCode.{ContractCode}
use Rattle.ob_code.specs.declared.image.Image.{Image}
use Rattle.ob_code_table.specs.ImageTables.{contract_of_code, table_of_image}
use Rattle.ob_upgrade_spec.specs.Matching.{DeclaresSame, GoesOn}

place-map : {A B : Type 0} (made : A → B) (p : B → Bool) (xs : List A)
    → position_or_len p (map made xs) ≡ position_or_len (λ x. p (made x)) xs
place-map made p [] = refl
place-map made p (x ∷ xs) = ap (λ n. cond (not (p (made x))) (1 + n) 0) (place-map made p xs)

position-map : {A B : Type 0} (made : A → B) (p : B → Bool) (xs : List A) → position p (map made xs) ≡ position (λ x. p (made x)) xs
position-map made p xs =
    ap (λ n. cond (nat_lt n (length (map made xs))) (Some n) None) (place-map made p xs)
    ∙ ap (λ m. cond (nat_lt (position_or_len (λ x. p (made x)) xs) m) (Some (position_or_len (λ x. p (made x)) xs)) None)
    (length-map xs made)

pub position_mapped : (image : Image) (name : List ℕ)
    → contract_named (table_of_image image).contracts name ≡ option_map contract_id (position (λ (c : ContractCode). bytes_eq name c.name) image.contracts)
position_mapped image name =
    ap (option_map contract_id) (position-map contract_of_code (λ (c : Contract). bytes_eq name c.name) image.contracts)

pub contract_read : (image : Image) (n : ℕ) → contract_at (table_of_image image) (contract_id n) ≡ option_map contract_of_code (slice_get image.contracts n)
contract_read image n = slice_get-map contract_of_code image.contracts n

-- The contracts, one after another.

pub read_at : (image : Image) (n : ℕ) (c : ContractCode) → n < length image.contracts → c ≡ get_or image.contracts n c
    → contract_at (table_of_image image) (contract_id n) ≡ Some (contract_of_code c)
read_at image n c low is =
    contract_read image n ∙ ap (option_map contract_of_code) (slice_get-get_or image.contracts n c low ∙ ap Some (sym is))

pub goes_at : (old : Image) (new : ClassTable) (n : ℕ) (c : ContractCode) → n < length old.contracts → c ≡ get_or old.contracts n c
    → IsSomeAnd (contract_named new.contracts c.name) (DeclaresSame (table_of_image old) new (contract_of_code c)) → GoesOn (table_of_image old) new n
goes_at old new n c low is goes =
    subst (λ (r : Option Contract). IsSomeAnd r (λ c. IsSomeAnd (contract_named new.contracts c.name) (DeclaresSame (table_of_image old) new c)))
    (sym (read_at old n c low is)) goes

pub goes_more : (old new : ClassTable) (n k : ℕ) → ((j : ℕ) → j < n → GoesOn old new j) → GoesOn old new n → k < n + 1 → GoesOn old new k
goes_more old new n k below goes low =
    ⊎_elim (below k) (λ from. let same : n ≡ k = omega (arith, low, from) in subst (GoesOn old new) same goes) (cases_lt k n)
