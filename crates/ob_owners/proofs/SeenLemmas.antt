-- Contracts of an image, and the numbers of names.
use Rattle.std.proofs.Common.{◌≡◌, ℕ, suc, ◌+◌, Bool, true, false, cond, not, List, [], ◌∷◌, length, Option, Some, None, refl, sym, ap, ◌∙◌, arith}
use Rattle.std.specs.Prelude.{◌==◌, ◌≢◌, nat_lt, map, slice_get, option_map, position, if◌then◌else◌}
use Rattle.std.specs.List.{position_or_len}
use Rattle.std.specs.Option.{option_map_or, option_and_then, option_flatten}
use Rattle.std.proofs.lemmas.Bool.Decides.{Decides-eqb}
use Rattle.std.proofs.lemmas.Option.{slice_get-map}
use Rattle.std.proofs.lemmas.Grind.{common_steps}
use Rattle.ob_base.specs.declared.id.ContractId.{ContractId}
use Rattle.ob_base.specs.declared.id.StateId.{StateId}
use Rattle.ob_perm.specs.Naming.{Names, seen, called_in_interface}
use Rattle.ob_perm.specs.States.{stateless, unnamed}
use Rattle.ob_table_spec.specs.Conditions.{naming}
use Rattle.ob_code.specs.declared.image.ContractCode.{ContractCode}
use Rattle.ob_code.specs.declared.image.Image.{Image}
use Rattle.ob_heap.specs.declared.object.Object.{Object}
use Rattle.ob_heap.specs.Plain.{object_of}
use Rattle.ob_heap_spec.specs.Objects.{seen_between}
use Rattle.ob_rest_spec.specs.Failing.{is_asset}
use Rattle.ob_table.specs.Tables.{contract_at}
use Rattle.ob_table.specs.declared.contract.Contract.{Contract}
use Rattle.ob_table_spec.specs.Names.{Name, same, number_of}
use Rattle.ob_code_table.specs.ImageTables.{contract_of_code, table_of_image}

-- the contract of a number, by what the image says there
pub contract_by : (code : Image) (id : ContractId) (r : Option ContractCode) → slice_get code.contracts id.0 ≡ r
    → contract_at (table_of_image code) id ≡ option_map contract_of_code r
contract_by code id r at = slice_get-map contract_of_code code.contracts id.0 ∙ ap (option_map contract_of_code) at

-- a position one further on
step : (k n : ℕ) → option_map suc (cond (nat_lt k n) (Some k) None) ≡ cond (nat_lt (1 + k) (suc n)) (Some (1 + k)) None
step k n = grind (arith, common_steps)

here : (n : ℕ) → ◌≡◌ {A = Option ℕ} (Some 0) (cond (nat_lt 0 (suc n)) (Some 0) None)
here n = grind (arith, common_steps)

-- the number of a name is the position of the first that is the same
pub number_is_position : (name : Name) (xs : List Name) → number_of name xs ≡ position (same name) xs
number_is_position name [] = refl
number_is_position name (x ∷ xs) = by (same name x) (number_is_position name xs)
  where
    by : (b : Bool) → number_of name xs ≡ position (same name) xs
        → cond b (Some 0) (option_map suc (number_of name xs))
        ≡ cond (nat_lt (cond (not b) (1 + position_or_len (same name) xs) 0) (suc (length xs))) (Some (cond (not b) (1 + position_or_len (same name) xs) 0)) None
    by true h = here (length xs)
    by false h = ap (option_map suc) h ∙ step (position_or_len (same name) xs) (length xs)

-- as which state one contract sees a state of another, by what the image says of the two
pub seen_there : (code : Image) (declared own : ContractId) (d o : Option ContractCode) (s : ℕ) → slice_get code.contracts declared.0 ≡ d
    → slice_get code.contracts own.0 ≡ o
    → seen_between (option_map contract_of_code d) (option_map contract_of_code o) s
    ≡ seen_between (contract_at (table_of_image code) declared) (contract_at (table_of_image code) own) s
seen_there code declared own d o s at_declared at_own =
    sym (ap (λ x. seen_between x (contract_at (table_of_image code) own) s) (contract_by code declared d at_declared)
    ∙ ap (λ x. seen_between (option_map contract_of_code d) x s) (contract_by code own o at_own))

-- whether an object's contract is an asset, by what the image says of it
pub asset_there : (code : Image) (o : Object) (r : Option ContractCode) → slice_get code.contracts o.contract.0 ≡ r
    → option_map_or (λ (c : Contract). c.asset) (option_map contract_of_code r) false ≡ is_asset (table_of_image code) (object_of o)
asset_there code o r at = sym (ap (λ x. option_map_or (λ (c : Contract). c.asset) x false) (contract_by code o.contract r at))

abbrev state_named : ContractCode → Name → Option StateId
state_named declared name = option_map (λ n. record { 0 = n }) (number_of name declared.states)

has_state : (names : Names) (s : ℕ) (b : Bool) → (s == stateless) ≡ b → s ≢ stateless → (if b then stateless else called_in_interface names s) ≡ called_in_interface names s
has_state names s true is ne = absurd (ne ((Decides-eqb s stateless).0 is))
has_state names s false is ne = refl

numbered : (q : Option ℕ) → option_map_or (λ (k : StateId). k.0) (option_map (λ n. record { 0 = n }) q) unnamed ≡ option_map_or (λ n. n) q unnamed
numbered None = refl
numbered (Some n) = refl

called : (declared : ContractCode) (o : Option Name) → option_map_or (λ (k : StateId). k.0) (option_flatten (option_map (state_named declared) o)) unnamed
    ≡ option_map_or (λ n. n) (option_and_then (λ name. position (same name) declared.states) o) unnamed
called declared None = refl
called declared (Some name) =
    numbered (number_of name declared.states) ∙ ap (λ q. option_map_or (λ n. n) q unnamed) (number_is_position name declared.states)

-- as which state a contract sees one of another, by the name that the image says there
pub seen_by : (declared own : ContractCode) (s : ℕ) (r : Option Name) → s ≢ stateless → slice_get own.states s ≡ r
    → seen (naming (contract_of_code declared) (contract_of_code own)) s
    ≡ option_map_or (λ n. n) (option_and_then (λ name. position (same name) declared.states) r) unnamed
seen_by declared own s r ne at =
    has_state (map (state_named declared) own.states) s (s == stateless) refl ne
    ∙ ap (λ x. option_map_or (λ (k : StateId). k.0) (option_flatten x) unnamed) (slice_get-map (state_named declared) own.states s ∙ ap (option_map (state_named declared)) at)
    ∙ called declared r
