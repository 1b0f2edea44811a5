-- The class table that an image gives says the same as the image.
use Rattle.std.proofs.Common.{◌≡◌, ℕ, suc, ◌+◌, List, [], ◌∷◌, Option, Some, None, Bool, true, false, refl, ap, ◌∙◌}
use Rattle.std.specs.Prelude.{not, ◌&&◌, ◌==◌, nat_lt, cond, length, map, option_map, slice_get, bytes_eq, if◌then◌else◌}
use Rattle.std.specs.Option.{option_map_or}
use Rattle.std.proofs.lemmas.Option.{slice_get-map}
use Rattle.std.proofs.lemmas.List.{length-map}
use Rattle.std.specs.List.{position_or_len}
use Rattle.ob_base.specs.declared.id.ContractId.{ContractId}
use Rattle.ob_base.specs.declared.id.StateId.{StateId}
use Rattle.ob_base.specs.declared.id.TxId.{TxId}
use Rattle.ob_table.specs.Tables.{contract_at}
use Rattle.ob_table.specs.declared.contract.Signature.{Signature}
use Rattle.ob_heap_spec.specs.Dispatch.{transaction_named}
use Rattle.ob_heap_spec.specs.Objects.{Object, state_number, is_available, has_field, seen_between, seen_state, is_in_state}
use Rattle.ob_code.specs.declared.image.BodyCode.{BodyCode}
use Rattle.ob_code.specs.declared.image.ContractCode.{ContractCode}
use Rattle.ob_code.specs.declared.image.FieldCode.{FieldCode}
use Rattle.ob_code.specs.declared.image.Image.{Image}
use Rattle.ob_code.specs.Code.{is_constructor, contract_code, is_transaction_named}
use Rattle.ob_code_table.specs.Images.{transaction_number, is_available_in, has_field_code, named_between, state_seen_by, is_in_state_of}
use Rattle.ob_code_table.specs.ImageTables.{field_of_code, signature_of_code, contract_of_code, table_of_image}
use Rattle.ob_machine_laws.specs.Laws.{IsUnnamed}

pub contract_same : (image : Image) (id : ContractId) → contract_at (table_of_image image) id ≡ option_map contract_of_code (contract_code image id)
contract_same image id = slice_get-map contract_of_code image.contracts id.0

available_same : (state : Option StateId) (f : Option FieldCode) → option_map_or (is_available state) (option_map field_of_code f) false ≡ option_map_or (is_available_in state) f false
available_same state None = refl
available_same state (Some f) = refl

pub field_same : (c : ContractCode) (state : Option StateId) (k : ℕ) → has_field (contract_of_code c) state k ≡ has_field_code c state k
field_same c state k = ap (λ f. option_map_or (is_available state) f false) (slice_get-map field_of_code c.fields k) ∙ available_same state (slice_get c.fields k)

between_same : (declared own : Option ContractCode) (s : ℕ) → seen_between (option_map contract_of_code declared) (option_map contract_of_code own) s ≡ named_between declared own s
between_same None None s = refl
between_same None (Some own) s = refl
between_same (Some declared) None s = refl
between_same (Some declared) (Some own) s = refl

seen_if : (b : Bool) (n x y : ℕ) → x ≡ y → (if b then n else x) ≡ (if b then n else y)
seen_if b n x y e = ap (λ z. if b then n else z) e

seen_same : (image : Image) (declared : ContractId) (o : Object) → seen_state (table_of_image image) declared o ≡ state_seen_by image declared o
seen_same image declared o = seen_if (declared.0 == o.contract.0) (state_number o.state) _ _
    (ap (λ c. seen_between c (contract_at (table_of_image image) o.contract) (state_number o.state)) (contract_same image declared)
    ∙ ap (λ c. seen_between (option_map contract_of_code (contract_code image declared)) c (state_number o.state)) (contract_same image o.contract)
    ∙ between_same (contract_code image declared) (contract_code image o.contract) (state_number o.state))

pub state_same : (image : Image) (declared : ContractId) (s : StateId) (o : Object) → is_in_state (table_of_image image) declared s o ≡ is_in_state_of image declared s o
state_same image declared s o = ap (λ n. n == s.0) (seen_same image declared o)

-- Names of transactions.

named_if : (constructor named : Bool) → (constructor ≡ true → named ≡ false) → named ≡ not constructor && named
named_if true named h = h refl
named_if false named h = refl

place_same : (name : List ℕ) (bs : List BodyCode) → ((k : ℕ) (b : BodyCode) → slice_get bs k ≡ Some b → is_constructor b ≡ true → bytes_eq name b.name ≡ false)
    → position_or_len (λ (s : Signature). bytes_eq name s.name) (map signature_of_code bs) ≡ position_or_len (is_transaction_named name) bs
place_same name [] h = refl
place_same name (b ∷ bs) h =
    ap (λ t. cond (not t) (1 + (position_or_len (λ (s : Signature). bytes_eq name s.name) (map signature_of_code bs))) 0) (named_if (is_constructor b) (bytes_eq name b.name) (h 0 b refl))
    ∙ ap (λ n. cond (not (is_transaction_named name b)) (1 + n) 0) (place_same name bs (λ k x e. h (suc k) x e))

-- a place as that of a list of so many
abbrev place_in : ℕ → ℕ → Option TxId
place_in count place = option_map (λ n. record { 0 = n }) (cond (nat_lt place count) (Some place) None)

pub name_same : (c : ContractCode) (name : List ℕ) → IsUnnamed c name → transaction_named (contract_of_code c) name ≡ transaction_number c name
name_same c name h =
    ap (λ n. place_in n (position_or_len (λ (s : Signature). bytes_eq name s.name) (map signature_of_code c.bodies))) (length-map c.bodies signature_of_code)
    ∙ ap (λ n. place_in (length c.bodies) n) (place_same name c.bodies h.of)
