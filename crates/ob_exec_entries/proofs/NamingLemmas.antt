-- Names are found as the class table of an image has them.
use Rattle.std.proofs.Common.{◌≡◌, ℕ, zero, suc, List, [], ◌∷◌, map, refl, sym, ap, ◌∙◌}
use Rattle.std.specs.Prelude.{bytes_eq, slice_get, option_map}
use Rattle.ob_base.specs.Optional.{◌>>=◌}
use Rattle.ob_table.specs.Tables.{contract_named, contract_id}
use Rattle.ob_table.specs.declared.contract.Contract.{Contract}
use Rattle.ob_table.specs.declared.contract.Signature.{Signature}
use Rattle.ob_heap_spec.specs.Dispatch.{transaction_named}
use Rattle.ob_code.specs.declared.image.BodyCode.{BodyCode}
use Rattle.ob_code.specs.declared.image.ContractCode.{ContractCode}
use Rattle.ob_code.specs.declared.image.Image.{Image}
use Rattle.ob_code_table.specs.ImageTables.{signature_of_code, contract_of_code}
use Rattle.ob_exec_entries.specs.Naming.{IsNamesOf, contract_names, body_names, AreNumbered, tx_id}
use Rattle.ob_exec_entries.specs.Numbered.{number_in, IsNumbering}
use Rattle.ob_exec_entries.specs.declared.names.Names.{Names}
use Rattle.ob_exec_entries.proofs.NumberedLemmas.{position-map}

contract_is : (cs : List ContractCode) (es : List (List ℕ × ℕ)) (name : List ℕ) → IsNumbering (contract_names cs) es
    → option_map contract_id (number_in name es) ≡ contract_named (map contract_of_code cs) name
contract_is cs es name h = ap (option_map contract_id) (h name
    ∙ position-map (λ (c : ContractCode). c.name) (bytes_eq name) cs
    ∙ sym (position-map contract_of_code (λ (c : Contract). bytes_eq name c.name) cs))

transaction_is : (c : ContractCode) (es : List (List ℕ × ℕ)) (name : List ℕ) → IsNumbering (body_names c) es
    → option_map tx_id (number_in name es) ≡ transaction_named (contract_of_code c) name
transaction_is c es name h = ap (option_map tx_id) (h name
    ∙ position-map (λ (b : BodyCode). b.name) (bytes_eq name) c.bodies
    ∙ sym (position-map signature_of_code (λ (s : Signature). bytes_eq name s.name) c.bodies))

transactions_at : (cs : List ContractCode) (ts : List (List (List ℕ × ℕ))) → AreNumbered cs ts → (n : ℕ) (name : List ℕ)
    → (slice_get ts n >>= λ es. option_map tx_id (number_in name es)) ≡ (slice_get (map contract_of_code cs) n >>= λ (c : Contract). transaction_named c name)
transactions_at [] [] h n name = refl
transactions_at [] (t ∷ ts) h n name = absurd h
transactions_at (c ∷ cs) [] h n name = absurd h
transactions_at (c ∷ cs) (t ∷ ts) h zero name = transaction_is c t name h.0
transactions_at (c ∷ cs) (t ∷ ts) h (suc n) name = transactions_at cs ts h.1 n name

pub named : (image : Image) (names : Names) → IsNumbering (contract_names image.contracts) names.contracts
    → AreNumbered image.contracts names.transactions → IsNamesOf names image
named image names h g = record {
  contract = λ name. contract_is image.contracts names.contracts name h;
  transaction = λ id name. transactions_at image.contracts names.transactions g id.0 name;
}
