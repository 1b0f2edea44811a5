-- What is found out about the contracts of an image before its bodies are passed.
use Rattle.std.specs.Prelude.{◌≡◌, ℕ, ◌+◌, List, [], ◌∷◌, map, position, Option, Bool, true, ◌&&◌, not, if◌then◌else◌}
use Rattle.std.specs.List.{list_all}
use Rattle.ob_table.specs.Tables.{contract_id}
use Rattle.ob_code.specs.declared.image.BodyCode.{BodyCode}
use Rattle.ob_code.specs.declared.image.ContractCode.{ContractCode}
use Rattle.ob_code.specs.declared.image.Image.{Image}
use Rattle.ob_code.specs.Code.{is_interface, is_constructor}
use Rattle.ob_verify_spec.specs.Kinds.{implements_number}
use Rattle.ob_verify_spec.specs.Conditions.{has_answer, answers_if_implemented}

-- for each transaction of the contract of a number, whether those of these contracts that implement it have an answer
abbrev pub answers_by : List ContractCode → ℕ → List BodyCode → List Bool
answers_by seen n bodies = map (λ b. list_all (answers_if_implemented (contract_id n) b) seen) bodies

-- the same for each of more contracts, of which the first has this number
abbrev pub all_answers_by : List ContractCode → ℕ → List ContractCode → List (List Bool)
all_answers_by seen n [] = []
all_answers_by seen n (c ∷ cs) = answers_by seen n c.bodies ∷ all_answers_by seen (n + 1) cs

-- whether a contract has to answer for the one of a number
abbrev pub is_asked : ContractCode → ℕ → Bool
is_asked own n = implements_number (contract_id n) own && not (is_interface own)

-- answers for transactions, with those of one more contract
abbrev pub with_answers : ContractCode → List BodyCode → List Bool → List Bool
with_answers own [] row = row
with_answers own (b ∷ bodies) [] = []
with_answers own (b ∷ bodies) (r ∷ row) = (r && has_answer b own) ∷ with_answers own bodies row

-- answers for the transactions of contracts, of which the first has this number, with those of one more contract
abbrev pub with_answers_from : ContractCode → ℕ → List ContractCode → List (List Bool) → List (List Bool)
with_answers_from own n [] rows = rows
with_answers_from own n (c ∷ cs) [] = []
with_answers_from own n (c ∷ cs) (row ∷ rows) =
    (if is_asked own n then with_answers own c.bodies row else row) ∷ with_answers_from own (n + 1) cs rows

-- where each contract has its constructor
abbrev pub constructor_places : List ContractCode → List (Option ℕ)
constructor_places = map (λ (c : ContractCode). position is_constructor c.bodies)

-- what is found out of an image
pub record IsSurvey (m : Image) (rows : List (List Bool)) (places : List (Option ℕ)) : Type 0 where
  pub answered : rows ≡ all_answers_by m.contracts 0 m.contracts
  pub constructors : places ≡ constructor_places m.contracts
