-- How many bytes an image has without its instructions, counted on the class table.
use Rattle.std.specs.Prelude.{ℕ, ◌+◌, List, [], ◌∷◌, length, Option, Some, None}
use Rattle.ob_table.specs.Tables.{ClassTable}
use Rattle.ob_table.specs.declared.contract.Contract.{Contract}
use Rattle.ob_table.specs.declared.contract.Field.{Field}
use Rattle.ob_table.specs.declared.contract.Param.{Param}
use Rattle.ob_table.specs.declared.contract.ResolvedType.{ResolvedType}
use Rattle.ob_table.specs.declared.contract.ResolvedType.TheVariants.{Reference}
use Rattle.ob_table.specs.declared.contract.Signature.{Signature}

-- a text, with its count
abbrev pub size_of_text : List ℕ → ℕ
size_of_text text = 4 + length text

-- the type of a field or a result
abbrev pub size_of_type : ResolvedType → ℕ
size_of_type (Reference id p) = 14
size_of_type of = 1

-- the type of a parameter, with its permission at the exit
abbrev pub size_of_param_type : ResolvedType → ℕ
size_of_param_type (Reference id p) = 23
size_of_param_type of = 1

-- a result, if there is one
abbrev pub size_of_result : Option ResolvedType → ℕ
size_of_result None = 1
size_of_result (Some of) = 1 + size_of_type of

-- parameters
abbrev pub size_of_params : List Param → ℕ
size_of_params [] = 0
size_of_params (p ∷ ps) = size_of_param_type p.of + size_of_params ps

-- the names of states
abbrev pub size_of_states : List (List ℕ) → ℕ
size_of_states [] = 0
size_of_states (s ∷ ss) = size_of_text s + size_of_states ss

-- a field
abbrev pub size_of_field : Field → ℕ
size_of_field f = size_of_text f.name + size_of_type f.of + 8

-- fields
abbrev pub size_of_fields : List Field → ℕ
size_of_fields [] = 0
size_of_fields (f ∷ fs) = size_of_field f + size_of_fields fs

-- a body: its marks, two permissions, its slots, and the counts of its parameters and its instructions take 28 bytes
abbrev pub size_of_signature : Signature → ℕ
size_of_signature s = size_of_text s.name + size_of_params s.params + size_of_result s.result + 28

-- bodies
abbrev pub size_of_signatures : List Signature → ℕ
size_of_signatures [] = 0
size_of_signatures (s ∷ ss) = size_of_signature s + size_of_signatures ss

-- a contract: its marks, its interface, and the counts of its states, fields and bodies take 17 bytes
abbrev pub size_of_contract : Contract → ℕ
size_of_contract c =
    size_of_text c.name + size_of_states c.states + size_of_fields c.fields + size_of_signatures c.transactions + 17

-- contracts
abbrev pub size_of_contracts : List Contract → ℕ
size_of_contracts [] = 0
size_of_contracts (c ∷ cs) = size_of_contract c + size_of_contracts cs

-- an image: its first four bytes and the count of its contracts take 8 bytes
abbrev pub size_of_table : ClassTable → ℕ
size_of_table table = size_of_contracts table.contracts + 8
