-- Which contracts of a program go on in a new one: those that the new one declares alike, but for constructors and transactions
-- (this project's own). Contracts go by their names, since the new program may number them otherwise.
use Rattle.std.specs.Prelude.{◌≡◌, ℕ, ◌<◌, Bool, true, false, ◌&&◌, nat_eq, List, length, Option, Some, None, IsTrue, IsSomeAnd}
use Rattle.std.specs.Cmp.Lexicographic.{pointwise}
use Rattle.ob_base.specs.declared.id.ContractId.{ContractId}
use Rattle.ob_base.specs.declared.permission.Mode.{Mode}
use Rattle.ob_base.specs.declared.permission.Mode.TheVariants.{Owned, Shared, Unowned}
use Rattle.ob_base.specs.declared.permission.Perm.{Perm}
use Rattle.ob_table.specs.Tables.{ClassTable, contract_at, contract_id, contract_named}
use Rattle.ob_table.specs.declared.contract.Contract.{Contract}
use Rattle.ob_table.specs.declared.contract.Field.{Field}
use Rattle.ob_table.specs.declared.contract.ResolvedType.{ResolvedType}
use Rattle.ob_table.specs.declared.contract.ResolvedType.TheVariants.{Int, Bool as BoolKind, Text, Reference}
use Rattle.ob_table_spec.specs.Names.{same}
use Rattle.ob_heap_spec.specs.Operations.{same_truth}
use Rattle.ob_upgrade_spec.specs.declared.Mismatch.{Mismatch}
use Rattle.ob_upgrade_spec.specs.declared.Mismatch.TheVariants.{Missing, Changed}

-- whether two modes are the same
abbrev pub is_same_mode : Mode → Mode → Bool
is_same_mode Owned Owned = true
is_same_mode Shared Shared = true
is_same_mode Unowned Unowned = true
is_same_mode a b = false

-- whether two permissions are the same
abbrev pub is_same_perm : Perm → Perm → Bool
is_same_perm p q = is_same_mode p.mode q.mode && nat_eq p.states q.states

-- whether both contracts are there, and have one name
abbrev pub have_one_name : Option Contract → Option Contract → Bool
have_one_name (Some c) (Some d) = same c.name d.name
have_one_name c d = false

-- whether two types are the same, with their contracts by name
abbrev pub is_same_type : ClassTable → ClassTable → ResolvedType → ResolvedType → Bool
is_same_type old new Int Int = true
is_same_type old new BoolKind BoolKind = true
is_same_type old new Text Text = true
is_same_type old new (Reference a p) (Reference b q) = have_one_name (contract_at old a) (contract_at new b) && is_same_perm p q
is_same_type old new t u = false

-- whether two fields are the same: in name, type, and the states in which they are available
abbrev pub is_same_field : ClassTable → ClassTable → Field → Field → Bool
is_same_field old new f g = same f.name g.name && is_same_type old new f.of g.of && nat_eq f.available g.available

-- whether two contracts implement interfaces of one name, or both none
abbrev pub is_same_interface : ClassTable → ClassTable → Option ContractId → Option ContractId → Bool
is_same_interface old new None None = true
is_same_interface old new (Some i) (Some j) = have_one_name (contract_at old i) (contract_at new j)
is_same_interface old new i j = false

-- whether two contracts are marked alike: as assets, as main contracts, as interfaces
abbrev pub are_marked_alike : Contract → Contract → Bool
are_marked_alike c d = same_truth c.asset d.asset && same_truth c.main d.main && same_truth c.interface d.interface

-- Whether two contracts declare the same, but for constructors and transactions: the name, the marks, the interface that they
-- implement, the states and the fields, both in their order.
abbrev pub is_same_contract : ClassTable → ClassTable → Contract → Contract → Bool
is_same_contract old new c d =
    same c.name d.name && are_marked_alike c d && is_same_interface old new c.implements d.implements
    && pointwise same c.states d.states && pointwise (is_same_field old new) c.fields d.fields

-- whether the new program's contract of a number declares the same as an old contract
abbrev pub DeclaresSame : ClassTable → ClassTable → Contract → ContractId → Type 0
DeclaresSame old new c id = IsSomeAnd (contract_at new id) (λ d. IsTrue (is_same_contract old new c d))

-- the old contract of a number goes on: the new program has one of its name, which declares the same
abbrev pub GoesOn : ClassTable → ClassTable → ℕ → Type 0
GoesOn old new n =
    IsSomeAnd (contract_at old (contract_id n)) (λ c. IsSomeAnd (contract_named new.contracts c.name) (DeclaresSame old new c))

-- the programs match: each old contract goes on
abbrev pub Match : ClassTable → ClassTable → Type 0
Match old new = (n : ℕ) → n < length old.contracts → GoesOn old new n

-- the number of the contract of which a mismatch speaks
abbrev pub number_of : Mismatch → ℕ
number_of (Missing n) = n
number_of (Changed n) = n

-- an old contract is missing, or changed
abbrev pub IsSo : ClassTable → ClassTable → Mismatch → Contract → Type 0
IsSo old new (Missing n) c = contract_named new.contracts c.name ≡ None
IsSo old new (Changed n) c = IsSomeAnd (contract_named new.contracts c.name) (λ id. ¬ (DeclaresSame old new c id))

-- the programs don't match: this contract is missing or changed, and each of a lower number goes on
pub record IsMismatch (old new : ClassTable) (m : Mismatch) : Type 0 where
  pub here : IsSomeAnd (contract_at old (contract_id (number_of m))) (IsSo old new m)
  pub below : (n : ℕ) → n < number_of m → GoesOn old new n
