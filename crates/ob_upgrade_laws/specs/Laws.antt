-- What the laws of stores that go on with a new program say (this project's own).
use Rattle.std.specs.Prelude.{◌≡◌, ℕ, map, Some, IsTrue, IsSomeAnd}
use Rattle.ob_base.specs.declared.id.ContractId.{ContractId}
use Rattle.ob_table.specs.Tables.{ClassTable, contract_at}
use Rattle.ob_table.specs.declared.contract.Contract.{Contract}
use Rattle.ob_table_spec.specs.Conditions.{AreDistinct, IsClassTable}
use Rattle.ob_heap_spec.specs.Contents.{Content, IsContent}
use Rattle.ob_rest_spec.specs.Failing.{failing_ways}
use Rattle.ob_rest_spec.specs.AtRest.{IsStoreAtRest}
use Rattle.ob_upgrade_spec.specs.declared.Mismatch.{Mismatch}
use Rattle.ob_upgrade_spec.specs.Matching.{is_same_contract, Match, IsMismatch}
use Rattle.ob_upgrade_spec.specs.Upgraded.{namesake, upgraded}

-- no two contracts of a program have one name
abbrev pub NamesOnce : ClassTable → Type 0
NamesOnce table = AreDistinct (map (λ c. c.name) table.contracts)

-- stores at rest stay so
abbrev pub UpgradedStoresAreAtRest : Type 0
UpgradedStoresAreAtRest =
    (old new : ClassTable) (content : Content) → NamesOnce old → NamesOnce new → Match old new
    → IsStoreAtRest old content → IsStoreAtRest new (upgraded old new content)

-- objects fail in the same ways
abbrev pub UpgradedObjectsFailAlike : Type 0
UpgradedObjectsFailAlike =
    (old new : ClassTable) (content : Content) → NamesOnce old → NamesOnce new → Match old new
    → IsContent old content → (n : ℕ) → failing_ways new (upgraded old new content) n ≡ failing_ways old content n

-- the namesake of an old contract declares the same, the name too
abbrev pub NamesakesAreThere : Type 0
NamesakesAreThere =
    (old new : ClassTable) (id : ContractId) (c : Contract) → Match old new → contract_at old id ≡ Some c
    → IsSomeAnd (contract_at new (namesake old new id)) (λ d. IsTrue (is_same_contract old new c d))

-- programs that match have no mismatch
abbrev pub MatchesHaveNoMismatch : Type 0
MatchesHaveNoMismatch = (old new : ClassTable) (m : Mismatch) → Match old new → ¬ (IsMismatch old new m)

-- any two mismatches are one
abbrev pub HaveOneMismatch : Type 0
HaveOneMismatch = (old new : ClassTable) (a b : Mismatch) → IsMismatch old new a → IsMismatch old new b → a ≡ b

-- a program matches itself
abbrev pub ProgramsMatchThemselves : Type 0
ProgramsMatchThemselves = (table : ClassTable) → IsClassTable table → Match table table
