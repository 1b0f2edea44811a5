-- The states of a contract, as far as permissions on it ask for them (this project's own).
use Rattle.std.specs.Prelude.{◌≡◌, ◌≤◌, ℕ, List, Some, length, slice_get}
use Rattle.ob_tree.specs.Members.{Contract}
use Rattle.ob_table_spec.specs.Names.{Name, number_of}
use Rattle.ob_resolve_spec.specs.Declarations.{state_names}

-- each name has its own place for a number: no two are the same
abbrev pub HaveOwnNumbers : List Name → Type 0
HaveOwnNumbers names = (i : ℕ) (name : Name) → slice_get names i ≡ Some name → number_of name names ≡ Some i

-- a contract has so many states, at most 32, and no two of one name
pub record HasStates (c : Contract) (count : ℕ) : Type 0 where
  pub counted : count ≡ length (state_names c)
  pub few : count ≤ 32
  pub distinct : HaveOwnNumbers (state_names c)
