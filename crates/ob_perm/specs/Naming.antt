-- States by name between a contract and its interface (this project's own).
use Rattle.std.specs.Prelude.{ℕ, ◌<◌, ◌≤◌, ◌==◌, List, Option, length, slice_get, All, IfSome, if◌then◌else◌}
use Rattle.std.specs.Option.{option_map_or, option_flatten}
use Rattle.ob_base.specs.declared.id.StateId.{StateId}
use Rattle.ob_perm.specs.States.{States, stateless, unnamed, all_states, intersection, image, preimage}
use Rattle.ob_perm.specs.Permissions.{Permission, on_states}

-- For each state of a contract, in order, the interface's state of that name, if it has one.
abbrev pub Names : Type 0
Names = List (Option StateId)

-- There are at most 32 states on either side, as in every class table.
pub record IsNaming (names : Names) : Type 0 where
  pub of_contract : length names ≤ 32
  pub of_interface : All (λ name. IfSome name (λ k. k.0 < 32)) names

-- what the interface calls a state of the contract: its own state of that name, or else any that it doesn't name
abbrev pub called_in_interface : Names → ℕ → ℕ
called_in_interface names s = option_map_or (λ (k : StateId). k.0) (option_flatten (slice_get names s)) unnamed

-- as which state the interface sees one of the contract, or no state
abbrev pub seen : Names → ℕ → ℕ
seen names s = if s == stateless then stateless else called_in_interface names s

-- the states of a contract, said for its interface
abbrev pub states_for_interface : Names → States → States
states_for_interface names a = image (seen names) a

-- the states of an interface, said for a contract that implements it
abbrev pub states_for_contract : Names → States → States
states_for_contract names b = intersection (all_states (length names)) (preimage (seen names) b)

-- a permission on a contract, said for its interface
abbrev pub for_interface : Names → Permission → Permission
for_interface names p = on_states (states_for_interface names) p

-- a permission on an interface, said for a contract that implements it
abbrev pub for_contract : Names → Permission → Permission
for_contract names p = on_states (states_for_contract names) p
