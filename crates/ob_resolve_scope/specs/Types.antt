-- The contracts of a program and their states, by name.
use Rattle.std.specs.Prelude.{◌≡◌, ℕ, ◌+◌, false, List, map, length, Option, Some, None, if◌then◌else◌}
use Rattle.std.specs.Option.{option_map_or}
use Rattle.ob_tree.specs.MembersView.{contract_of}
use Rattle.ob_tree.specs.declared.name.PermNode.{PermNode}
use Rattle.ob_tree.specs.declared.contract.ContractNode.{ContractNode}
use Rattle.ob_table_spec.specs.Names.{Name}
use Rattle.ob_resolve_spec.specs.Declarations.{Program, declared_contract, state_names}
use Rattle.ob_resolve_spec.specs.Permissions.{is_of}
use Rattle.ob_resolve_spec.specs.declared.kind.InferredKind.{InferredKind}
use Rattle.ob_resolve_spec.specs.declared.kind.InferredKind.TheVariants.{Reference as a_reference, Unknown as unknown}
use Rattle.ob_resolve_scope.specs.Numbered.{numbered_from, numbered}
use Rattle.ob_resolve_scope.specs.declared.members.States.{States}

-- a program as plain data
abbrev pub program_of : List ContractNode → Program
program_of nodes = map contract_of nodes

-- states of these names
abbrev pub states_named : List Name → States
states_named names = record { names = numbered names; count = length names }

-- states of these names after those that are there
abbrev pub with_states : States → List Name → States
with_states states names = record {
  names = numbered_from states.names states.count names;
  count = states.count + length names;
}

-- names of contracts, and the states of each: those of the program
pub record AreTypes (nodes : List ContractNode) (contracts : List (Name × ℕ)) (states : List States) : Type 0 where
  pub contracts_are : contracts ≡ numbered (map (λ c. c.name) (program_of nodes))
  pub states_are : states ≡ map (λ c. states_named (state_names c)) (program_of nodes)

-- a reference to the contract of this number, with a permission of that contract
abbrev pub referring : Program → Option ℕ → PermNode → InferredKind
referring program None perm = unknown
referring program (Some n) perm =
    if option_map_or (λ c. is_of c perm) (declared_contract program n) false then a_reference n else unknown

-- the number, if it is that of an interface
abbrev pub interface_at : Program → Option ℕ → Option ℕ
interface_at program None = None
interface_at program (Some n) =
    if option_map_or (λ c. c.interface) (declared_contract program n) false then Some n else None
