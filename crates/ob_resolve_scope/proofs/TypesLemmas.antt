-- Contracts and their states, by name.
use Rattle.std.proofs.Common.{◌≡◌, ℕ, false, List, [], ◌∷◌, map, Option, Some, None, refl, sym, ap, ◌∙◌}
use Rattle.std.specs.Prelude.{◌&&◌, option_map, option_and_then, slice_get, is_some, if◌then◌else◌}
use Rattle.std.specs.Option.{option_map_or}
use Rattle.std.specs.List.{list_all}
use Rattle.std.proofs.lemmas.Option.{slice_get-map}
use Rattle.ob_tree.specs.Names.{Ref}
use Rattle.ob_tree.specs.Members.{Contract}
use Rattle.ob_tree.specs.NamesView.{named_of, named_of-out, ref_of, ref_of-out, named_with}
use Rattle.ob_tree.specs.MembersView.{contract_of}
use Rattle.ob_tree.specs.declared.contract.ContractNode.{ContractNode}
use Rattle.ob_tree.specs.declared.name.NamePart.{NamePart}
use Rattle.ob_tree.specs.declared.name.NamedNode.{NamedNode, out-NamedNode}
use Rattle.ob_tree.specs.declared.name.RefNode.{RefNode, out-RefNode}
use Rattle.ob_base.specs.declared.fault.Span.{Span}
use Rattle.ob_table_spec.specs.Names.{Name, is_among, number_of}
use Rattle.ob_resolve_spec.specs.Declarations.{Program, part_of_named, number_of_contract, declared_contract, state_names}
use Rattle.ob_resolve_spec.specs.Permissions.{is_of}
use Rattle.ob_resolve_spec.specs.declared.kind.InferredKind.TheVariants.{Unknown as unknown}
use Rattle.ob_resolve_spec.specs.Kinds.{contract_of_name, kind_of_name, kind_of_ref, interface_named}
use Rattle.ob_resolve_scope.specs.Numbered.{find, numbered}
use Rattle.ob_resolve_scope.specs.Types.{program_of, states_named, AreTypes, referring, interface_at}
use Rattle.ob_resolve_scope.specs.declared.members.States.{States}
use Rattle.ob_resolve_scope.proofs.NumberedLemmas.{find-numbered, number_of-is_some}

-- Contracts.

pub contract_found : (nodes : List ContractNode) (contracts : List (Name × ℕ)) (states : List States)
    (name : Name) → AreTypes nodes contracts states → find name contracts ≡ number_of_contract (program_of nodes) name
contract_found nodes contracts states name t =
    ap (find name) t.contracts_are ∙ find-numbered name (map (λ c. c.name) (program_of nodes))

pub contract_at-nodes : (nodes : List ContractNode) (n : ℕ)
    → declared_contract (program_of nodes) n ≡ option_map contract_of (slice_get nodes n)
contract_at-nodes nodes n = slice_get-map contract_of nodes n

-- States.

pub states_at : (nodes : List ContractNode) (contracts : List (Name × ℕ)) (states : List States) (n : ℕ)
    → AreTypes nodes contracts states
    → slice_get states n ≡ option_map (λ c. states_named (state_names c)) (declared_contract (program_of nodes) n)
states_at nodes contracts states n t =
    ap (λ xs. slice_get xs n) t.states_are ∙ slice_get-map (λ c. states_named (state_names c)) (program_of nodes) n

-- what is said of the states of a contract
pub of_states : {A : Type 0} (f : States → A) (g : Contract → A) (c : Option Contract) (o : Option States)
    → ((c : Contract) → f (states_named (state_names c)) ≡ g c) → o ≡ option_map (λ c. states_named (state_names c)) c
    → option_map f o ≡ option_map g c
of_states f g None o h e = ap (option_map f) e
of_states f g (Some c) o h e = ap (option_map f) e ∙ ap Some (h c)

-- a state is found among those of the contract
pub state_in : (name : Name) (c : Option Contract) (o : Option (List (Name × ℕ)))
    → o ≡ option_map (λ c. numbered (state_names c)) c
    → option_and_then (find name) o ≡ option_and_then (λ c. number_of name (state_names c)) c
state_in name None o e = ap (option_and_then (find name)) e
state_in name (Some c) o e = ap (option_and_then (find name)) e ∙ find-numbered name (state_names c)

pub state_found : (c : Contract) (name : Name)
    → find name (numbered (state_names c)) ≡ number_of name (state_names c)
state_found c name = find-numbered name (state_names c)

-- names that are found are among the others
pub all_among : (names : List Name) (states : List NamePart)
    → list_all (λ s. is_some (find s.name (numbered names))) states ≡ list_all (λ s. is_among s.name names) states
all_among names [] = refl
all_among names (s ∷ states) =
    ap (λ b. b && list_all (λ s. is_some (find s.name (numbered names))) states)
    (ap is_some (find-numbered s.name names) ∙ number_of-is_some s.name names)
    ∙ ap (λ b. is_among s.name names && b) (all_among names states)

pub ruleset types = (contract_found, contract_at-nodes, states_at, state_found, all_among)

-- Names as they are written.

part_with : (name : Name) (argument : Option Ref) (span : Span)
    → part_of_named (named_with name argument span) ≡ record { name = name; span = span }
part_with name None span = refl
part_with name (Some of) span = refl

-- the name without its argument
pub part_of-out : (node : NamedNode)
    → part_of_named (named_of node) ≡ record { name = (out-NamedNode node).name; span = (out-NamedNode node).span }
part_of-out node =
    ap part_of_named (named_of-out node)
    ∙ part_with (out-NamedNode node).name (option_map ref_of (out-NamedNode node).argument) (out-NamedNode node).span

pub referring-found : (program : Program) (node : RefNode)
    → referring program (number_of_contract program (out-NamedNode (out-RefNode node).of).name) (out-RefNode node).perm
    ≡ kind_of_ref program (ref_of node)
referring-found program node =
    by (number_of_contract program (out-NamedNode (out-RefNode node).of).name) refl
    ∙ ap (λ (part : NamePart). if option_map_or (λ c. is_of c (out-RefNode node).perm)
    (contract_of_name program part.name) false then kind_of_name program part.name else unknown)
    (sym (part_of-out (out-RefNode node).of))
    ∙ ap (kind_of_ref program) (sym (ref_of-out node))
  where
    by : (o : Option ℕ) → number_of_contract program (out-NamedNode (out-RefNode node).of).name ≡ o
        → referring program o (out-RefNode node).perm
        ≡ (if option_map_or (λ c. is_of c (out-RefNode node).perm)
        (contract_of_name program (out-NamedNode (out-RefNode node).of).name) false
        then kind_of_name program (out-NamedNode (out-RefNode node).of).name else unknown)
    by None e = rw e refl
    by (Some n) e = rw e refl

pub interface-found : (program : Program) (node : NamedNode)
    → interface_at program (number_of_contract program (out-NamedNode node).name)
    ≡ interface_named program (part_of_named (named_of node)).name
interface-found program node =
    by (number_of_contract program (out-NamedNode node).name) refl
    ∙ ap (λ (part : NamePart). interface_named program part.name) (sym (part_of-out node))
  where
    by : (o : Option ℕ) → number_of_contract program (out-NamedNode node).name ≡ o
        → interface_at program o ≡ interface_named program (out-NamedNode node).name
    by None e = rw e refl
    by (Some n) e = rw e refl

pub ruleset kinds = (part_of-out, referring-found, interface-found)
