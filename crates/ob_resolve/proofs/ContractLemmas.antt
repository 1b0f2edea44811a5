-- What is noted of a contract: what it declares, and its interface.
use Rattle.std.proofs.Common.{◌≡◌, ℕ, not, List, [], ◌∷◌, ◌++◌, Option, Some, None, true, option_map, map, refl, ap, ◌∙◌}
use Rattle.std.specs.Prelude.{slice_get}
use Rattle.std.specs.Option.{option_map_or}
use Rattle.ob_base.specs.declared.fault.Span.{Span}
use Rattle.ob_base.specs.declared.fault.ProgramFault.{ProgramFault}
use Rattle.ob_tree.specs.Members.{Contract}
use Rattle.ob_tree.specs.MembersView.{contract_of}
use Rattle.ob_tree.specs.declared.name.NamePart.{NamePart}
use Rattle.ob_tree.specs.declared.contract.ContractNode.{ContractNode}
use Rattle.ob_resolve_spec.specs.Declarations.{Program, part_of_named, declared_contract, Constructor}
use Rattle.ob_resolve_spec.specs.Interfaces.{meets}
use Rattle.ob_resolve_spec.specs.Sites.{implements_interface}
use Rattle.ob_resolve_spec.specs.TypeSites.{declared_sites, limit_sites}
use Rattle.ob_resolve_scope.specs.Types.{program_of}
use Rattle.ob_resolve_sites.specs.Noted.{noted_if, noted, notes}
use Rattle.ob_resolve_sites.proofs.NamingLemmas.{node_at}
use Rattle.ob_resolve_members.proofs.DistinctLists.{declared-map, limit-map}
use Rattle.ob_base.specs.Faults as faults

-- names that are gathered first, and how many there are
pub gathered : {A : Type 0} (f : A → NamePart) (most : ℕ) (xs : List A) (names : List NamePart) → names ≡ map f xs
    → declared_sites (λ p. p) [] names ++ limit_sites (λ p. p) most names
    ≡ declared_sites f [] xs ++ limit_sites f most xs
gathered f most xs names e =
    ap (λ ns. declared_sites (λ p. p) [] ns ++ limit_sites (λ p. p) most ns) e
    ∙ ap (λ ss. ss ++ limit_sites (λ p. p) most (map f xs)) (declared-map f [] xs)
    ∙ ap (λ ss. declared_sites f [] xs ++ ss) (limit-map f most xs)

pub constructors_noted : (l : Option ProgramFault) (xs : List Constructor) (names : List NamePart)
    → names ≡ map (λ m. part_of_named m.of) xs
    → noted l (declared_sites (λ p. p) [] names) ≡ noted l (declared_sites (λ m. part_of_named m.of) [] xs)
constructors_noted l xs names e =
    ap (λ ns. noted l (declared_sites (λ p. p) [] ns)) e
    ∙ ap (noted l) (declared-map (λ (m : Constructor). part_of_named m.of) [] xs)

-- whether a contract has what its interface asks, which may be missing
pub meets_noted : (l : Option ProgramFault) (program : Program) (own : Contract) (o : Option Contract) (span : Span)
    → noted_if l (not (option_map_or (λ i. meets program i own) o true)) faults.interface_mismatch span
    ≡ noted l (option_map_or (λ i. implements_interface program i own span ∷ []) o [])
meets_noted l program own None span = refl
meets_noted l program own (Some i) span = refl

-- the contract at its number
pub own_at : (nodes : List ContractNode) (n : ℕ) (own : ContractNode) → slice_get nodes n ≡ Some own
    → declared_contract (program_of nodes) n ≡ Some (contract_of own)
own_at nodes n own e = node_at nodes n ∙ ap (option_map contract_of) e

pub ruleset contracts = (notes, constructors_noted, meets_noted, own_at)
