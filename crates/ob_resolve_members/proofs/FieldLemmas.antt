-- What is noted of fields, one after another.
use Rattle.std.proofs.Common.{◌≡◌, ℕ, Bool, true, false, not, ◌&&◌, List, [], ◌∷◌, Option, Some, None, if◌then◌else◌, map, flat_map, length, drop, get_or, refl, ap, ◌∙◌, ◌<◌, ◌+◌}
use Rattle.std.specs.Option.{option_map_or}
use Rattle.ob_base.specs.declared.fault.Span.{Span}
use Rattle.ob_base.specs.declared.fault.ProgramFault.{ProgramFault}
use Rattle.ob_tree.specs.Names.{ref_type}
use Rattle.ob_tree.specs.NamesView.{ref_of, ref_of-out}
use Rattle.ob_tree.specs.Members.{Contract}
use Rattle.ob_tree.specs.MembersView.{field_of}
use Rattle.ob_tree.specs.declared.name.PermNode.{PermNode}
use Rattle.ob_tree.specs.declared.name.RefNode.{RefNode, out-RefNode}
use Rattle.ob_tree.specs.declared.member.FieldNode.{FieldNode}
use Rattle.ob_resolve_spec.specs.Declarations.{Program}
use Rattle.ob_resolve_spec.specs.Permissions.{written_permission, is_of, known_permission, is_owning}
use Rattle.ob_resolve_spec.specs.Kinds.{contract_of_name}
use Rattle.ob_resolve_spec.specs.Sites.{Site, holds_object}
use Rattle.ob_resolve_spec.specs.MemberSites.{holder_sites}
use Rattle.ob_resolve_sites.specs.Noted.{noted_if, noted}
use Rattle.ob_resolve_members.specs.Parts.{inside_sites}
use Rattle.ob_resolve_sites.proofs.NamingLemmas.{naming, part_of_node}
use Rattle.ob_resolve_members.proofs.WrittenLemmas.{name_in}
use Rattle.ob_resolve_members.proofs.ListTurns.{flat_map-turn}
use Rattle.ob_base.specs.Faults as faults

-- what is asked of a field that refers to a contract with this permission
abbrev holds_on : Contract → PermNode → Span → Contract → List Site
holds_on own perm span c = option_map_or (λ p. holds_object own c p span ∷ []) (known_permission c perm) []

-- a contract that is no asset and owns one, which may be missing
pub holds_noted : (l : Option ProgramFault) (own : Contract) (o : Option Contract) (perm : PermNode) (span : Span)
    → (let is_asset = option_map_or (λ c. c.asset) o false in
    let is_known = option_map_or (λ c. is_of c perm) o false in
    noted_if l (not own.asset && (is_asset && is_known && is_owning (written_permission perm))) faults.non_asset_owner span
    ≡ noted l (option_map_or (holds_on own perm span) o []))
holds_noted l own None perm span = none own.asset
  where
    none : (a : Bool) → noted_if l (not a && false) faults.non_asset_owner span ≡ l
    none true = refl
    none false = refl
holds_noted l own (Some c) perm span = by (is_of c perm)
  where
    known : (a b owns : Bool) → (not a && (b && true && owns)) ≡ (not a && b && owns)
    known true b owns = refl
    known false true owns = refl
    known false false owns = refl

    unknown : (a b owns : Bool) → (not a && (b && false && owns)) ≡ false
    unknown true b owns = refl
    unknown false true owns = refl
    unknown false false owns = refl

    by : (k : Bool)
        → noted_if l (not own.asset && (c.asset && k && is_owning (written_permission perm))) faults.non_asset_owner span
        ≡ noted l (option_map_or (λ p. holds_object own c p span ∷ []) (if k then Some (written_permission perm) else None) [])
    by true = ap (λ b. noted_if l b faults.non_asset_owner span) (known own.asset c.asset (is_owning (written_permission perm)))
    by false = ap (λ b. noted_if l b faults.non_asset_owner span) (unknown own.asset c.asset (is_owning (written_permission perm)))

-- a field's type that is taken apart
pub holder_apart : (program : Program) (own : Contract) (node : RefNode) (span : Span)
    → holder_sites program own (ref_type (ref_of node)) span
    ≡ option_map_or (holds_on own (out-RefNode node).perm span) (contract_of_name program (name_in node).name) []
holder_apart program own node span =
    ap (λ r. holder_sites program own (ref_type r) span) (ref_of-out node)
    ∙ ap (λ name. option_map_or (holds_on own (out-RefNode node).perm span) (contract_of_name program name.name) [])
    (part_of_node (out-RefNode node).of)

pub inside_turn : (program : Program) (own : Contract) (l : Option ProgramFault) (xs : List FieldNode) (i : ℕ)
    (x : FieldNode)
    → i < length xs → x ≡ get_or xs i x
    → noted (noted l (inside_sites program own (field_of x)))
    (flat_map (inside_sites program own) (map field_of (drop (i + 1) xs)))
    ≡ noted l (flat_map (inside_sites program own) (map field_of (drop i xs)))
inside_turn program own l xs i x h is = flat_map-turn (inside_sites program own) field_of l xs i x h is

pub ruleset fields = (naming, holds_noted, holder_apart, inside_turn)
