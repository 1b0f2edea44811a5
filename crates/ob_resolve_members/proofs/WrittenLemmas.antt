-- What is noted of types and permissions, contract by contract of a number.
use Rattle.std.proofs.Common.{◌≡◌, Bool, true, false, not, ◌&&◌, List, [], ◌∷◌, ◌++◌, Option, Some, None, if◌then◌else◌, refl, sym, ap, ◌∙◌}
use Rattle.std.specs.Option.{option_map_or}
use Rattle.ob_base.specs.declared.fault.Span.{Span}
use Rattle.ob_base.specs.declared.fault.ProgramFault.{ProgramFault}
use Rattle.ob_tree.specs.Members.{Contract}
use Rattle.ob_tree.specs.NamesView.{named_of, ref_of, ref_of-out}
use Rattle.ob_tree.specs.declared.name.NamePart.{NamePart}
use Rattle.ob_tree.specs.declared.name.NamedNode.{out-NamedNode}
use Rattle.ob_tree.specs.declared.name.RefNode.{RefNode, out-RefNode}
use Rattle.ob_tree.specs.declared.name.PermNode.{PermNode}
use Rattle.ob_resolve_spec.specs.Declarations.{part_of_named}
use Rattle.ob_resolve_spec.specs.Kinds.{contract_of_name}
use Rattle.ob_resolve_spec.specs.Visible.{a_contract, Visible}
use Rattle.ob_resolve_spec.specs.TypeSites.{perm_sites, exit_sites, ref_sites}
use Rattle.ob_resolve_spec.specs.Permissions.{WrittenPermission, written_permission, is_of, known_permission, may_leave}
use Rattle.ob_resolve_spec.specs.Sites.{Site, names_thing, leaves_permission}
use Rattle.ob_resolve_spec.specs.Faults.{is_bad_exit}
use Rattle.ob_resolve_sites.specs.Noted.{noted_if, noted, noted-append}
use Rattle.ob_resolve_sites.proofs.NamingLemmas.{naming, part_of_node}
use Rattle.ob_base.specs.Faults as faults

bad_exit : (a b : Bool) (p q : WrittenPermission) (span : Span)
    → is_bad_exit (leaves_permission (if a then Some p else None) (if b then Some q else None) span)
    ≡ (a && b && not (may_leave p q))
bad_exit true true p q span = refl
bad_exit true false p q span = refl
bad_exit false b p q span = refl

-- whether a permission on a contract can't follow another
abbrev leaves_badly : PermNode → PermNode → Contract → Bool
leaves_badly entry exit c =
    is_of c entry && is_of c exit && not (may_leave (written_permission entry) (written_permission exit))

-- a fault at the end of what is held, on a contract that may be missing
pub leaves_noted : (l : Option ProgramFault) (o : Option Contract) (entry exit : PermNode) (span : Span)
    → noted_if l (option_map_or (leaves_badly entry exit) o false) faults.bad_exit span
    ≡ noted l (option_map_or (λ c. leaves_permission (known_permission c entry) (known_permission c exit) span ∷ []) o [])
leaves_noted l None entry exit span = refl
leaves_noted l (Some c) entry exit span =
    let p = written_permission entry in
    let q = written_permission exit in
    sym (ap (λ b. noted_if l b faults.bad_exit span) (bad_exit (is_of c entry) (is_of c exit) p q span))

-- two lists of sites, one after the other, of a contract that may be missing
pub contract-append : (l : Option ProgramFault) (o : Option Contract) (f g : Contract → List Site)
    → noted (noted l (option_map_or f o [])) (option_map_or g o []) ≡ noted l (option_map_or (λ c. f c ++ g c) o [])
contract-append l None f g = refl
contract-append l (Some c) f g = sym (noted-append l (f c) (g c))

-- permissions on a contract of this name, if there is one
abbrev perms_on : Visible → NamePart → PermNode → Option PermNode → List Site
perms_on v name perm exit =
    option_map_or (λ c. perm_sites c perm ++ exit_sites c perm exit name.span) (contract_of_name v.program name.name) []

-- the name in a reference's type
abbrev pub name_in : RefNode → NamePart
name_in node = record {
  name = (out-NamedNode (out-RefNode node).of).name;
  span = (out-NamedNode (out-RefNode node).of).span;
}

-- a reference's type that is taken apart: its name, and its permissions on the contract of that name
pub ref_apart : (v : Visible) (node : RefNode) (exit : Option PermNode)
    → ref_sites v (ref_of node) exit
    ≡ names_thing a_contract v (part_of_named (named_of (out-RefNode node).of))
    ∷ perms_on v (name_in node) (out-RefNode node).perm exit
ref_apart v node exit =
    let of = (out-RefNode node).of in
    let site = names_thing a_contract v (part_of_named (named_of of)) in
    ap (λ r. ref_sites v r exit) (ref_of-out node)
    ∙ ap (λ name. site ∷ perms_on v name (out-RefNode node).perm exit) (part_of_node of)

pub ruleset written = (naming, leaves_noted, contract-append, ref_apart)
