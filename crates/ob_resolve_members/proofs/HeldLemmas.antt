-- What is held of `this`, in the parts of the tree.
use Rattle.std.proofs.Common.{◌≡◌, Option, sym, ap, ◌∙◌}
use Rattle.std.specs.Prelude.{◌&&◌, if◌then◌else◌}
use Rattle.ob_tree.specs.Names.{Ref, ref_type}
use Rattle.ob_tree.specs.Members.{Contract}
use Rattle.ob_tree.specs.NamesView.{ref_of, ref_of-out}
use Rattle.ob_tree.specs.declared.name.NamePart.{NamePart}
use Rattle.ob_tree.specs.declared.name.NamedNode.{out-NamedNode}
use Rattle.ob_tree.specs.declared.name.RefNode.{RefNode, out-RefNode}
use Rattle.ob_tree.specs.declared.name.PermNode.{PermNode}
use Rattle.ob_table_spec.specs.Names.{same}
use Rattle.ob_resolve_spec.specs.Permissions.{is_of, known_permission, known_exit}
use Rattle.ob_resolve_spec.specs.Interfaces.{held_unknown, held_by_type}
use Rattle.ob_resolve_scope.proofs.TypesLemmas.{part_of-out}
use Rattle.ob_resolve_members.specs.Written.{is_own}

pub own-parts : (c : Contract) (node : RefNode)
    → is_own c (ref_of node) ≡ (same c.name (out-NamedNode (out-RefNode node).of).name && is_of c
    (out-RefNode node).perm)
own-parts c node =
    ap (is_own c) (ref_of-out node)
    ∙ ap (λ (part : NamePart). same c.name part.name && is_of c (out-RefNode node).perm)
    (part_of-out (out-RefNode node).of)

pub held-parts : (c : Contract) (node : RefNode) (exit : Option PermNode)
    → held_by_type c (ref_type (ref_of node)) exit
    ≡ (if is_own c (ref_of node) then record {
      entry = known_permission c (out-RefNode node).perm;
      exit = known_exit c
          (out-RefNode node).perm exit;
    }
    else held_unknown)
held-parts c node exit =
    ap (λ (r : Ref). held_by_type c (ref_type r) exit) (ref_of-out node)
    ∙ ap (λ (r : Ref). if is_own c r then record {
      entry = known_permission c
          (out-RefNode node).perm;
      exit = known_exit c (out-RefNode node).perm exit;
    } else held_unknown)
    (sym (ref_of-out node))

pub ruleset holding = (own-parts, held-parts)
