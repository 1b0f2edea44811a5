use Rattle.std.proofs.Common.{◌≡◌, map, take}
use Rattle.std.specs.Prelude.{flat_map}
use Rattle.ob_tree.specs.MembersView.{member_of}
use Rattle.ob_resolve_spec.specs.Declarations.{fields_of_member}
use Rattle.ob_resolve_scope.specs.Numbered.{numbered}
use Rattle.ob_resolve_scope.specs.Members.{kind_of_declaration}
use Rattle.ob_resolve_scope.specs.Types.{program_of}
use Rattle.ob_resolve_scope.proofs.declared.fields_of.Given as goal

abbrev pub invariant-loop-member : goal.invariant-loop-member
invariant-loop-member l = record {
  names : l.names ≡ numbered (map (λ f. f.field.name.name)
      (flat_map fields_of_member (map member_of (take l.member-index l.members))));
  kinds : l.kinds ≡ map (kind_of_declaration (program_of l.types))
      (flat_map fields_of_member (map member_of (take l.member-index l.members)));
}
