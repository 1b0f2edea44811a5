use Rattle.std.proofs.Common.{◌≡◌, map, take}
use Rattle.std.specs.Prelude.{flat_map}
use Rattle.ob_tree.specs.MembersView.{member_of}
use Rattle.ob_resolve_spec.specs.Declarations.{transactions_of_member}
use Rattle.ob_resolve_scope.specs.Numbered.{numbered}
use Rattle.ob_resolve_scope.specs.Members.{heading_of}
use Rattle.ob_resolve_scope.specs.Types.{program_of}
use Rattle.ob_resolve_scope.proofs.declared.transactions_of.Given as goal

abbrev pub invariant-loop-member : goal.invariant-loop-member
invariant-loop-member l = record {
  names : l.names ≡ numbered (map (λ t. t.name.name)
      (flat_map transactions_of_member (map member_of (take l.member-index l.members))));
  headings : l.headings ≡ map (heading_of (program_of l.types))
      (flat_map transactions_of_member (map member_of (take l.member-index l.members)));
}
