use Rattle.std.proofs.Common.{◌≡◌, map, drop}
use Rattle.std.specs.Prelude.{flat_map}
use Rattle.ob_tree.specs.MembersView.{member_of}
use Rattle.ob_resolve_spec.specs.Declarations.{constructors_of_member}
use Rattle.ob_resolve_table.specs.Parts.{first_constructor}
use Rattle.ob_resolve_table.proofs.constructors.first_constructor.Given as goal

abbrev pub invariant-loop-member : goal.invariant-loop-member
invariant-loop-member l =
    first_constructor l.name (flat_map constructors_of_member (map member_of (drop l.member-index l.members)))
    ≡ first_constructor l.name (flat_map constructors_of_member (map member_of l.members))
