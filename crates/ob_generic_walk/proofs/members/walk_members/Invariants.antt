use Rattle.std.proofs.Common.{◌≡◌, drop, map}
use Rattle.std.specs.List.{flat_map}
use Rattle.ob_tree.specs.MembersView.{member_of}
use Rattle.ob_generic_spec.specs.Uses.{types_in_member}
use Rattle.ob_generic_walk.specs.Seen.{met}
use Rattle.ob_generic_walk.proofs.members.walk_members.Given as goal

abbrev pub invariant-loop-member : goal.invariant-loop-member
invariant-loop-member l =
    met l.around l.found (flat_map types_in_member (map member_of (drop l.member-index l.members)))
    ≡ met l.around l.fn.found (flat_map types_in_member (map member_of l.members))
