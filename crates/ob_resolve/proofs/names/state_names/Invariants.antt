use Rattle.std.proofs.Common.{◌≡◌, map, flat_map, take}
use Rattle.ob_tree.specs.MembersView.{member_of}
use Rattle.ob_resolve_spec.specs.Declarations.{states_of_member}
use Rattle.ob_resolve.proofs.names.state_names.Given as goal

abbrev pub invariant-loop-member : goal.invariant-loop-member
invariant-loop-member l = l.names ≡ flat_map states_of_member (map member_of (take l.member-index l.members))
