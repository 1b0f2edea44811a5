use Rattle.std.proofs.Common.{◌≡◌, take, map}
use Rattle.ob_tree.specs.MembersView.{member_of}
use Rattle.ob_generic_spec.specs.InstanceTrees.{member_in}
use Rattle.ob_generic.proofs.members.members_in.Given as goal

abbrev pub invariant-loop-member : goal.invariant-loop-member
invariant-loop-member l = map member_of l.out ≡ map (member_in l.own) (map member_of (take l.member-index l.members))
