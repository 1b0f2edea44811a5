use Rattle.std.proofs.Common.{◌≡◌, true, map, drop, string_bytes}
use Rattle.std.specs.List.{flat_map}
use Rattle.ob_tree.specs.MembersView.{member_of}
use Rattle.ob_tree_print.specs.MemberTokens.{tokens_of_member}
use Rattle.ob_tree_print.specs.Written.{written}
use Rattle.ob_tree_print.proofs.contract.put_each_member.Given as goal

-- what is left still has to be written
abbrev pub invariant-loop-member : goal.invariant-loop-member
invariant-loop-member l = written (string_bytes l.out) (flat_map tokens_of_member (map member_of (drop l.member-index l.members))) ≡ written (string_bytes l.initial.out) (flat_map tokens_of_member (map member_of l.members))
