use Rattle.std.proofs.Common.{◌≡◌, true, map, drop, string_bytes}
use Rattle.std.specs.List.{flat_map}
use Rattle.ob_tree.specs.MembersView.{listed_of}
use Rattle.ob_tree_print.specs.MemberTokens.{tokens_of_list}
use Rattle.ob_tree_print.specs.Written.{written}
use Rattle.ob_tree_print.proofs.member.put_list.Given as goal

-- what is left still has to be written
abbrev pub invariant-loop-listed : goal.invariant-loop-listed
invariant-loop-listed l = written (string_bytes l.out) (tokens_of_list l.first (map listed_of (drop l.listed-index l.list))) ≡ written (string_bytes l.initial.out) (tokens_of_list true (map listed_of l.list))
