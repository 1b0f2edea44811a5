use Rattle.std.proofs.Common.{◌≡◌, true, map, drop, string_bytes}
use Rattle.std.specs.List.{flat_map}
use Rattle.ob_tree.specs.MembersView.{formal_of}
use Rattle.ob_tree_print.specs.MemberTokens.{tokens_of_formals}
use Rattle.ob_tree_print.specs.Written.{written}
use Rattle.ob_tree_print.proofs.member.put_formals.Given as goal

-- what is left still has to be written
abbrev pub invariant-loop-formal : goal.invariant-loop-formal
invariant-loop-formal l = written (string_bytes l.out) (tokens_of_formals l.first (map formal_of (drop l.formal-index l.formals))) ≡ written (string_bytes l.initial.out) (tokens_of_formals true (map formal_of l.formals))
