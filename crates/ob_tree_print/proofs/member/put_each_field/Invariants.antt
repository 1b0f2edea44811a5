use Rattle.std.proofs.Common.{◌≡◌, true, map, drop, string_bytes}
use Rattle.std.specs.List.{flat_map}
use Rattle.ob_tree.specs.MembersView.{field_of}
use Rattle.ob_tree_print.specs.MemberTokens.{tokens_of_field}
use Rattle.ob_tree_print.specs.Written.{written}
use Rattle.ob_tree_print.proofs.member.put_each_field.Given as goal

-- what is left still has to be written
abbrev pub invariant-loop-field : goal.invariant-loop-field
invariant-loop-field l = written (string_bytes l.out) (flat_map tokens_of_field (map field_of (drop l.field-index l.fields))) ≡ written (string_bytes l.initial.out) (flat_map tokens_of_field (map field_of l.fields))
