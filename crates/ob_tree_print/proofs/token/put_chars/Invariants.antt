use Rattle.std.proofs.Common.{◌≡◌, ◌++◌, string_bytes}
use Rattle.std.specs.List.{flat_map}
use Rattle.ob_tree_print.specs.Layout.{escape_of}
use Rattle.ob_tree_print.proofs.token.put_chars.Given as goal

-- what is left, escaped, still has to be written
abbrev pub invariant-loop-ch : goal.invariant-loop-ch
invariant-loop-ch l = string_bytes l.out ++ flat_map escape_of l.ch-iterator.rest.now ≡ string_bytes l.initial.out ++ flat_map escape_of l.text
