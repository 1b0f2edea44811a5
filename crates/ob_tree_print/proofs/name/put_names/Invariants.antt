use Rattle.std.proofs.Common.{◌≡◌, true, drop, string_bytes}
use Rattle.ob_tree_print.specs.NameTokens.{tokens_of_names}
use Rattle.ob_tree_print.specs.Written.{written}
use Rattle.ob_tree_print.proofs.name.put_names.Given as goal

-- what is left still has to be written
abbrev pub invariant-loop-part : goal.invariant-loop-part
invariant-loop-part l = written (string_bytes l.out) (tokens_of_names l.between l.first (drop l.part-index l.names)) ≡ written (string_bytes l.initial.out) (tokens_of_names l.between true l.names)
