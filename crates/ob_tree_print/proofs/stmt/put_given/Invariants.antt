use Rattle.std.proofs.Common.{◌≡◌, true, map, drop, string_bytes}
use Rattle.ob_tree.specs.StmtsView.{given_of}
use Rattle.ob_tree_print.specs.StmtTokens.{tokens_of_given}
use Rattle.ob_tree_print.specs.Written.{written}
use Rattle.ob_tree_print.proofs.stmt.put_given.Given as goal

-- what is left still has to be written
abbrev pub invariant-loop-one : goal.invariant-loop-one
invariant-loop-one l = written (string_bytes l.out) (tokens_of_given l.first (map given_of (drop l.one-index l.given))) ≡ written (string_bytes l.initial.out) (tokens_of_given true (map given_of l.given))
