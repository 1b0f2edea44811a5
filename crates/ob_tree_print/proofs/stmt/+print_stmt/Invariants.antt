use Rattle.std.proofs.Common.{◌≡◌, drop, string_bytes}
use Rattle.ob_tree.specs.StmtsView.{stmts_of}
use Rattle.ob_tree_print.specs.StmtTokens.{tokens_of_stmts}
use Rattle.ob_tree_print.specs.Written.{written}
use Rattle.ob_tree_print.proofs.stmt.+print_stmt.Given as goal

-- what is left still has to be written
abbrev pub invariant-put_statements-loop-statement : goal.invariant-put_statements-loop-statement
invariant-put_statements-loop-statement l = written (string_bytes l.out) (tokens_of_stmts (stmts_of (drop l.statement-index l.statements))) ≡ written (string_bytes l.initial.out) (tokens_of_stmts (stmts_of l.statements))
