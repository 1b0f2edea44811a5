use Rattle.std.proofs.Common.{◌≡◌, true, drop, string_bytes}
use Rattle.ob_tree.specs.ExprsView.{exprs_of}
use Rattle.ob_tree_print.specs.ExprTokens.{tokens_of_args}
use Rattle.ob_tree_print.specs.Written.{written}
use Rattle.ob_tree_print.proofs.expr.+print_expr.Given as goal

-- what is left still has to be written
abbrev pub invariant-put_args-loop-arg : goal.invariant-put_args-loop-arg
invariant-put_args-loop-arg l = written (string_bytes l.out) (tokens_of_args l.first (exprs_of (drop l.arg-index l.args))) ≡ written (string_bytes l.initial.out) (tokens_of_args true (exprs_of l.args))
