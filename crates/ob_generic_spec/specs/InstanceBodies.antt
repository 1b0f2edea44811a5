-- Expressions and statements in the tree of the instances: only their types and permissions change (this project's own).
use Rattle.std.specs.Prelude.{map, Option, option_map}
use Rattle.ob_tree.specs.Exprs.{Expr, number_expr, text_expr, bool_expr, name_expr, this_expr, unary_expr, binary_expr, call_expr, new_expr, Call, call_with, Exprs, no_exprs, and_expr}
use Rattle.ob_tree.specs.Stmts.{GivenExpr, Stmt, declare_stmt, assign_stmt, stage_stmt, change_stmt, call_stmt, test_stmt, if_stmt, while_stmt, return_stmt, revert_stmt, disown_stmt, assert_stmt, Block, block_with, Else, no_else, else_with, Stmts, no_stmts, and_stmt}
use Rattle.ob_generic_spec.specs.Substitution.{Own, perm_in}
use Rattle.ob_generic_spec.specs.InstanceTypes.{named_in, local_in}
use Rattle.ob_generic_spec.specs.declared.role.Role.TheVariants.{Anywhere}

abbrev mutual
  -- an expression
  pub expr_in : Option Own → Expr → Expr
  expr_in own (number_expr value span) = number_expr value span
  expr_in own (text_expr value span) = text_expr value span
  expr_in own (bool_expr value span) = bool_expr value span
  expr_in own (name_expr name span) = name_expr name span
  expr_in own (this_expr token span) = this_expr token span
  expr_in own (unary_expr operator sign operand span) = unary_expr operator sign (expr_in own operand) span
  expr_in own (binary_expr operator sign left right span) =
      binary_expr operator sign (expr_in own left) (expr_in own right) span
  expr_in own (call_expr call span) = call_expr (call_in own call) span
  expr_in own (new_expr of args span) = new_expr (named_in own Anywhere of) (exprs_in own args) span

  -- a call
  pub call_in : Option Own → Call → Call
  call_in own (call_with receiver name args) = call_with receiver name (exprs_in own args)

  -- expressions one after another
  pub exprs_in : Option Own → Exprs → Exprs
  exprs_in own no_exprs = no_exprs
  exprs_in own (and_expr e es) = and_expr (expr_in own e) (exprs_in own es)

-- a given field
abbrev pub given_in : Option Own → GivenExpr → GivenExpr
given_in own given = record { field = given.field; value = expr_in own given.value }

abbrev mutual
  -- a statement
  pub stmt_in : Option Own → Stmt → Stmt
  stmt_in own (declare_stmt of name value span) = declare_stmt (local_in own of) name (expr_in own value) span
  stmt_in own (assign_stmt name value span) = assign_stmt name (expr_in own value) span
  stmt_in own (stage_stmt state field value span) = stage_stmt state field (expr_in own value) span
  stmt_in own (change_stmt state given span) = change_stmt state (map (given_in own) given) span
  stmt_in own (call_stmt value span) = call_stmt (expr_in own value) span
  stmt_in own (test_stmt subject state branch otherwise span) =
      test_stmt subject state (block_in own branch) (else_in own otherwise) span
  stmt_in own (if_stmt condition branch otherwise span) =
      if_stmt (expr_in own condition) (block_in own branch) (else_in own otherwise) span
  stmt_in own (while_stmt condition body span) = while_stmt (expr_in own condition) (block_in own body) span
  stmt_in own (return_stmt value span) = return_stmt (option_map (expr_in own) value) span
  stmt_in own (revert_stmt text span) = revert_stmt (option_map (expr_in own) text) span
  stmt_in own (disown_stmt name span) = disown_stmt name span
  stmt_in own (assert_stmt subject perm span) = assert_stmt subject (perm_in own perm) span

  -- a block
  pub block_in : Option Own → Block → Block
  block_in own (block_with statements end) = block_with (stmts_in own statements) end

  -- the block after `else`
  pub else_in : Option Own → Else → Else
  else_in own no_else = no_else
  else_in own (else_with block) = else_with (block_in own block)

  -- statements one after another
  pub stmts_in : Option Own → Stmts → Stmts
  stmts_in own no_stmts = no_stmts
  stmts_in own (and_stmt x xs) = and_stmt (stmt_in own x) (stmts_in own xs)
