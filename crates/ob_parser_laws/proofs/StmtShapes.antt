-- The shape of the statements that tokens spell.
use Rattle.std.proofs.Common.{List, [], ◌∷◌, Option, Some, None}
use Rattle.ob_base.specs.declared.fault.Span.{Span}
use Rattle.ob_tree.specs.Exprs.{Expr, call_expr, new_expr}
use Rattle.ob_tree.specs.Stmts.{GivenExpr, Stmt, declare_stmt, assign_stmt, stage_stmt, change_stmt, call_stmt, test_stmt, if_stmt, while_stmt, return_stmt, revert_stmt, disown_stmt, assert_stmt, Block, block_with, Else, no_else, else_with, Stmts, no_stmts, and_stmt}
use Rattle.ob_lexer.specs.declared.token.Sign.TheVariants as sign'
use Rattle.ob_parser_spec.specs.Rows.{Row, ◌⨟◌, sign, each, maybe}
use Rattle.ob_parser_spec.specs.ExprRows.{expr}
use Rattle.ob_parser_spec.specs.StmtRows.{given, all_given, call_or_new, braced, stmt, stmts, block, alternative, chained}
use Rattle.ob_resolve_spec.specs.Shape.{HasExprShape, HaveGivenShapes, HasShapeIf, HasStmtShape, HasBlockShape, HasElseShape, HaveStmtShapes}
use Rattle.ob_parser_laws.proofs.RowFacts.{Says, never_says, holds, both_say, so_says, first_says, then_says, spanning_says, provided_says, either_says, raised_says}
use Rattle.ob_parser_laws.proofs.ExprShapes.{spelled_says, expr_says}

called_says : (e : Expr) → Says (call_or_new e) (HasExprShape e)
called_says (call_expr c span) = spanning_says (spelled_says (call_expr c span) 0)
called_says (new_expr of args span) = spanning_says (spelled_says (new_expr of args span) 0)
called_says e = never_says

maybe_says : (o : Option Expr) → Says (maybe expr o) (HasShapeIf o)
maybe_says None = holds tt
maybe_says (Some e) = expr_says e

-- what stands between braces
pub braced_says : {end : Span} {row : Row} {Holds : Type 0} → Says row Holds → Says (braced end row) Holds
braced_says a = then_says (first_says (raised_says 1 a))

given_says : (g : GivenExpr) → Says (given g) (HasExprShape g.value)
given_says g = then_says (then_says (expr_says g.value))

more_say : (gs : List GivenExpr) → Says (each (λ y. sign sign'.Comma ⨟ given y) gs) (HaveGivenShapes gs)
more_say [] = holds tt
more_say (g ∷ gs) = both_say (first_says (then_says (given_says g))) (then_says (more_say gs))

all_given_say : (gs : List GivenExpr) → Says (all_given gs) (HaveGivenShapes gs)
all_given_say [] = holds tt
all_given_say (g ∷ gs) = then_says (first_says (both_say (first_says (given_says g)) (then_says (more_say gs))))

mutual
  stmt_says : (x : Stmt) → Says (stmt x) (HasStmtShape x)
  stmt_says (declare_stmt of part value span) =
      spanning_says (then_says (then_says (then_says (first_says (expr_says value)))))
  stmt_says (assign_stmt part value span) = spanning_says (then_says (then_says (first_says (expr_says value))))
  stmt_says (stage_stmt state field value span) =
      spanning_says (then_says (then_says (then_says (then_says (first_says (expr_says value))))))
  stmt_says (change_stmt state values span) = spanning_says (then_says (then_says (first_says (all_given_say values))))
  stmt_says (call_stmt value span) = spanning_says (first_says (called_says value))
  stmt_says (test_stmt of state then otherwise span) =
      spanning_says (then_says (then_says (then_says (then_says (then_says (then_says (both_say
      (first_says (block_says then)) (then_says (else_says otherwise)))))))))
  stmt_says (if_stmt condition then otherwise span) =
      spanning_says (then_says (then_says (so_says (λ known. (known.0, known.1.0, known.1.1)) (both_say
      (first_says (expr_says condition))
      (then_says (then_says (both_say (first_says (block_says then)) (then_says (else_says otherwise)))))))))
  stmt_says (while_stmt condition body span) =
      spanning_says (then_says (then_says (both_say (first_says (expr_says condition))
      (then_says (then_says (block_says body))))))
  stmt_says (return_stmt value span) = spanning_says (then_says (first_says (maybe_says value)))
  stmt_says (revert_stmt text span) = spanning_says (then_says (first_says (maybe_says text)))
  stmt_says (disown_stmt part span) = holds tt
  stmt_says (assert_stmt of with span) = holds tt

  stmts_say : (xs : Stmts) → Says (stmts xs) (HaveStmtShapes xs)
  stmts_say no_stmts = holds tt
  stmts_say (and_stmt s ss) = both_say (first_says (stmt_says s)) (then_says (stmts_say ss))

  pub block_says : (b : Block) → Says (block b) (HasBlockShape b)
  block_says (block_with body end) = braced_says (stmts_say body)

  else_says : (e : Else) → Says (alternative e) (HasElseShape e)
  else_says no_else = holds tt
  else_says (else_with (block_with body end)) =
      then_says (either_says (braced_says (stmts_say body)) (chained_says body end))

  chained_says : (body : Stmts) (end : Span) → Says (chained body end) (HaveStmtShapes body)
  chained_says (and_stmt (test_stmt of state then otherwise span) no_stmts) end =
      provided_says (λ ends. raised_says 1 (so_says (λ known. (known, tt))
      (stmt_says (test_stmt of state then otherwise span))))
  chained_says (and_stmt (if_stmt condition then otherwise span) no_stmts) end =
      provided_says (λ ends. raised_says 1 (so_says (λ known. (known, tt))
      (stmt_says (if_stmt condition then otherwise span))))
  chained_says body end = never_says
