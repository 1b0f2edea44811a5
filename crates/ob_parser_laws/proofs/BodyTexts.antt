-- The names in the types of bodies that tokens spell are texts.
use Rattle.std.proofs.Common.{ℕ, List, [], ◌∷◌, ◌++◌, flat_map, Option, Some, None}
use Rattle.std.specs.Option.{option_map_or}
use Rattle.ob_base.specs.declared.fault.Span.{Span}
use Rattle.ob_lexer.specs.declared.token.Sign.TheVariants as sign'
use Rattle.ob_tree.specs.Exprs.{Expr, number_expr, text_expr, bool_expr, name_expr, this_expr, unary_expr, binary_expr, call_expr, new_expr, Call, call_with, Exprs, no_exprs, and_expr}
use Rattle.ob_tree.specs.Operators.{left_span, right_span, operand_span}
use Rattle.ob_tree.specs.Stmts.{Local, int_local, bool_local, text_local, named_local, GivenExpr, Stmt, declare_stmt, assign_stmt, stage_stmt, change_stmt, call_stmt, test_stmt, if_stmt, while_stmt, return_stmt, revert_stmt, disown_stmt, assert_stmt, Block, block_with, Else, no_else, else_with, Stmts, no_stmts, and_stmt}
use Rattle.ob_parser_spec.specs.Rows.{maybe}
use Rattle.ob_parser_spec.specs.ExprRows.{placed, spelled, call, arguments, more_arguments, expr}
use Rattle.ob_parser_spec.specs.StmtRows.{local, given, all_given, call_or_new, stmt, stmts, block, alternative, chained}
use Rattle.ob_generic_spec.specs.Uses.{types_in_local, types_in_expr, types_in_call, types_in_exprs, types_in_given, types_in_stmt, types_in_block, types_in_else, types_in_stmts}
use Rattle.ob_parser_laws.proofs.RowFacts.{Says, never_says, holds, both_say, so_says, first_says, then_says, spanning_says, provided_says, either_says, raised_says, counted_says}
use Rattle.ob_parser_laws.proofs.ExprShapes.{placed_says, any_says, operation_says}
use Rattle.ob_parser_laws.proofs.StmtShapes.{braced_says}
use Rattle.ob_parser_laws.proofs.TypeTexts.{AreTexts, both_texts, both_say_texts, AreTextsIn, all_texts, parted_says, named_says}

-- ---- expressions

mutual
  spelled_says : (e : Expr) (n : ℕ) → Says (spelled e n) (AreTexts (types_in_expr e))
  spelled_says (number_expr value span) n = holds tt
  spelled_says (text_expr value span) n = holds tt
  spelled_says (bool_expr value span) n = holds tt
  spelled_says (name_expr part span) n = holds tt
  spelled_says (this_expr place span) n = holds tt
  spelled_says (unary_expr o place operand span) n =
      provided_says (λ one. raised_says 1
      (then_says (placed_says operand_span operand (spelled operand) (λ m. spelled_says operand m) n)))
  spelled_says (binary_expr o place left right span) n =
      provided_says (λ two. so_says (λ known. both_texts (types_in_expr left) (types_in_expr right) known.0 known.1)
      (operation_says o place (placed (left_span o) left (spelled left)) (placed (right_span o) right (spelled right))
      (placed_says (left_span o) left (spelled left) (λ m. spelled_says left m))
      (placed_says (right_span o) right (spelled right) (λ m. spelled_says right m)) n))
  spelled_says (call_expr c span) n = provided_says (λ none. call_says c)
  spelled_says (new_expr of args span) n =
      provided_says (λ none. then_says (both_say (first_says (named_says of)) (then_says (counted_says (arguments_say args)))))

  call_says : (c : Call) → Says (call c) (AreTexts (types_in_call c))
  call_says (call_with receiver part args) = then_says (then_says (counted_says (arguments_say args)))

  arguments_say : (es : Exprs) → Says (arguments es) (AreTexts (types_in_exprs es))
  arguments_say no_exprs = holds tt
  arguments_say (and_expr e es) =
      both_say_texts (types_in_expr e) (types_in_exprs es)
      (first_says (any_says e (spelled e) (λ m. spelled_says e m))) (then_says (more_say es))

  more_say : (es : Exprs) → Says (more_arguments es) (AreTexts (types_in_exprs es))
  more_say no_exprs = holds tt
  more_say (and_expr e es) =
      then_says (both_say_texts (types_in_expr e) (types_in_exprs es)
      (first_says (any_says e (spelled e) (λ m. spelled_says e m))) (then_says (more_say es)))

expr_says : (e : Expr) → Says (expr e) (AreTexts (types_in_expr e))
expr_says e = any_says e (spelled e) (λ m. spelled_says e m)

-- ---- statements

local_says : (of : Local) → Says (local of) (AreTexts (types_in_local of))
local_says (int_local span) = holds tt
local_says (bool_local span) = holds tt
local_says (text_local span) = holds tt
local_says (named_local of) = so_says (λ known. (known, tt)) (named_says of)

called_says : (e : Expr) → Says (call_or_new e) (AreTexts (types_in_expr e))
called_says (call_expr c span) = spanning_says (spelled_says (call_expr c span) 0)
called_says (new_expr of args span) = spanning_says (spelled_says (new_expr of args span) 0)
called_says e = never_says

maybe_says : (o : Option Expr) → Says (maybe expr o) (AreTexts (option_map_or types_in_expr o []))
maybe_says None = holds tt
maybe_says (Some e) = expr_says e

given_says : (g : GivenExpr) → Says (given g) (AreTextsIn types_in_given g)
given_says g = then_says (then_says (expr_says g.value))

all_given_say : (gs : List GivenExpr) → Says (all_given gs) (AreTexts (flat_map types_in_given gs))
all_given_say [] = holds tt
all_given_say (g ∷ gs) =
    then_says (first_says (so_says (all_texts types_in_given (g ∷ gs))
    (parted_says sign'.Comma given (AreTextsIn types_in_given) given_says (g ∷ gs))))

mutual
  stmt_says : (x : Stmt) → Says (stmt x) (AreTexts (types_in_stmt x))
  stmt_says (declare_stmt of part value span) =
      spanning_says (both_say_texts (types_in_local of) (types_in_expr value)
      (first_says (local_says of)) (then_says (then_says (then_says (first_says (expr_says value))))))
  stmt_says (assign_stmt part value span) = spanning_says (then_says (then_says (first_says (expr_says value))))
  stmt_says (stage_stmt state field value span) =
      spanning_says (then_says (then_says (then_says (then_says (first_says (expr_says value))))))
  stmt_says (change_stmt state values span) = spanning_says (then_says (then_says (first_says (all_given_say values))))
  stmt_says (call_stmt value span) = spanning_says (first_says (called_says value))
  stmt_says (test_stmt of state then otherwise span) =
      spanning_says (then_says (then_says (then_says (then_says (then_says (then_says
      (both_say_texts (types_in_block then) (types_in_else otherwise)
      (first_says (block_says then)) (then_says (else_says otherwise)))))))))
  stmt_says (if_stmt condition then otherwise span) =
      spanning_says (then_says (then_says
      (both_say_texts (types_in_expr condition ++ types_in_block then) (types_in_else otherwise)
      (both_say_texts (types_in_expr condition) (types_in_block then)
      (first_says (expr_says condition)) (then_says (then_says (first_says (block_says then)))))
      (then_says (then_says (then_says (else_says otherwise)))))))
  stmt_says (while_stmt condition body span) =
      spanning_says (then_says (then_says (both_say_texts (types_in_expr condition) (types_in_block body)
      (first_says (expr_says condition)) (then_says (then_says (block_says body))))))
  stmt_says (return_stmt value span) = spanning_says (then_says (first_says (maybe_says value)))
  stmt_says (revert_stmt text span) = spanning_says (then_says (first_says (maybe_says text)))
  stmt_says (disown_stmt part span) = holds tt
  stmt_says (assert_stmt of with span) = holds tt

  stmts_say : (xs : Stmts) → Says (stmts xs) (AreTexts (types_in_stmts xs))
  stmts_say no_stmts = holds tt
  stmts_say (and_stmt s ss) =
      both_say_texts (types_in_stmt s) (types_in_stmts ss) (first_says (stmt_says s)) (then_says (stmts_say ss))

  pub block_says : (b : Block) → Says (block b) (AreTexts (types_in_block b))
  block_says (block_with body end) = braced_says (stmts_say body)

  else_says : (e : Else) → Says (alternative e) (AreTexts (types_in_else e))
  else_says no_else = holds tt
  else_says (else_with (block_with body end)) =
      then_says (either_says (braced_says (stmts_say body)) (chained_says body end))

  chained_says : (body : Stmts) (end : Span) → Says (chained body end) (AreTexts (types_in_stmts body))
  chained_says (and_stmt (test_stmt of state then otherwise span) no_stmts) end =
      provided_says (λ ends. raised_says 1
      (both_say_texts (types_in_stmt (test_stmt of state then otherwise span)) []
      (stmt_says (test_stmt of state then otherwise span)) (holds tt)))
  chained_says (and_stmt (if_stmt condition then otherwise span) no_stmts) end =
      provided_says (λ ends. raised_says 1
      (both_say_texts (types_in_stmt (if_stmt condition then otherwise span)) []
      (stmt_says (if_stmt condition then otherwise span)) (holds tt)))
  chained_says body end = never_says
