-- The shape of the expressions that tokens spell.
use Rattle.std.proofs.Common.{ℕ, zero, suc, ◌≡◌, ◌+◌, true, false, nat_eq, nat_le, ◌⊎◌, inl, inr, refl, sym, true≢false, List, IsTrue}
use Rattle.ob_base.specs.declared.operator.Operator.{Operator}
use Rattle.ob_base.specs.declared.operator.Operator.TheVariants.{Add, Sub, Mul, Div, Rem, Equal, NotEqual, Less, LessEqual, Greater, GreaterEqual, And, Or, Not, Negate}
use Rattle.ob_tree.specs.Exprs.{Expr, number_expr, text_expr, bool_expr, name_expr, this_expr, unary_expr, binary_expr, call_expr, new_expr, Call, call_with, Exprs, no_exprs, and_expr}
use Rattle.ob_tree.specs.Operators.{level_of, left_span, right_span, operand_span, level}
use Rattle.ob_base.specs.declared.fault.Span.{Span}
use Rattle.ob_parser_spec.specs.Rows.{Row, Loaded}
use Rattle.ob_parser_spec.specs.ExprRows.{Reads, placed, enclosed, any, operation, spelled, call, arguments, more_arguments, expr}
use Rattle.ob_resolve_spec.specs.Operators.{has_one_operand}
use Rattle.ob_resolve_spec.specs.Shape.{HasExprShape, HasCallShape, HaveExprShapes}
use Rattle.ob_parser_laws.proofs.RowFacts.{Says, ReadInRange, holds, both_say, so_says, token_says, first_says, then_says, provided_says, raised_says, counted_says}

-- an operator with one operand binds the tightest, and no other does
of_one : (o : Operator) → IsTrue (nat_eq (level_of o) operand_span) → has_one_operand o ≡ true
of_one Not e = refl
of_one Negate e = refl
of_one Add e = absurd (true≢false (sym e))
of_one Sub e = absurd (true≢false (sym e))
of_one Mul e = absurd (true≢false (sym e))
of_one Div e = absurd (true≢false (sym e))
of_one Rem e = absurd (true≢false (sym e))
of_one Equal e = absurd (true≢false (sym e))
of_one NotEqual e = absurd (true≢false (sym e))
of_one Less e = absurd (true≢false (sym e))
of_one LessEqual e = absurd (true≢false (sym e))
of_one Greater e = absurd (true≢false (sym e))
of_one GreaterEqual e = absurd (true≢false (sym e))
of_one And e = absurd (true≢false (sym e))
of_one Or e = absurd (true≢false (sym e))

of_two : (o : Operator) → IsTrue (nat_le (level_of o) 6) → has_one_operand o ≡ false
of_two Not e = absurd (true≢false (sym e))
of_two Negate e = absurd (true≢false (sym e))
of_two Add e = refl
of_two Sub e = refl
of_two Mul e = refl
of_two Div e = refl
of_two Rem e = refl
of_two Equal e = refl
of_two NotEqual e = refl
of_two Less e = refl
of_two LessEqual e = refl
of_two Greater e = refl
of_two GreaterEqual e = refl
of_two And e = refl
of_two Or e = refl

-- a row between parentheses
enclosed_says : {Holds : Type 0} (n : ℕ) (row : Row) → Says row Holds → Says (enclosed n row) Holds
enclosed_says zero row a = a
enclosed_says (suc n) row a = counted_says (enclosed_says n row a)

pub placed_says : {Holds : Type 0} (place : ℕ) (e : Expr) (reads : Reads) → ((n : ℕ) → Says (reads n) Holds) → (n : ℕ)
    → Says (placed place e reads n) Holds
placed_says {Holds} place e reads a n = record { says = λ read ranges is. by read ranges is.1 }
  where
    by : (read : List Loaded) → ReadInRange read
        → (IsTrue (nat_le place (level e)) × reads n read)
        ⊎ ((n ≡ 0) × (depth : ℕ) × (inner : ℕ) × enclosed (suc depth) (reads inner) read)
        → Holds
    by read ranges (inl is) = (a n).says read ranges is.1
    by read ranges (inr is) = (enclosed_says (suc is.1) (reads is.2) (a is.2)).says read ranges is.3

pub any_says : {Holds : Type 0} (e : Expr) (reads : Reads) → ((n : ℕ) → Says (reads n) Holds) → Says (any e reads) Holds
any_says e reads a = record { says = λ read ranges is. (placed_says 1 e reads a is.0).says read ranges is.1 }

pub operation_says : {One Other : Type 0} (o : Operator) (place : Span) (left right : Reads) → ((n : ℕ) → Says (left n) One)
    → ((n : ℕ) → Says (right n) Other) → (n : ℕ) → Says (operation o place left right n) (One × Other)
operation_says o place left right a b n =
    record {
      says = λ read ranges is. (both_say (first_says (a is.0))
          (then_says (raised_says (is.0 + 1) (then_says (b is.1))))).says read ranges is.3;
    }

mutual
  pub spelled_says : (e : Expr) (n : ℕ) → Says (spelled e n) (HasExprShape e)
  spelled_says (number_expr value span) n = provided_says (λ none. token_says)
  spelled_says (text_expr value span) n = provided_says (λ none. token_says)
  spelled_says (bool_expr value span) n = holds tt
  spelled_says (name_expr part span) n = holds tt
  spelled_says (this_expr place span) n = holds tt
  spelled_says (unary_expr o place operand span) n =
      provided_says (λ one. so_says (λ known. (known, of_one o one))
      (raised_says 1 (then_says (placed_says operand_span operand (spelled operand) (λ m. spelled_says operand m) n))))
  spelled_says (binary_expr o place left right span) n =
      provided_says (λ two. so_says (λ known. (known.0, known.1, of_two o two))
      (operation_says o place (placed (left_span o) left (spelled left)) (placed (right_span o) right (spelled right))
      (placed_says (left_span o) left (spelled left) (λ m. spelled_says left m))
      (placed_says (right_span o) right (spelled right) (λ m. spelled_says right m)) n))
  spelled_says (call_expr c span) n = provided_says (λ none. call_says c)
  spelled_says (new_expr of args span) n =
      provided_says (λ none. then_says (then_says (counted_says (arguments_say args))))

  call_says : (c : Call) → Says (call c) (HasCallShape c)
  call_says (call_with receiver part args) = then_says (then_says (counted_says (arguments_say args)))

  arguments_say : (es : Exprs) → Says (arguments es) (HaveExprShapes es)
  arguments_say no_exprs = holds tt
  arguments_say (and_expr e es) =
      both_say (first_says (any_says e (spelled e) (λ m. spelled_says e m))) (then_says (more_say es))

  more_say : (es : Exprs) → Says (more_arguments es) (HaveExprShapes es)
  more_say no_exprs = holds tt
  more_say (and_expr e es) =
      then_says (both_say (first_says (any_says e (spelled e) (λ m. spelled_says e m))) (then_says (more_say es)))

pub expr_says : (e : Expr) → Says (expr e) (HasExprShape e)
expr_says e = any_says e (spelled e) (λ m. spelled_says e m)
