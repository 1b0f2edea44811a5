-- The tokens of expressions, in order.
use Rattle.std.specs.Prelude.{ℕ, nat_lt, Bool, true, false, List, [], ◌∷◌, ◌++◌, Option, Some, None}
use Rattle.ob_lexer.specs.declared.token.TokenKind.{TokenKind}
use Rattle.ob_lexer.specs.declared.token.TokenKind.TheVariants as kind
use Rattle.ob_lexer.specs.declared.token.Word.TheVariants as word
use Rattle.ob_lexer.specs.declared.token.Sign.TheVariants as sign
use Rattle.ob_tree.specs.Exprs.{Expr, number_expr, text_expr, bool_expr, name_expr, this_expr, unary_expr, binary_expr, call_expr, new_expr, Call, call_with, Exprs, no_exprs, and_expr}
use Rattle.ob_tree.specs.Words.{word_of_bool}
use Rattle.ob_tree.specs.Operators.{sign_of_operator, left_span, right_span, operand_span, level}
use Rattle.ob_tree.specs.declared.name.Subject.{Subject}
use Rattle.ob_tree_print.specs.NameTokens.{sign_if, sign_unless, token_of_name, token_of_subject, tokens_of_named}

-- whether an expression binds looser than its place asks
abbrev pub is_below : ℕ → Expr → Bool
is_below place e = nat_lt (level e) place

-- tokens in parentheses where this holds
abbrev pub wrapped : Bool → List TokenKind → List TokenKind
wrapped b tokens = sign_if b sign.OpenParen ++ (tokens ++ sign_if b sign.CloseParen)

-- what is called, and the dot, if it is written
abbrev pub tokens_of_receiver : Option Subject → List TokenKind
tokens_of_receiver None = []
tokens_of_receiver (Some subject) = token_of_subject subject ∷ kind.Sign sign.Dot ∷ []

abbrev mutual
  pub tokens_of_expr : Expr → List TokenKind
  tokens_of_expr (number_expr value span) = kind.Number value ∷ []
  tokens_of_expr (text_expr value span) = kind.Text value ∷ []
  tokens_of_expr (bool_expr value span) = kind.Word (word_of_bool value) ∷ []
  tokens_of_expr (name_expr name span) = token_of_name name ∷ []
  tokens_of_expr (this_expr token span) = kind.Word word.This ∷ []
  tokens_of_expr (unary_expr o at operand span) = kind.Sign (sign_of_operator o) ∷ wrapped (is_below operand_span operand) (tokens_of_expr operand)
  tokens_of_expr (binary_expr o at left right span) = wrapped (is_below (left_span o) left) (tokens_of_expr left) ++ (kind.Sign (sign_of_operator o) ∷ wrapped (is_below (right_span o) right) (tokens_of_expr right))
  tokens_of_expr (call_expr call span) = tokens_of_call call
  tokens_of_expr (new_expr of args span) = kind.Word word.New ∷ (tokens_of_named of ++ (kind.Sign sign.OpenParen ∷ (tokens_of_args true args ++ (kind.Sign sign.CloseParen ∷ []))))

  -- call = [(NAME|"this") "."] NAME "(" [expr {"," expr}] ")"
  pub tokens_of_call : Call → List TokenKind
  tokens_of_call (call_with receiver name args) = tokens_of_receiver receiver ++ (token_of_name name ∷ kind.Sign sign.OpenParen ∷ (tokens_of_args true args ++ (kind.Sign sign.CloseParen ∷ [])))

  -- arguments with a comma between each two; `first` says that none stands in front
  pub tokens_of_args : Bool → Exprs → List TokenKind
  tokens_of_args first no_exprs = []
  tokens_of_args first (and_expr e es) = sign_unless first sign.Comma ++ (tokens_of_expr e ++ tokens_of_args false es)
