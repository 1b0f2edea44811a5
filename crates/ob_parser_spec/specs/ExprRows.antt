-- Which tokens spell expressions, and how many binary operators are open at each (the Obsidian language documentation,
-- "Expressions").
use Rattle.std.specs.Prelude.{ℕ, zero, suc, ◌≡◌, ◌+◌, ◌⊎◌, nat_le, nat_eq, IsTrue}
use Rattle.ob_base.specs.declared.fault.Span.{Span}
use Rattle.ob_base.specs.declared.operator.Operator.{Operator}
use Rattle.ob_lexer.specs.declared.token.TokenKind.TheVariants as kind
use Rattle.ob_lexer.specs.declared.token.Word.TheVariants as word'
use Rattle.ob_lexer.specs.declared.token.Sign.TheVariants as sign'
use Rattle.ob_tree.specs.Exprs.{Expr, number_expr, text_expr, bool_expr, name_expr, this_expr, unary_expr, binary_expr, call_expr, new_expr, Call, call_with, Exprs, no_exprs, and_expr, span_of_expr}
use Rattle.ob_tree.specs.Operators.{sign_of_operator, level_of, left_span, right_span, operand_span, level}
use Rattle.ob_tree.specs.Words.{word_of_bool}
use Rattle.ob_parser_spec.specs.Rows.{Row, Covers, nothing, provided, ◌⨟◌, token, token_at, word, sign, name, raised, counted, maybe}
use Rattle.ob_parser_spec.specs.NameRows.{subject, named}

-- a row between so many parentheses
abbrev pub enclosed : ℕ → Row → Row
enclosed zero row = row
enclosed (suc n) row = counted sign'.OpenParen (enclosed n row) sign'.CloseParen

-- which tokens spell an expression in which so many binary operators are read
abbrev pub Reads : Type 1
Reads = ℕ → Row

-- no operator is read
abbrev pub reads_none : Row → Reads
reads_none row n = provided (n ≡ 0) row

-- An expression where one of this level or of a tighter one stands: without parentheses if its own level is, or with any
-- number of them, after which no operator counts.
abbrev pub placed : ℕ → Expr → Reads → Reads
placed place e spelled n read =
    Covers (span_of_expr e) read
    × ((IsTrue (nat_le place (level e)) × spelled n read) ⊎ ((n ≡ 0) × (depth : ℕ) × (inner : ℕ) × enclosed (suc depth) (spelled inner) read))

-- an expression of any level
abbrev pub any : Expr → Reads → Row
any e spelled read = (n : ℕ) × placed 1 e spelled n read

-- Two operands and the operator between them: it and what follows it stand under the operators that are read before.
abbrev pub operation : Operator → Span → Reads → Reads → Reads
operation o place left right n read =
    (before after : ℕ) × (n ≡ before + 1 + after) × (left before ⨟ raised (before + 1) (token_at (kind.Sign (sign_of_operator o)) place ⨟ right after)) read

-- The operator and its operand stand under the operator, which is open until the operand ends.
abbrev pub negation : Operator → Span → Reads → Reads
negation o place operand n = raised 1 (token_at (kind.Sign (sign_of_operator o)) place ⨟ operand n)

-- a reading where this holds
abbrev pub when : Type 0 → Reads → Reads
when holds reads n = provided holds (reads n)

abbrev mutual
  -- an expression but for the parentheses around it
  pub spelled : Expr → Reads
  spelled (number_expr value span) = reads_none (token (kind.Number value))
  spelled (text_expr value span) = reads_none (token (kind.Text value))
  spelled (bool_expr value span) = reads_none (word (word_of_bool value))
  spelled (name_expr part span) = reads_none (name part)
  spelled (this_expr place span) = reads_none (token_at (kind.Word word'.This) place)
  spelled (unary_expr o place operand span) = when (IsTrue (nat_eq (level_of o) operand_span)) (negation o place (placed operand_span operand (spelled operand)))
  spelled (binary_expr o place left right span) = when (IsTrue (nat_le (level_of o) 6)) (operation o place (placed (left_span o) left (spelled left)) (placed (right_span o) right (spelled right)))
  spelled (call_expr c span) = reads_none (call c)
  spelled (new_expr of args span) = reads_none (word word'.New ⨟ named of ⨟ counted sign'.OpenParen (arguments args) sign'.CloseParen)

  -- [(NAME | "this") "."] NAME "(" [expr {"," expr}] ")"
  pub call : Call → Row
  call (call_with receiver part args) = maybe (λ s. subject s ⨟ sign sign'.Dot) receiver ⨟ name part ⨟ counted sign'.OpenParen (arguments args) sign'.CloseParen

  -- [expr {"," expr}]
  pub arguments : Exprs → Row
  arguments no_exprs = nothing
  arguments (and_expr e es) = any e (spelled e) ⨟ more_arguments es

  -- {"," expr}
  pub more_arguments : Exprs → Row
  more_arguments no_exprs = nothing
  more_arguments (and_expr e es) = sign sign'.Comma ⨟ any e (spelled e) ⨟ more_arguments es

-- an expression of any level
abbrev pub expr : Expr → Row
expr e = any e (spelled e)
