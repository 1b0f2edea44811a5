-- The laws of expressions.
use Rattle.std.proofs.Common.{ℕ, ◌≡◌, ◌≤◌, false, List, [], ◌∷◌, ◌++◌, refl, arith}
use Rattle.ob_base.specs.declared.operator.Operator.{Operator}
use Rattle.ob_base.specs.declared.operator.Operator.TheVariants as op
use Rattle.ob_lexer.specs.declared.token.Sign.TheVariants as sign'
use Rattle.ob_tree.specs.Operators.{level_of, left_span}
use Rattle.ob_parser_spec.specs.Symbols.{a_sign, number}
use Rattle.ob_parser_spec.specs.Readers.{Reader}
use Rattle.ob_parser_spec.specs.Operators.{operator_if, signs_of_level}
use Rattle.ob_parser_spec.specs.Chains.{Counted}
use Rattle.ob_parser_spec.specs.ExprReaders.{read_row_1, read_row_2, read_row_3, read_row_4, read_row_5, read_row_6}
use Rattle.ob_parser_spec.proofs.Laws.{Laws}
use Rattle.ob_parser_spec.proofs.Chains.{at_level, chain_laws, single_laws}
use Rattle.ob_parser_spec.proofs.Operators.{operates, takes_row}

-- ---- which rows chain

chains_1 : (o : Operator) → level_of o ≡ 1 → left_span o ≡ 1
chains_1 op.Or e = refl
chains_1 o e = absurd (omega (arith, e))

chains_2 : (o : Operator) → level_of o ≡ 2 → left_span o ≡ 2
chains_2 op.And e = refl
chains_2 o e = absurd (omega (arith, e))

chains_5 : (o : Operator) → level_of o ≡ 5 → left_span o ≡ 5
chains_5 op.Add e = refl
chains_5 op.Sub e = refl
chains_5 o e = absurd (omega (arith, e))

chains_6 : (o : Operator) → level_of o ≡ 6 → left_span o ≡ 6
chains_6 op.Mul e = refl
chains_6 op.Div e = refl
chains_6 op.Rem e = refl
chains_6 o e = absurd (omega (arith, e))

single_3 : (o : Operator) → level_of o ≡ 3 → left_span o ≡ 4
single_3 op.Equal e = refl
single_3 op.NotEqual e = refl
single_3 o e = absurd (omega (arith, e))

single_4 : (o : Operator) → level_of o ≡ 4 → left_span o ≡ 5
single_4 op.Less e = refl
single_4 op.LessEqual e = refl
single_4 op.Greater e = refl
single_4 op.GreaterEqual e = refl
single_4 o e = absurd (omega (arith, e))

-- ---- the rows, over that of operators with one operand

-- what an operand without operators may go on with: a receiver's name, and arguments
abbrev pub after_operand : List ℕ
after_operand = number (a_sign sign'.OpenParen) ∷ number (a_sign sign'.Dot) ∷ []

-- what one of each row may go on with
abbrev after_row_6 : List ℕ
after_row_6 = after_operand ++ signs_of_level 6

abbrev after_row_5 : List ℕ
after_row_5 = after_row_6 ++ signs_of_level 5

abbrev after_row_4 : List ℕ
after_row_4 = after_row_5 ++ signs_of_level 4

abbrev after_row_3 : List ℕ
after_row_3 = after_row_4 ++ signs_of_level 3

abbrev after_row_2 : List ℕ
after_row_2 = after_row_3 ++ signs_of_level 2

abbrev pub after_row_1 : List ℕ
after_row_1 = after_row_2 ++ signs_of_level 1

module _ (first : List ℕ) (unary : ℕ → Reader Counted) (room : ℕ) (a : (r : ℕ) → r ≤ room → Laws r (at_level 7) (unary r) first after_operand false) where
  pub row_6 : (r : ℕ) → r ≤ room → Laws r (at_level 6) (read_row_6 unary r) first after_row_6 false
  row_6 r few =
      chain_laws 6 (operator_if 6) (operates 6) (omega arith) (signs_of_level 6) first after_operand (takes_row op.Mul) refl r unary
      (λ n less. a n (omega (arith, less, few))) chains_6

  pub row_5 : (r : ℕ) → r ≤ room → Laws r (at_level 5) (read_row_5 unary r) first after_row_5 false
  row_5 r few =
      chain_laws 5 (operator_if 5) (operates 5) (omega arith) (signs_of_level 5) first after_row_6 (takes_row op.Add) refl r (read_row_6 unary)
      (λ n less. row_6 n (omega (arith, less, few))) chains_5

  pub row_4 : (r : ℕ) → r ≤ room → Laws r (at_level 4) (read_row_4 unary r) first after_row_4 false
  row_4 r few =
      single_laws 4 (operator_if 4) (operates 4) (omega arith) (signs_of_level 4) first after_row_5 (takes_row op.Less) refl r (read_row_5 unary)
      (λ n less. row_5 n (omega (arith, less, few))) single_4

  pub row_3 : (r : ℕ) → r ≤ room → Laws r (at_level 3) (read_row_3 unary r) first after_row_3 false
  row_3 r few =
      single_laws 3 (operator_if 3) (operates 3) (omega arith) (signs_of_level 3) first after_row_4 (takes_row op.Equal) refl r (read_row_4 unary)
      (λ n less. row_4 n (omega (arith, less, few))) single_3

  pub row_2 : (r : ℕ) → r ≤ room → Laws r (at_level 2) (read_row_2 unary r) first after_row_2 false
  row_2 r few =
      chain_laws 2 (operator_if 2) (operates 2) (omega arith) (signs_of_level 2) first after_row_3 (takes_row op.And) refl r (read_row_3 unary)
      (λ n less. row_3 n (omega (arith, less, few))) chains_2

  pub row_1 : (r : ℕ) → r ≤ room → Laws r (at_level 1) (read_row_1 unary r) first after_row_1 false
  row_1 r few =
      chain_laws 1 (operator_if 1) (operates 1) (omega arith) (signs_of_level 1) first after_row_2 (takes_row op.Or) refl r (read_row_2 unary)
      (λ n less. row_2 n (omega (arith, less, few))) chains_1
