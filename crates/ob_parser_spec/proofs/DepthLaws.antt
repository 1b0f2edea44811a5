-- The laws of expressions: where there is depth enough for the room, they are read.
use Rattle.std.proofs.Common.{ℕ, zero, suc, ◌-◌, ◌<◌, ◌≤◌, nat_le, true, false, List, [], ◌∷◌, ◌++◌, IsTrue, inl, refl, arith}
use Rattle.ob_lexer.specs.declared.token.Token.{Token}
use Rattle.ob_lexer.specs.declared.token.TokenKind.TheVariants as kind
use Rattle.ob_lexer.specs.declared.token.Word.TheVariants as word'
use Rattle.ob_lexer.specs.declared.token.Sign.TheVariants as sign'
use Rattle.ob_tree.specs.Exprs.{bool_expr}
use Rattle.ob_parser_spec.specs.Rows.{Loaded}
use Rattle.ob_parser_spec.specs.Readers.{Reader}
use Rattle.ob_parser_spec.specs.NameReaders.{on, read_ref}
use Rattle.ob_parser_spec.specs.Chains.{Counted}
use Rattle.ob_parser_spec.specs.ExprReaders.{read_row_1}
use Rattle.ob_parser_spec.specs.Primaries.{expr_first, read_primary}
use Rattle.ob_parser_spec.specs.StmtReaders.{call_signs}
use Rattle.ob_parser_spec.specs.Expressions.{read_unary, read_expr}
use Rattle.ob_parser_spec.proofs.Laws.{Ends, Sample, Laws, ends-append, ends-both}
use Rattle.ob_parser_spec.proofs.One.{token_of, somewhere, free}
use Rattle.ob_parser_spec.proofs.Spanned.{covers}
use Rattle.ob_parser_spec.proofs.RowLaws.{ends_laws}
use Rattle.ob_parser_spec.proofs.NameLaws.{InnerRefs, ref_laws}
use Rattle.ob_parser_spec.proofs.Chains.{at_level}
use Rattle.ob_parser_spec.proofs.ExprLaws.{after_operand, after_row_1, row_1}
use Rattle.ob_parser_spec.proofs.Unary.{unary_laws}
use Rattle.ob_parser_spec.proofs.PrimaryLaws.{Inner}
use Rattle.ob_parser_spec.proofs.Literals.{primary_first, primary_laws}

-- ---- the shortest expression

abbrev shortest : Loaded
shortest = free (token_of (kind.Word word'.True) somewhere)

sample_at : (row : ℕ) → IsTrue (nat_le row 8) → Sample (at_level row)
sample_at row few = record { value = (bool_expr true somewhere, 0); read = shortest ∷ []; spelled = (covers shortest [], inl (few, (refl, (somewhere, refl)))) }

-- ---- what an expression goes on with

abbrev pub after_expr : List ℕ
after_expr = after_row_1

fewer : (ts : List Token) → Ends after_operand ts → Ends (call_signs ++ on sign'.Dot) ts
fewer ts ends =
    let parts = ends-append (on sign'.OpenParen) (on sign'.Dot) ts ends in
    ends-both (on sign'.Dot) (on sign'.OpenParen ++ on sign'.Dot) ts parts.1 (ends-both (on sign'.OpenParen) (on sign'.Dot) ts parts.0 parts.1)

-- ---- operands, one operator or one pair of parentheses deeper

module _ (depth room : ℕ) (less : room < suc depth) (a : (n : ℕ) → n < depth → Laws n (at_level 7) (read_unary depth n) expr_first after_operand false) where
  refs : InnerRefs room (read_ref depth)
  refs some = ref_laws depth (room - 1) (omega (arith, some, less))

  inner : Inner room (read_row_1 (read_unary depth)) after_expr
  inner some = row_1 expr_first (read_unary depth) (room - 1) (λ n few. a n (omega (arith, few, some, less))) (room - 1) (omega arith)

  abbrev primary : Reader Counted
  primary = read_primary (read_ref depth) (read_row_1 (read_unary depth)) room

  primary_all : Laws room (at_level 8) primary primary_first after_operand false
  primary_all = ends_laws fewer (primary_laws room (read_ref depth) (read_row_1 (read_unary depth)) after_expr (sample_at 1 refl) refs inner refl refl refl)

  one_deeper : Laws room (at_level 7) (read_unary (suc depth) room) expr_first after_operand false
  one_deeper =
      let operand : 1 ≤ room → Laws (room - 1) (at_level 7) (read_unary depth (room - 1)) expr_first after_operand false = λ some. a (room - 1) (omega (arith, some, less)) in
      unary_laws expr_first primary_first after_operand room (read_unary depth) primary (sample_at 7 refl) operand primary_all refl

pub unary_all : (depth room : ℕ) → room < depth → Laws room (at_level 7) (read_unary depth room) expr_first after_operand false
unary_all zero room less = absurd (omega (arith, less))
unary_all (suc depth) room less = one_deeper depth room less (unary_all depth)

-- ---- expressions with the count of their operators, and without

pub counted_expr_laws : (depth room : ℕ) → room < depth → Laws room (at_level 1) (read_expr depth room) expr_first after_expr false
counted_expr_laws depth room less = row_1 expr_first (read_unary depth) room (λ n few. unary_all depth n (omega (arith, few, less))) room (omega arith)
