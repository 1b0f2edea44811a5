-- The laws of what stands after `while`.
use Rattle.std.proofs.Common.{ℕ, ◌≡◌, ◌-◌, ◌≤◌, true, false, List, [], refl}
use Rattle.ob_base.specs.declared.fault.Span.{Span}
use Rattle.ob_lexer.specs.declared.token.Word.TheVariants as word'
use Rattle.ob_lexer.specs.declared.token.Sign.TheVariants as sign'
use Rattle.ob_tree.specs.Exprs.{Expr}
use Rattle.ob_tree.specs.Stmts.{Stmt, while_stmt, Block, Stmts}
use Rattle.ob_parser_spec.specs.Rows.{Row, Loaded, ◌⨟◌, sign}
use Rattle.ob_parser_spec.specs.ExprRows.{expr}
use Rattle.ob_parser_spec.specs.StmtRows.{stmt, stmts, block}
use Rattle.ob_parser_spec.specs.Readers.{Reader}
use Rattle.ob_parser_spec.specs.NameReaders.{on}
use Rattle.ob_parser_spec.specs.Primaries.{expr_first}
use Rattle.ob_parser_spec.specs.StmtReaders.{Loop, while_of, read_while, loop_of, read_loop, stmt_first}
use Rattle.ob_parser_spec.proofs.Laws.{SpellsAsWell, Laws, disjoint}
use Rattle.ob_parser_spec.proofs.Both.{both}
use Rattle.ob_parser_spec.proofs.Mapped.{Makes}
use Rattle.ob_parser_spec.proofs.Spanned.{with_span}
use Rattle.ob_parser_spec.proofs.RowLaws.{sign_at, word_at, at_word, sign_laws, word_laws, after_laws, span_laws, made, makes_laws, made_laws}
use Rattle.ob_parser_spec.proofs.DepthLaws.{after_expr}
use Rattle.ob_parser_spec.proofs.IfLaws.{block_laws}

-- ---- a `while`

-- "(" expr ")" block
abbrev pub loop : Loop → Row
loop l = sign sign'.OpenParen ⨟ expr l.0 ⨟ sign sign'.CloseParen ⨟ block l.1

abbrev while_parts : (Span × Loop) × Span → Row
while_parts = with_span (both (word_at word'.While) loop)

abbrev pub whiles : Stmt → Row
whiles = made while_of while_parts

pub whiles_to : SpellsAsWell whiles stmt
whiles_to s read (((place, (condition, body)), span), same, is) = rw same (is.0, (is.1.0, is.1.1, is.1.2, (place, is.1.3), is.1.4))

pub is_while : (condition : Expr) (body : Block) (span : Span) (read : List Loaded) →
    stmt (while_stmt condition body span) read → whiles (while_stmt condition body span) read
is_while condition body span read is = (((is.1.3.0, (condition, body)), span), refl, (is.0, (is.1.0, is.1.1, is.1.2, is.1.3.1, is.1.4)))

pub while_laws : (room : ℕ) (after : ℕ → Reader Loop) →
    Laws room loop (after room) (on sign'.OpenParen) [] false → Laws room whiles (read_while after room) (at_word word'.While) [] false
while_laws room after h = made_laws while_of (span_laws (after_laws (word_laws room word'.While) h refl))

-- ---- what stands after `while`

loop_makes : Makes loop_of (both (sign_at sign'.OpenParen) (both expr (both (sign_at sign'.CloseParen) block))) loop
loop_makes = record {
  to = λ parts read is.
      let a = is.4 in
      let b = a.4 in
      (is.0, is.1, is.2, (parts.0, is.3), (a.0, a.1, a.2, a.3, (b.0, b.1, b.2, (parts.1.1.0, b.3), b.4)));
  from = λ l read is.
      let a = is.4 in
      let b = a.4 in
      ((is.3.0, (l.0, (b.3.0, l.1))), refl, (is.0, is.1, is.2, is.3.1, (a.0, a.1, a.2, a.3, (b.0, b.1, b.2, b.3.1, b.4))));
}

module _ (room : ℕ) (exprs : Reader Expr) (body : ℕ → Reader Stmts) (more : List ℕ) (e : Laws room expr exprs expr_first after_expr false)
    (b : 1 ≤ room → Laws (room - 1) stmts (body (room - 1)) stmt_first more true) (apart : disjoint (on sign'.CloseBrace) more ≡ true) where
  pub loop_laws : Laws room loop (read_loop exprs body room) (on sign'.OpenParen) [] false
  loop_laws =
      let right = after_laws (sign_laws room sign'.CloseParen) (block_laws room body more b apart) refl in
      makes_laws loop_makes (after_laws (sign_laws room sign'.OpenParen) (after_laws e right refl) refl)
