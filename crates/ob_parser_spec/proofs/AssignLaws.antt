-- The laws of statements that give a variable or a field its value.
use Rattle.std.proofs.Common.{ℕ, ◌≡◌, true, false, List, [], ◌∷◌, Some, IsTrue, refl}
use Rattle.ob_base.specs.declared.fault.Span.{Span}
use Rattle.ob_lexer.specs.declared.token.TokenKind.{TokenKind}
use Rattle.ob_lexer.specs.declared.token.TokenKind.TheVariants as kind
use Rattle.ob_lexer.specs.declared.token.Word.TheVariants as word'
use Rattle.ob_lexer.specs.declared.token.Sign.TheVariants as sign'
use Rattle.ob_tree.specs.Names.{TypeExpr}
use Rattle.ob_tree.specs.Exprs.{Expr}
use Rattle.ob_tree.specs.Stmts.{Local, int_local, bool_local, text_local, named_local, Stmt}
use Rattle.ob_parser_spec.specs.Rows.{Row, Loaded, never, name}
use Rattle.ob_parser_spec.specs.ExprRows.{expr}
use Rattle.ob_parser_spec.specs.StmtRows.{local}
use Rattle.ob_parser_spec.specs.Readers.{Reader, is_of, name_if, read_token, read_both}
use Rattle.ob_parser_spec.specs.NameReaders.{on}
use Rattle.ob_parser_spec.specs.Primaries.{expr_first}
use Rattle.ob_parser_spec.specs.MemberReaders.{value_type_of, value_types}
use Rattle.ob_parser_spec.specs.StmtReaders.{value_local_of, value_local_if, read_assigned, declare_of, read_declare, assign_of, read_assign, stage_of, read_stage}
use Rattle.ob_parser_spec.proofs.Laws.{SpellsAsWell, Laws, disjoint}
use Rattle.ob_parser_spec.proofs.One.{token_of, somewhere, free, took, Takes}
use Rattle.ob_parser_spec.proofs.Both.{both}
use Rattle.ob_parser_spec.proofs.Spanned.{with_span}
use Rattle.ob_parser_spec.proofs.RowLaws.{sign_at, at_name, token_laws, sign_laws, after_laws, span_laws, made, made_laws}
use Rattle.ob_parser_spec.proofs.Lists.{between_signs, between_laws}
use Rattle.ob_parser_spec.proofs.NameLaws.{name_laws}
use Rattle.ob_parser_spec.proofs.DepthLaws.{after_expr}
use Rattle.ob_parser_spec.proofs.ParamLaws.{takes_value}

-- ---- `int`, `bool` and `string`

abbrev pub value_local : Local → Row
value_local (named_local of) = never
value_local l = local l

kind_to_local : (k : TokenKind) (span : Span) (l : Local) → value_local_of k span ≡ Some l → (read : List Loaded) → read ≡ free (token_of k span) ∷ [] → value_local l read
kind_to_local (kind.Word word'.Int) span l e read is = let same : int_local span ≡ l = cc in rw (← same) is
kind_to_local (kind.Word word'.Bool) span l e read is = let same : bool_local span ≡ l = cc in rw (← same) is
kind_to_local (kind.Word word'.String) span l e read is = let same : text_local span ≡ l = cc in rw (← same) is
kind_to_local k span l e read is = absurd cc

value_to : SpellsAsWell (took value_local_if) value_local
value_to l read is = kind_to_local is.0.kind is.0.span l is.1 read is.2

value_from : SpellsAsWell value_local (took value_local_if)
value_from (int_local span) read is = (token_of (kind.Word word'.Int) span, refl, is)
value_from (bool_local span) read is = (token_of (kind.Word word'.Bool) span, refl, is)
value_from (text_local span) read is = (token_of (kind.Word word'.String) span, refl, is)
value_from (named_local of) read is = elim is [ ]

local_of_type : (k : TokenKind) (span : Span) (t : TypeExpr) → value_type_of k span ≡ Some t → (l : Local) × (value_local_of k span ≡ Some l)
local_of_type (kind.Word word'.Int) span t e = (int_local span, refl)
local_of_type (kind.Word word'.Bool) span t e = (bool_local span, refl)
local_of_type (kind.Word word'.String) span t e = (text_local span, refl)
local_of_type k span t e = absurd cc

local_listed : (k : TokenKind) (span : Span) (l : Local) → value_local_of k span ≡ Some l → IsTrue (is_of value_types (token_of k span))
local_listed (kind.Word word'.Int) span l e = refl
local_listed (kind.Word word'.Bool) span l e = refl
local_listed (kind.Word word'.String) span l e = refl
local_listed k span l e = absurd cc

takes_local : Takes value_local_if value_types
takes_local = record {
  of = λ t is. let x = takes_value.of t is in local_of_type t.kind t.span x.0 x.1;
  is = λ t l e. local_listed t.kind t.span l e;
  token = token_of (kind.Word word'.Int) somewhere;
  value = int_local somewhere;
  one = refl;
}

pub value_local_laws : (room : ℕ) → Laws room value_local (read_token value_local_if) value_types [] false
value_local_laws room = token_laws room value_local value_to value_from takes_local

-- ---- what stands after the name

-- "=" expr ";"
abbrev pub assigned : Expr → Row
assigned = between_signs sign'.Equals expr sign'.Semicolon

-- ---- the statements

-- a type, a name and its value
abbrev pub declared : (Local → Row) → Stmt → Row
declared of = made declare_of (with_span (both of (both name assigned)))

abbrev pub assigns : Stmt → Row
assigns = made assign_of (with_span (both name assigned))

-- a field of a state
abbrev pub stages : Stmt → Row
stages = made stage_of (with_span (both name (both (sign_at sign'.DoubleColon) (both name assigned))))

module _ (room : ℕ) (exprs : Reader Expr) (e : Laws room expr exprs expr_first after_expr false) where
  pub assigned_laws : Laws room assigned (read_assigned exprs) (on sign'.Equals) [] false
  assigned_laws = between_laws sign'.Equals sign'.Semicolon e refl

  pub valued_laws : Laws room (both name assigned) (read_both (read_token name_if) (read_assigned exprs)) at_name [] false
  valued_laws = after_laws (name_laws room) assigned_laws refl

  pub assign_laws : Laws room assigns (read_assign exprs) at_name [] false
  assign_laws = made_laws assign_of (span_laws valued_laws)

  pub stage_laws : Laws room stages (read_stage exprs) at_name [] false
  stage_laws =
      let field = after_laws (sign_laws room sign'.DoubleColon) valued_laws refl in
      made_laws stage_of (span_laws (after_laws (name_laws room) field refl))

  pub declare_laws : (of : Local → Row) (locals : Reader Local) (first more : List ℕ) →
      Laws room of locals first more false → disjoint at_name more ≡ true → Laws room (declared of) (read_declare locals exprs) first [] false
  declare_laws of locals first more l apart = made_laws declare_of (span_laws (after_laws l valued_laws apart))
