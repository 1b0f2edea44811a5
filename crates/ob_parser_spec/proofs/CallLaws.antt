-- The laws of statements that are a call or create a contract.
use Rattle.std.proofs.Common.{ℕ, ◌≡◌, true, false, List, [], Option, Some, None, refl}
use Rattle.ob_base.specs.declared.fault.Span.{Span}
use Rattle.ob_lexer.specs.declared.token.Word.TheVariants as word'
use Rattle.ob_lexer.specs.declared.token.Sign.TheVariants as sign'
use Rattle.ob_tree.specs.Names.{Ref}
use Rattle.ob_tree.specs.Exprs.{Expr, call_expr, new_expr, call_with, Exprs}
use Rattle.ob_tree.specs.Stmts.{Stmt, call_stmt}
use Rattle.ob_tree.specs.declared.name.NamePart.{NamePart}
use Rattle.ob_tree.specs.declared.name.Subject.{Subject}
use Rattle.ob_tree.specs.declared.name.Subject.TheVariants as subject'
use Rattle.ob_parser_spec.specs.Rows.{Row, Loaded, name}
use Rattle.ob_parser_spec.specs.StmtRows.{call_or_new, stmt}
use Rattle.ob_parser_spec.specs.Readers.{Reader, read_as}
use Rattle.ob_parser_spec.specs.NameReaders.{on}
use Rattle.ob_parser_spec.specs.Chains.{Counted}
use Rattle.ob_parser_spec.specs.Primaries.{uncounted, method, applied, read_new}
use Rattle.ob_parser_spec.specs.StmtReaders.{called_name, read_called_name, called_this, read_called_this, call_of, read_call}
use Rattle.ob_parser_spec.proofs.Laws.{SpellsAsWell, Laws, disjoint}
use Rattle.ob_parser_spec.proofs.Both.{both}
use Rattle.ob_parser_spec.proofs.Spanned.{with_span}
use Rattle.ob_parser_spec.proofs.TokenRows.{grouped}
use Rattle.ob_parser_spec.proofs.RowLaws.{sign_at, word_at, at_word, at_name, sign_laws, word_laws, after_laws, span_laws, made, made_laws, nothing_before}
use Rattle.ob_parser_spec.proofs.NameLaws.{name_laws, InnerRefs}
use Rattle.ob_parser_spec.proofs.PrimaryLaws.{only_new, method_row, to_call, from_call, tail_row, name_tail_to, Inner, new_laws, method_laws, tail_laws}
use Rattle.ob_parser_spec.proofs.DepthLaws.{after_expr}

-- ---- what is called

-- a call, as an expression
abbrev pub call_on : Option Subject → NamePart → Exprs → Span → Expr
call_on receiver part args span = call_expr (call_with receiver part args) span

abbrev pub name_called : Expr → Row
name_called = made called_name (with_span (both name tail_row))

abbrev pub this_called : Expr → Row
this_called = made called_this (with_span (both (word_at word'.This) method_row))

abbrev pub new_called : Expr → Row
new_called = made uncounted only_new

pub name_called_to : SpellsAsWell name_called call_or_new
name_called_to e read (((part, method of args), span), same, is) =
    let whole = name_tail_to ((part, Some (method of args)), span) read is in
    rw same (whole.0, whole.2)
name_called_to e read (((part, applied args), span), same, is) =
    let whole = name_tail_to ((part, Some (applied args)), span) read is in
    rw same (whole.0, whole.2)

pub applied_from : (part : NamePart) (args : Exprs) (span : Span) (read : List Loaded) →
    call_or_new (call_on None part args span) read → name_called (call_on None part args span) read
applied_from part args span read is = (((part, applied args), span), refl, (is.0, nothing_before is.1.1))

pub method_from : (x part : NamePart) (args : Exprs) (span : Span) (read : List Loaded) →
    call_or_new (call_on (Some (subject'.Name x)) part args span) read → name_called (call_on (Some (subject'.Name x)) part args span) read
method_from x part args span read is = (((x, method part args), span), refl, (is.0, grouped is.1.1))

pub this_called_to : SpellsAsWell this_called call_or_new
this_called_to e read (((token, (dot, (part, args))), span), same, is) =
    rw same (is.0, (refl, to_call (subject'.This token) part args dot read is.1.0 is.1.1 is.1.2 is.1.3 is.1.4))

pub this_from : (token : Span) (part : NamePart) (args : Exprs) (span : Span) (read : List Loaded) →
    call_or_new (call_on (Some (subject'.This token)) part args span) read → this_called (call_on (Some (subject'.This token)) part args span) read
this_from token part args span read is =
    let f = from_call (subject'.This token) part args read is.1.1 in
    (((token, (f.dot, (part, args))), span), refl, (is.0, (f.front, f.back, f.parts, f.receiver, f.method)))

pub new_called_to : SpellsAsWell new_called call_or_new
new_called_to e read ((new_expr of args span, n), same, is) = rw same (is.0, is.2)
new_called_to e read (c, same, is) = elim is [ ]

-- ---- the statements

abbrev pub calls : (Expr → Row) → Stmt → Row
calls of = made call_of (with_span (both of (sign_at sign'.Semicolon)))

pub calls_to : (of : Expr → Row) → SpellsAsWell of call_or_new → SpellsAsWell (calls of) stmt
calls_to of to s read (((e, end), span), same, is) = rw same (is.0, (is.1.0, is.1.1, is.1.2, to e is.1.0 is.1.3, (end, is.1.4)))

pub calls_from : (of : Expr → Row) (e : Expr) (span : Span) (read : List Loaded) → (is : stmt (call_stmt e span) read) → of e is.1.0 → calls of (call_stmt e span) read
calls_from of e span read is from = (((e, is.1.4.0), span), refl, (is.0, (is.1.0, is.1.1, is.1.2, from, is.1.4.1)))

call_laws :
    {room : ℕ} {of : Expr → Row} {p : Reader Expr} {first more : List ℕ} → Laws room of p first more false →
    disjoint (on sign'.Semicolon) more ≡ true → Laws room (calls of) (read_call p) first [] false
call_laws {room = room} a apart = made_laws call_of (span_laws (after_laws a (sign_laws room sign'.Semicolon) apart))

module _ (room : ℕ) (refs : ℕ → Reader Ref) (exprs : ℕ → Reader Counted) (r : InnerRefs room refs) (a : Inner room exprs after_expr) where
  pub call_name_laws : Laws room (calls name_called) (read_call (read_called_name exprs room)) at_name [] false
  call_name_laws =
      let call_or_new = after_laws (name_laws room) (tail_laws room refs exprs after_expr r a refl refl) refl in
      call_laws (made_laws called_name (span_laws call_or_new)) refl

  pub call_this_laws : Laws room (calls this_called) (read_call (read_called_this exprs room)) (at_word word'.This) [] false
  call_this_laws =
      let call_or_new = after_laws (word_laws room word'.This) (method_laws room refs exprs after_expr r a refl refl) refl in
      call_laws (made_laws called_this (span_laws call_or_new)) refl

  pub call_new_laws : Laws room (calls new_called) (read_call (read_as uncounted (read_new refs exprs room))) (at_word word'.New) [] false
  call_new_laws = call_laws (made_laws uncounted (new_laws room refs exprs after_expr r a refl refl)) refl
