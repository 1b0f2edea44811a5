-- The laws of statements without blocks.
use Rattle.std.proofs.Common.{ℕ, ◌≡◌, false, List, [], Some, None, inl, inr, refl}
use Rattle.ob_base.specs.declared.fault.Span.{Span}
use Rattle.ob_tree.specs.Names.{Ref}
use Rattle.ob_tree.specs.Exprs.{Expr, call_expr, new_expr, call_with}
use Rattle.ob_tree.specs.Stmts.{Local, int_local, bool_local, text_local, named_local, Stmt, declare_stmt, assign_stmt, stage_stmt, change_stmt, call_stmt, test_stmt, if_stmt, while_stmt, return_stmt, revert_stmt, disown_stmt, assert_stmt}
use Rattle.ob_tree.specs.declared.name.Subject.TheVariants as subject'
use Rattle.ob_parser_spec.specs.Rows.{Row, Loaded, never}
use Rattle.ob_parser_spec.specs.ExprRows.{expr}
use Rattle.ob_parser_spec.specs.StmtRows.{local, call_or_new, stmt}
use Rattle.ob_parser_spec.specs.Readers.{Reader, read_token, read_as}
use Rattle.ob_parser_spec.specs.Chains.{Counted}
use Rattle.ob_parser_spec.specs.Primaries.{expr_first, uncounted}
use Rattle.ob_parser_spec.specs.MemberReaders.{value_types}
use Rattle.ob_parser_spec.specs.StmtReaders.{value_local_if, read_simple, simple_first}
use Rattle.ob_parser_spec.proofs.Laws.{SpellsAsWell, Laws}
use Rattle.ob_parser_spec.proofs.Either.{one_of}
use Rattle.ob_parser_spec.proofs.RowLaws.{choice_laws, alike_laws}
use Rattle.ob_parser_spec.proofs.NameLaws.{InnerRefs}
use Rattle.ob_parser_spec.proofs.Chains.{at_level}
use Rattle.ob_parser_spec.proofs.Arguments.{expr_laws}
use Rattle.ob_parser_spec.proofs.PrimaryLaws.{Inner}
use Rattle.ob_parser_spec.proofs.DepthLaws.{after_expr}
use Rattle.ob_parser_spec.proofs.AssignLaws.{value_local, value_local_laws, declared, assigns, stages, declare_laws}
use Rattle.ob_parser_spec.proofs.ValueLaws.{returns, reverts, disowns, asserts, return_laws, revert_laws, disown_laws, assert_laws}
use Rattle.ob_parser_spec.proofs.GivenLaws.{changes, change_laws}
use Rattle.ob_parser_spec.proofs.CallLaws.{call_on, name_called, this_called, new_called, name_called_to, applied_from, method_from, this_called_to, this_from, new_called_to, calls, calls_to, calls_from, call_this_laws, call_new_laws}
use Rattle.ob_parser_spec.proofs.NamedStmts.{named_locals, begins_with_name, seconds, named_stmt_laws}

-- a statement other than an `if` and a `while`
abbrev pub simple : Stmt → Row
simple (test_stmt of state then otherwise span) = never
simple (if_stmt condition then otherwise span) = never
simple (while_stmt condition body span) = never
simple s = stmt s

-- ---- what each row says

declared_to : (of : Local → Row) → SpellsAsWell of local → SpellsAsWell (declared of) simple
declared_to of to s read (((l, valued), span), same, is) = rw same (is.0, (is.1.0, is.1.1, is.1.2, to l is.1.0 is.1.3, is.1.4))

value_local_to : SpellsAsWell value_local local
value_local_to (named_local of) read is = elim is [ ]
value_local_to l read is = is

named_local_to : SpellsAsWell named_locals local
named_local_to l read (of, same, is) = rw same is

assigns_to : SpellsAsWell assigns simple
assigns_to s read (parts, same, is) = rw same is

stages_to : SpellsAsWell stages simple
stages_to s read (((state, (colons, (field, value))), span), same, is) =
    let tail = is.1.4 in
    rw same (is.0, (is.1.0, is.1.1, is.1.2, is.1.3, (tail.0, tail.1, tail.2, (colons, tail.3), tail.4)))

changes_to : SpellsAsWell changes simple
changes_to s read (((arrow, (state, (values, end))), span), same, is) =
    let a = is.1.4 in
    let b = a.4 in
    rw same (is.0, (is.1.0, is.1.1, is.1.2, (arrow, is.1.3), (a.0, a.1, a.2, a.3, (b.0, b.1, b.2, b.3, (end, b.4)))))

called_to : (s : Stmt) (read : List Loaded) → stmt s read → (e : Expr) → (span : Span) → s ≡ call_stmt e span → simple s read
called_to s read is e span same = let is' : stmt (call_stmt e span) read = rw same at is in rw same is'

calls_simple : (of : Expr → Row) → SpellsAsWell of call_or_new → SpellsAsWell (calls of) simple
calls_simple of to s read is = called_to s read (calls_to of to s read is) is.0.0.0 is.0.1 is.1

returns_to : SpellsAsWell returns simple
returns_to s read (((word, (value, end)), span), same, is) =
    let a = is.1.4 in
    rw same (is.0, (is.1.0, is.1.1, is.1.2, (word, is.1.3), (a.0, a.1, a.2, a.3, (end, a.4))))

reverts_to : SpellsAsWell reverts simple
reverts_to s read (((word, (value, end)), span), same, is) =
    let a = is.1.4 in
    rw same (is.0, (is.1.0, is.1.1, is.1.2, (word, is.1.3), (a.0, a.1, a.2, a.3, (end, a.4))))

disowns_to : SpellsAsWell disowns simple
disowns_to s read (((word, (part, end)), span), same, is) =
    let a = is.1.4 in
    rw same (is.0, (is.1.0, is.1.1, is.1.2, (word, is.1.3), (a.0, a.1, a.2, a.3, (end, a.4))))

asserts_to : SpellsAsWell asserts simple
asserts_to s read (((left, (of, (at, (with, (right, end))))), span), same, is) =
    let a = is.1.4 in
    let b = a.4 in
    let c = b.4 in
    let d = c.4 in
    rw same (
      is.0,
      (
        is.1.0,
        is.1.1,
        is.1.2,
        (left, is.1.3),
        (a.0, a.1, a.2, a.3, (b.0, b.1, b.2, (at, b.3), (c.0, c.1, c.2, c.3, (d.0, d.1, d.2, (right, d.3), (end, d.4))))),
      ),
    )

-- ---- all of them

abbrev all : Stmt → Row
all = one_of begins_with_name (one_of (declared value_local) (one_of (calls this_called) (one_of (calls new_called) (one_of changes (one_of returns (one_of reverts (one_of disowns asserts)))))))

name_to : SpellsAsWell begins_with_name simple
name_to s read (inl is) = assigns_to s read is
name_to s read (inr (inl is)) = stages_to s read is
name_to s read (inr (inr (inl is))) = calls_simple name_called name_called_to s read is
name_to s read (inr (inr (inr is))) = declared_to named_locals named_local_to s read is

all_to : SpellsAsWell all simple
all_to s read (inl is) = name_to s read is
all_to s read (inr (inl is)) = declared_to value_local value_local_to s read is
all_to s read (inr (inr (inl is))) = calls_simple this_called this_called_to s read is
all_to s read (inr (inr (inr (inl is)))) = calls_simple new_called new_called_to s read is
all_to s read (inr (inr (inr (inr (inl is))))) = changes_to s read is
all_to s read (inr (inr (inr (inr (inr (inl is)))))) = returns_to s read is
all_to s read (inr (inr (inr (inr (inr (inr (inl is))))))) = reverts_to s read is
all_to s read (inr (inr (inr (inr (inr (inr (inr (inl is)))))))) = disowns_to s read is
all_to s read (inr (inr (inr (inr (inr (inr (inr (inr is)))))))) = asserts_to s read is

call_from : (e : Expr) (span : Span) (read : List Loaded) → stmt (call_stmt e span) read → all (call_stmt e span) read
call_from (call_expr (call_with None part args) place) span read is =
    let from = applied_from part args place is.1.0 is.1.3 in
    inl (inr (inr (inl (calls_from name_called (call_on None part args place) span read is from))))
call_from (call_expr (call_with (Some (subject'.Name x)) part args) place) span read is =
    let from = method_from x part args place is.1.0 is.1.3 in
    inl (inr (inr (inl (calls_from name_called (call_on (Some (subject'.Name x)) part args place) span read is from))))
call_from (call_expr (call_with (Some (subject'.This token)) part args) place) span read is =
    let from = this_from token part args place is.1.0 is.1.3 in
    inr (inr (inl (calls_from this_called (call_on (Some (subject'.This token)) part args place) span read is from)))
call_from (new_expr of args place) span read is =
    inr (inr (inr (inl (calls_from new_called (new_expr of args place) span read is ((new_expr of args place, 0), refl, (is.1.3.0, refl, is.1.3.1))))))
call_from e span read is = elim is.1.3 [ ]

all_from : SpellsAsWell simple all
all_from (declare_stmt (int_local place) part value span) read is = inr (inl (((int_local place, (part, value)), span), refl, is))
all_from (declare_stmt (bool_local place) part value span) read is = inr (inl (((bool_local place, (part, value)), span), refl, is))
all_from (declare_stmt (text_local place) part value span) read is = inr (inl (((text_local place, (part, value)), span), refl, is))
all_from (declare_stmt (named_local of) part value span) read is =
    inl (inr (inr (inr (((named_local of, (part, value)), span), refl, (is.0, (is.1.0, is.1.1, is.1.2, (of, refl, is.1.3), is.1.4))))))
all_from (assign_stmt part value span) read is = inl (inl (((part, value), span), refl, is))
all_from (stage_stmt state field value span) read is =
    let tail = is.1.4 in
    inl (inr (inl (((state, (tail.3.0, (field, value))), span), refl, (is.0, (is.1.0, is.1.1, is.1.2, is.1.3, (tail.0, tail.1, tail.2, tail.3.1, tail.4))))))
all_from (change_stmt state values span) read is =
    let a = is.1.4 in
    let b = a.4 in
    inr (inr (inr (inr (inl (((is.1.3.0, (state, (values, b.4.0))), span), refl, (is.0, (is.1.0, is.1.1, is.1.2, is.1.3.1, (a.0, a.1, a.2, a.3, (b.0, b.1, b.2, b.3, b.4.1)))))))))
all_from (call_stmt value span) read is = call_from value span read is
all_from (return_stmt value span) read is =
    let a = is.1.4 in
    inr (inr (inr (inr (inr (inl (((is.1.3.0, (value, a.4.0)), span), refl, (is.0, (is.1.0, is.1.1, is.1.2, is.1.3.1, (a.0, a.1, a.2, a.3, a.4.1)))))))))
all_from (revert_stmt value span) read is =
    let a = is.1.4 in
    inr (inr (inr (inr (inr (inr (inl (((is.1.3.0, (value, a.4.0)), span), refl, (is.0, (is.1.0, is.1.1, is.1.2, is.1.3.1, (a.0, a.1, a.2, a.3, a.4.1))))))))))
all_from (disown_stmt part span) read is =
    let a = is.1.4 in
    inr (inr (inr (inr (inr (inr (inr (inl (((is.1.3.0, (part, a.4.0)), span), refl, (is.0, (is.1.0, is.1.1, is.1.2, is.1.3.1, (a.0, a.1, a.2, a.3, a.4.1)))))))))))
all_from (assert_stmt of with span) read is =
    let a = is.1.4 in
    let b = a.4 in
    let c = b.4 in
    let d = c.4 in
    inr (inr (inr (inr (inr (inr (inr (inr (
      ((is.1.3.0, (of, (b.3.0, (with, (d.3.0, d.4.0))))), span),
      refl,
      (is.0, (is.1.0, is.1.1, is.1.2, is.1.3.1, (a.0, a.1, a.2, a.3, (b.0, b.1, b.2, b.3.1, (c.0, c.1, c.2, c.3, (d.0, d.1, d.2, d.3.1, d.4.1)))))),
    ))))))))
all_from s read is = elim is [ ]

module _ (room : ℕ) (refs : ℕ → Reader Ref) (exprs : ℕ → Reader Counted) (r : InnerRefs room refs) (a : Inner room exprs after_expr)
    (c : Laws room (at_level 1) (exprs room) expr_first after_expr false) where
  abbrev value : Reader Expr
  value = read_as uncounted (exprs room)

  value_laws : Laws room expr value expr_first after_expr false
  value_laws = expr_laws room (exprs room) expr_first after_expr c

  pub simple_laws : Laws room simple (read_simple refs exprs room) simple_first seconds false
  simple_laws =
      let eight = choice_laws (disown_laws room) (assert_laws room) refl in
      let seven = choice_laws (revert_laws room value value_laws) eight refl in
      let six = choice_laws (return_laws room value value_laws) seven refl in
      let five = choice_laws (change_laws room value value_laws) six refl in
      let four = choice_laws (call_new_laws room refs exprs r a) five refl in
      let three = choice_laws (call_this_laws room refs exprs r a) four refl in
      let two = choice_laws (declare_laws room value value_laws value_local (read_token value_local_if) value_types [] (value_local_laws room) refl) three refl in
      alike_laws simple all_to all_from (choice_laws (named_stmt_laws room refs exprs r a c) two refl)
