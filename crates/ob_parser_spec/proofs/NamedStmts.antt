-- The laws of statements that begin with a name: what is after the name says which.
use Rattle.std.proofs.Common.{ℕ, ◌≡◌, false, List, [], ◌∷◌, ◌++◌, IsTrue, inl, inr, refl, ap, ◌∙◌}
use Rattle.std.proofs.lemmas.Bool.{false≢true}
use Rattle.ob_base.specs.declared.fault.Span.{Span}
use Rattle.ob_lexer.specs.declared.token.Token.{Token}
use Rattle.ob_lexer.specs.declared.token.TokenKind.TheVariants as kind
use Rattle.ob_lexer.specs.declared.token.Sign.TheVariants as sign'
use Rattle.ob_tree.specs.Names.{Named, bare_name, name_with, Ref}
use Rattle.ob_tree.specs.Exprs.{Expr}
use Rattle.ob_tree.specs.Stmts.{Local, named_local, Stmt}
use Rattle.ob_tree.specs.declared.name.NamePart.{NamePart}
use Rattle.ob_parser_spec.specs.Rows.{Row, Loaded, name}
use Rattle.ob_parser_spec.specs.Grammar.{tokens_of}
use Rattle.ob_parser_spec.specs.NameRows.{named}
use Rattle.ob_parser_spec.specs.ExprRows.{expr}
use Rattle.ob_parser_spec.specs.Readers.{Reader, is_of, span_of_tokens, read_as}
use Rattle.ob_parser_spec.specs.NameReaders.{on, read_named}
use Rattle.ob_parser_spec.specs.Chains.{Counted}
use Rattle.ob_parser_spec.specs.Primaries.{expr_first, uncounted}
use Rattle.ob_parser_spec.specs.StmtReaders.{declare_of, read_declare, assign_of, stage_of, called_name, call_of, call_signs, read_after_name}
use Rattle.ob_parser_spec.proofs.Laws.{Begin, Sample, Laws}
use Rattle.ob_parser_spec.proofs.One.{token_of, free}
use Rattle.ob_parser_spec.proofs.Both.{both}
use Rattle.ob_parser_spec.proofs.Either.{one_of, begin_left}
use Rattle.ob_parser_spec.proofs.Opened.{loaded_at}
use Rattle.ob_parser_spec.proofs.Spanned.{covers, with_span}
use Rattle.ob_parser_spec.proofs.TokenRows.{name_to, takes_name}
use Rattle.ob_parser_spec.proofs.RowLaws.{sign_at, at_name, sign_laws, after_laws, made, made_laws}
use Rattle.ob_parser_spec.proofs.NameLaws.{InnerRefs, named_laws}
use Rattle.ob_parser_spec.proofs.Chains.{at_level}
use Rattle.ob_parser_spec.proofs.Arguments.{expr_laws}
use Rattle.ob_parser_spec.proofs.PrimaryLaws.{tail_row, Inner, tail_laws}
use Rattle.ob_parser_spec.proofs.DepthLaws.{after_expr}
use Rattle.ob_parser_spec.proofs.AheadLaws.{Two, not_second, Free, ahead_laws}
use Rattle.ob_parser_spec.proofs.AssignLaws.{assigned, declared, assigns, stages, assigned_laws, valued_laws, assign_laws, stage_laws, declare_laws}
use Rattle.ob_parser_spec.proofs.CallLaws.{name_called, calls, call_name_laws}

-- ---- the second token

-- what stands after one token begins so
pub two_of : (kinds : List ℕ) (one : Loaded) (front back read : List Loaded) → read ≡ front ++ back → front ≡ one ∷ [] → Begin kinds false back → Two kinds read
two_of kinds one front [] read parts is begins = absurd (false≢true begins)
two_of kinds one front (l ∷ ls) read parts is begins = record { one = one; two = l; others = ls; begins = parts ∙ ap (λ f. f ++ (l ∷ ls)) is; second = begins }

two_front : (kinds : List ℕ) (front back read : List Loaded) → read ≡ front ++ back → Two kinds front → Two kinds read
two_front kinds front back read parts t = record { one = t.one; two = t.two; others = t.others ++ back; begins = parts ∙ ap (λ f. f ++ back) t.begins; second = t.second }

two_after : {A : Type 0} (kinds : List ℕ) (tail : A → Row) → ((x : A) (read : List Loaded) → tail x read → Begin kinds false read) → (pair : NamePart × A) (read : List Loaded) →
    both name tail pair read → Two kinds read
two_after kinds tail begins pair read is = two_of kinds (free (token_of (kind.Name pair.0.name) pair.0.span)) is.0 is.1 read is.2 is.3 (begins pair.1 is.1 is.4)

-- after a type stands a name, or its own bracket
abbrev name_or_bracket : List ℕ
name_or_bracket = at_name ++ on sign'.OpenBracket

two_named : (of : Named) (front back read : List Loaded) → read ≡ front ++ back → named of front → Begin at_name false back → Two name_or_bracket read
two_named (bare_name n span) front back read parts is begins =
    two_of name_or_bracket (free (token_of (kind.Name n) span)) front back read parts is (begin_left at_name (on sign'.OpenBracket) false back begins)
two_named (name_with n argument span) front back read parts is begins =
    let c = is.1 in
    let bracket = c.4 in
    let all : c.1 ≡ loaded_at 1 (token_of (kind.Sign sign'.OpenBracket) bracket.3.0) ∷ bracket.1 = bracket.2 ∙ ap (λ f. f ++ bracket.1) bracket.3.1 in
    two_front name_or_bracket front back read parts (two_of name_or_bracket (free (token_of (kind.Name n) c.3.0)) c.0 c.1 front c.2 c.3.1 (rw all refl))

-- ---- rows that begin with a token of no load

pub free_name : (t : Token) → IsTrue (is_of at_name t) → (part : NamePart) × name part (free t ∷ [])
free_name t is = let part = takes_name.of t is in (part.0, name_to part.0 (free t ∷ []) (t, part.1, refl))

free_front : {A B C : Type 0} (f : (A × B) × Span → C) (first : A → Row) (tail : B → Row) (t : Token) → Free first t → Sample tail → Free (made f (with_span (both first tail))) t
free_front {A = A} {B = B} f first tail t x s =
    let pair : (A × B) × Span = ((x.0, s.value), span_of_tokens (tokens_of (free t ∷ (x.1 ++ s.read)))) in
    (f pair, x.1 ++ s.read, (pair, refl, (covers (free t) (x.1 ++ s.read), (free t ∷ x.1, s.read, refl, x.2, s.spelled))))

free_named : {B C : Type 0} (f : (NamePart × B) × Span → C) (tail : B → Row) (t : Token) → IsTrue (is_of at_name t) → Sample tail → Free (made f (with_span (both name tail))) t
free_named f tail t is s = let x = free_name t is in free_front f name tail t (x.0, [], x.1) s

-- ---- the statements

abbrev pub named_locals : Local → Row
named_locals = made named_local named

abbrev pub after_stage : Stmt → Row
after_stage = one_of (calls name_called) (declared named_locals)

abbrev pub after_assign : Stmt → Row
after_assign = one_of stages after_stage

abbrev pub begins_with_name : Stmt → Row
begins_with_name = one_of assigns after_assign

-- what such a statement may go on with, which the test of its second token takes for such
abbrev pub seconds : List ℕ
seconds = (call_signs ++ on sign'.DoubleColon) ++ on sign'.Equals

module _ (room : ℕ) (refs : ℕ → Reader Ref) (exprs : ℕ → Reader Counted) (r : InnerRefs room refs) (a : Inner room exprs after_expr)
    (c : Laws room (at_level 1) (exprs room) expr_first after_expr false) where
  abbrev value : Reader Expr
  value = read_as uncounted (exprs room)

  value_laws : Laws room expr value expr_first after_expr false
  value_laws = expr_laws room (exprs room) expr_first after_expr c

  declare_named_laws : Laws room (declared named_locals) (read_declare (read_as named_local (read_named refs room)) value) at_name [] false
  declare_named_laws = declare_laws room value value_laws named_locals (read_as named_local (read_named refs room)) at_name (on sign'.OpenBracket) (made_laws named_local (named_laws room refs r)) refl

  -- ---- which second token each has

  second_call : (s : Stmt) (read : List Loaded) → calls name_called s read → Two call_signs read
  second_call s read (((e, end), span), same, is) =
      let call = is.1.3 in
      let tail = tail_laws room refs exprs after_expr r a refl refl in
      two_front call_signs is.1.0 is.1.1 read is.1.2 (two_after call_signs tail_row tail.begins call.0.0 is.1.0 call.2.1)

  second_declare : (s : Stmt) (read : List Loaded) → declared named_locals s read → Two name_or_bracket read
  second_declare s read (((l, valued), span), same, is) =
      let of = is.1.3 in
      two_named of.0 is.1.0 is.1.1 read is.1.2 of.2 ((valued_laws room value value_laws).begins valued is.1.1 is.1.4)

  second_stage : (s : Stmt) (read : List Loaded) → stages s read → Two (on sign'.DoubleColon) read
  second_stage s read ((pair, span), same, is) =
      let tail = after_laws (sign_laws room sign'.DoubleColon) (valued_laws room value value_laws) refl in
      two_after (on sign'.DoubleColon) (both (sign_at sign'.DoubleColon) (both name assigned)) tail.begins pair read is.1

  second_assign : (s : Stmt) (read : List Loaded) → assigns s read → Two (on sign'.Equals) read
  second_assign s read ((pair, span), same, is) = two_after (on sign'.Equals) assigned (assigned_laws room value value_laws).begins pair read is.1

  -- ---- each begins with a name

  free_call : (t : Token) → IsTrue (is_of at_name t) → Free (calls name_called) t
  free_call t is =
      let tail = tail_laws room refs exprs after_expr r a refl refl in
      free_front call_of name_called (sign_at sign'.Semicolon) t (free_named called_name tail_row t is tail.sample) (sign_laws room sign'.Semicolon).sample

  free_declare : (t : Token) → IsTrue (is_of at_name t) → Free (declared named_locals) t
  free_declare t is =
      let x = free_name t is in
      free_front declare_of named_locals (both name assigned) t (named_local (bare_name x.0.name x.0.span), [], (bare_name x.0.name x.0.span, refl, x.1)) (valued_laws room value value_laws).sample

  free_stage : (t : Token) → IsTrue (is_of at_name t) → Free stages t
  free_stage t is =
      let tail = after_laws (sign_laws room sign'.DoubleColon) (valued_laws room value value_laws) refl in
      free_named stage_of (both (sign_at sign'.DoubleColon) (both name assigned)) t is tail.sample

  free_assign : (t : Token) → IsTrue (is_of at_name t) → Free assigns t
  free_assign t is = free_named assign_of assigned t is (assigned_laws room value value_laws).sample

  free_after_stage : (t : Token) → IsTrue (is_of at_name t) → Free after_stage t
  free_after_stage t is = let x = free_declare t is in (x.0, x.1, inr x.2)

  free_after_assign : (t : Token) → IsTrue (is_of at_name t) → Free after_assign t
  free_after_assign t is = let x = free_after_stage t is in (x.0, x.1, inr x.2)

  -- ---- one of them, as the second token says

  no_call : (s : Stmt) (one two : Loaded) (others : List Loaded) → declared named_locals s (one ∷ two ∷ others) → IsTrue (is_of at_name one.token) → is_of call_signs two.token ≡ false
  no_call s one two others is first = not_second name_or_bracket call_signs one two others refl (second_declare s (one ∷ two ∷ others) is)

  no_stage : (s : Stmt) (one two : Loaded) (others : List Loaded) → after_stage s (one ∷ two ∷ others) → IsTrue (is_of at_name one.token) → is_of (on sign'.DoubleColon) two.token ≡ false
  no_stage s one two others (inl is) first = not_second call_signs (on sign'.DoubleColon) one two others refl (second_call s (one ∷ two ∷ others) is)
  no_stage s one two others (inr is) first = not_second name_or_bracket (on sign'.DoubleColon) one two others refl (second_declare s (one ∷ two ∷ others) is)

  no_assign : (s : Stmt) (one two : Loaded) (others : List Loaded) → after_assign s (one ∷ two ∷ others) → IsTrue (is_of at_name one.token) → is_of (on sign'.Equals) two.token ≡ false
  no_assign s one two others (inl is) first = not_second (on sign'.DoubleColon) (on sign'.Equals) one two others refl (second_stage s (one ∷ two ∷ others) is)
  no_assign s one two others (inr (inl is)) first = not_second call_signs (on sign'.Equals) one two others refl (second_call s (one ∷ two ∷ others) is)
  no_assign s one two others (inr (inr is)) first = not_second name_or_bracket (on sign'.Equals) one two others refl (second_declare s (one ∷ two ∷ others) is)

  pub named_stmt_laws : Laws room begins_with_name (read_after_name refs exprs room) at_name seconds false
  named_stmt_laws =
      let declare = ahead_laws call_signs (call_name_laws room refs exprs r a) declare_named_laws (λ t is. is) second_call no_call free_call free_declare in
      let stage = ahead_laws (on sign'.DoubleColon) (stage_laws room value value_laws) declare (λ t is. is) second_stage no_stage free_stage free_after_stage in
      ahead_laws (on sign'.Equals) (assign_laws room value value_laws) stage (λ t is. is) second_assign no_assign free_assign free_after_assign
