-- The layouts of statements are read again.
use Rattle.std.proofs.Common.{ℕ, ◌≡◌, true, false, List, [], ◌∷◌, ◌++◌, Some, None, option_map, flat_map, map, inl, refl, sym, ap, ap₂, ◌∙◌, append-nil, append_assoc}
use Rattle.std.specs.Prelude.{⊤}
use Rattle.ob_base.specs.declared.fault.Span.{Span}
use Rattle.ob_lexer.specs.declared.token.TokenKind.{TokenKind}
use Rattle.ob_lexer.specs.declared.token.TokenKind.TheVariants as kind
use Rattle.ob_lexer.specs.declared.token.Word.TheVariants as word'
use Rattle.ob_lexer.specs.declared.token.Sign.TheVariants as sign'
use Rattle.ob_tree.specs.Exprs.{Expr, call_expr, new_expr}
use Rattle.ob_tree.specs.Stmts.{int_local, bool_local, text_local, named_local, GivenExpr, Stmt, declare_stmt, assign_stmt, stage_stmt, change_stmt, call_stmt, test_stmt, if_stmt, while_stmt, return_stmt, revert_stmt, disown_stmt, assert_stmt, block_with, no_else, else_with, Stmts, no_stmts, and_stmt}
use Rattle.ob_tree_print.specs.NameTokens.{if_empty, token_of_name, token_of_subject, tokens_of_perm}
use Rattle.ob_tree_print.specs.ExprTokens.{tokens_of_expr}
use Rattle.ob_tree_print.specs.StmtTokens.{tokens_of_local, tokens_of_value, tokens_of_given, tokens_of_change, tokens_of_membership, tokens_of_test, tokens_of_condition, tokens_of_while, tokens_of_claim, tokens_of_stmt, tokens_of_block, tokens_of_else, tokens_of_stmts}
use Rattle.ob_parser_spec.specs.Rows.{Loaded, Covers, either, ◌⨟◌, word, sign, raised, counted, maybe, parted}
use Rattle.ob_parser_spec.specs.ExprRows.{spelled, expr}
use Rattle.ob_parser_spec.specs.StmtRows.{local, given, all_given, call_or_new, braced, stmt, stmts, block, alternative, chained}
use Rattle.ob_parser_spec.specs.Primaries.{moved}
use Rattle.ob_tree_print_laws.specs.Unplaced.{nowhere, unplaced_expr, unplaced_local, unplaced_given, unplaced_stmt, unplaced_block, unplaced_else, unplaced_stmts}
use Rattle.ob_tree_print_laws.proofs.AgainRows.{Laid, alike, Again, Around, around_itself, around_raised, around_middle, ◌before◌, token_laid, span_laid, word_laid, sign_laid, nothing_laid, none_laid, never_laid, said_laid, known_laid, layout_laid, raised_laid, enclosed_laid, around_laid, either_laid, filled_after, some_span, some_span_laid, spanned_laid, separated, maybe_laid, parted_laid}
use Rattle.ob_tree_print_laws.proofs.AgainNames.{name_again, subject_again, perm_again, named_again}
use Rattle.ob_tree_print_laws.proofs.AgainExprs.{moved_unplaced, bare, bare_again, filled_expr, expr_again}

-- ---- the parts of statements

pub local_again : Again local unplaced_local tokens_of_local
local_again (int_local span) = said_laid (λ read is. (int_local is.0, is.1, refl)) (span_laid (kind.Word word'.Int) span 0)
local_again (bool_local span) = said_laid (λ read is. (bool_local is.0, is.1, refl)) (span_laid (kind.Word word'.Bool) span 0)
local_again (text_local span) = said_laid (λ read is. (text_local is.0, is.1, refl)) (span_laid (kind.Word word'.String) span 0)
local_again (named_local of) = said_laid (λ read is. (named_local is.0, is.1, ap named_local is.2)) (named_again of)

value_again : Again (maybe expr) (option_map unplaced_expr) tokens_of_value
value_again None = maybe_laid expr unplaced_expr tokens_of_expr expr_again None
value_again (Some e) = maybe_laid expr unplaced_expr tokens_of_expr expr_again (Some e)

-- the layout of a field and its value
abbrev kinds_of_given : GivenExpr → List TokenKind
kinds_of_given g = token_of_name g.field ∷ kind.Sign sign'.Equals ∷ tokens_of_expr g.value

given_again : Again given unplaced_given kinds_of_given
given_again g = said_laid (λ read (f, b, e, (p, is, same), (f₁, b₁, e₁, equals, (v, held, alike))). (record { field = p; value = v }, (f, b, e, is, (f₁, b₁, e₁, equals, held)), ap₂ (λ x y. record { field = x; value = y }) same alike)) (name_again g.field before sign_laid sign'.Equals before expr_again g.value)

more_given : (gs : List GivenExpr) → flat_map (λ g. kind.Sign sign'.Comma ∷ kinds_of_given g) gs ≡ tokens_of_given false gs
more_given [] = refl
more_given (g ∷ gs) = ap (λ ks. kind.Sign sign'.Comma ∷ (kinds_of_given g ++ ks)) (more_given gs)

some_given : (gs : List GivenExpr) → separated sign'.Comma kinds_of_given gs ≡ tokens_of_given true gs
some_given [] = refl
some_given (g ∷ gs) = ap (λ ks. kinds_of_given g ++ ks) (more_given gs)

all_given_again : Again all_given (map unplaced_given) tokens_of_change
unfolding if_empty
all_given_again [] = said_laid (λ read is. ([], inl is, refl)) none_laid
all_given_again (g ∷ gs) = said_laid says (sign_laid sign'.OpenParen before layout_laid (some_given (g ∷ gs)) (parted_laid sign'.Comma given unplaced_given kinds_of_given given_again (g ∷ gs)) before sign_laid sign'.CloseParen)
  where
    some : (hs : List GivenExpr) (read f b f₁ b₁ : List Loaded) → read ≡ f ++ b → sign sign'.OpenParen f → b ≡ f₁ ++ b₁ → parted sign'.Comma given hs f₁ → sign sign'.CloseParen b₁ → all_given hs read
    some [] read f b f₁ b₁ e left e₁ is right = elim is [ ]
    some (h ∷ hs) read f b f₁ b₁ e left e₁ is right = (f, b, e, left, (f₁, b₁, e₁, is, right))

    says : (read : List Loaded) → (sign sign'.OpenParen ⨟ alike (parted sign'.Comma given) (map unplaced_given) (g ∷ gs) ⨟ sign sign'.CloseParen) read → alike all_given (map unplaced_given) (g ∷ gs) read
    says read (f, b, e, left, (f₁, b₁, e₁, (hs, is, same), right)) = (hs, some hs read f b f₁ b₁ e left e₁ is right, same)

-- ---- calls

-- what stands as a statement
abbrev Calls : Expr → Type 0
Calls (call_expr c span) = ⊤
Calls (new_expr of args span) = ⊤
Calls e = ⊥

calls_unplaced : (e : Expr) → Calls (unplaced_expr e) ≡ Calls e
calls_unplaced (call_expr c span) = refl
calls_unplaced (new_expr of args span) = refl
calls_unplaced e = refl

calls_alike : (e y : Expr) → unplaced_expr y ≡ unplaced_expr e → Calls e → Calls y
calls_alike e y same is = rw (sym (calls_unplaced y) ∙ ap Calls same ∙ calls_unplaced e) is

called_moved : (s : Span) (y : Expr) (n : ℕ) (read : List Loaded) → Covers s read → spelled y n read → Calls y → call_or_new (moved s y) read
called_moved s (call_expr c span) n read place is calls = (place, (refl, is.1))
called_moved s (new_expr of args span) n read place is calls = (place, (refl, is.1))
called_moved s y n read place is calls = absurd calls

call_laid : (e : Expr) → Calls e → ((read : List Loaded) → call_or_new e read → bare e read) → Laid (call_or_new e) (alike call_or_new unplaced_expr e) (tokens_of_expr e)
call_laid e calls knows = said_laid says (some_span_laid (filled_expr e) (known_laid knows (bare_again e)))
  where
    says : (read : List Loaded) → some_span (λ s. alike bare unplaced_expr e) read → alike call_or_new unplaced_expr e read
    says read (s, (c, (y, (n, is), same))) = (moved s y, called_moved s y n read c is (calls_alike e y same calls), moved_unplaced s y ∙ same)

called_again : Again call_or_new unplaced_expr tokens_of_expr
called_again (call_expr c span) = call_laid (call_expr c span) tt (λ read is. (0, is.1))
called_again (new_expr of args span) = call_laid (new_expr of args span) tt (λ read is. (0, is.1))
called_again e = never_laid

-- ---- what stands after `else`

in_braces : (body : Stmts) (end : Span) (read : List Loaded) → braced end (stmts body) read → Around (stmts body) read
in_braces body end read (f, b, e, left, (f₁, b₁, e₁, (low, up, is), right)) = around_middle read f b f₁ b₁ e e₁ (around_raised 1 f₁ low up (around_itself is))

-- the only statement of a block
in_only : (s : Stmt) (read : List Loaded) → raised 1 (stmt s) read → Around (stmts (and_stmt s no_stmts)) read
in_only s read (low, up, is) = around_raised 1 read low up (around_itself (low, [], sym (append-nil low), is, refl))

in_chained : (body : Stmts) (end : Span) (read : List Loaded) → chained body end read → Around (stmts body) read
in_chained (and_stmt (test_stmt of state then otherwise span) no_stmts) end read is = in_only (test_stmt of state then otherwise span) read is.1
in_chained (and_stmt (if_stmt condition then otherwise span) no_stmts) end read is = in_only (if_stmt condition then otherwise span) read is.1
in_chained body end read is = elim is [ ]

-- a block after `else` stands in braces, also where one `if` was written without them
alternative_laid : (body : Stmts) (end : Span) → Laid (stmts body) (alike stmts unplaced_stmts body) (tokens_of_stmts body) → Laid (alternative (else_with (block_with body end))) (alike alternative unplaced_else (else_with (block_with body end))) (tokens_of_else (else_with (block_with body end)))
alternative_laid body end a = said_laid says (word_laid word'.Else before enclosed_laid sign'.OpenBrace sign'.CloseBrace inner)
  where
    inner : Laid (either (braced end (stmts body)) (chained body end)) (alike stmts unplaced_stmts body) (tokens_of_stmts body)
    inner = either_laid (around_laid (in_braces body end) a) (around_laid (in_chained body end) a)

    says : (read : List Loaded) → (word word'.Else ⨟ counted sign'.OpenBrace (alike stmts unplaced_stmts body) sign'.CloseBrace) read → alike alternative unplaced_else (else_with (block_with body end)) read
    says read (f, b, e, else, (f₁, b₁, e₁, left, (f₂, b₂, e₂, (low, up, (body', held, same)), (s, right)))) =
        (else_with (block_with body' s), (f, b, e, else, inl (f₁, b₁, e₁, left, (f₂, b₂, e₂, (low, up, held), right))), ap (λ ss. else_with (block_with ss nowhere)) same)

-- ---- statements

mutual
  unfolding tokens_of_test tokens_of_membership tokens_of_condition tokens_of_while tokens_of_claim

  pub stmt_again : Again stmt unplaced_stmt tokens_of_stmt
  stmt_again (declare_stmt of part value span) = said_laid (λ read (s, (c, (f, b, e, (l, is, same), (f₁, b₁, e₁, (p, is₁, same₁), (f₂, b₂, e₂, equals, (f₃, b₃, e₃, (v, is₂, same₂), end)))))). (declare_stmt l p v s, (c, (f, b, e, is, (f₁, b₁, e₁, is₁, (f₂, b₂, e₂, equals, (f₃, b₃, e₃, is₂, end))))), cc)) (spanned_laid span (filled_after _ _ _) (local_again of before name_again part before sign_laid sign'.Equals before expr_again value before sign_laid sign'.Semicolon))
  stmt_again (assign_stmt part value span) = said_laid (λ read (s, (c, (f, b, e, (p, is, same), (f₁, b₁, e₁, equals, (f₂, b₂, e₂, (v, is₁, same₁), end))))). (assign_stmt p v s, (c, (f, b, e, is, (f₁, b₁, e₁, equals, (f₂, b₂, e₂, is₁, end)))), ap₂ (λ x y. assign_stmt x y nowhere) same same₁)) (spanned_laid span tt (name_again part before sign_laid sign'.Equals before expr_again value before sign_laid sign'.Semicolon))
  stmt_again (stage_stmt state field value span) = said_laid (λ read (s, (c, (f, b, e, (p, is, same), (f₁, b₁, e₁, colons, (f₂, b₂, e₂, (q, is₁, same₁), (f₃, b₃, e₃, equals, (f₄, b₄, e₄, (v, is₂, same₂), end))))))). (stage_stmt p q v s, (c, (f, b, e, is, (f₁, b₁, e₁, colons, (f₂, b₂, e₂, is₁, (f₃, b₃, e₃, equals, (f₄, b₄, e₄, is₂, end)))))), cc)) (spanned_laid span tt (name_again state before sign_laid sign'.DoubleColon before name_again field before sign_laid sign'.Equals before expr_again value before sign_laid sign'.Semicolon))
  stmt_again (change_stmt state values span) = said_laid (λ read (s, (c, (f, b, e, arrow, (f₁, b₁, e₁, (p, is, same), (f₂, b₂, e₂, (gs, is₁, same₁), end))))). (change_stmt p gs s, (c, (f, b, e, arrow, (f₁, b₁, e₁, is, (f₂, b₂, e₂, is₁, end)))), ap₂ (λ x y. change_stmt x y nowhere) same same₁)) (spanned_laid span tt (sign_laid sign'.Arrow before name_again state before all_given_again values before sign_laid sign'.Semicolon))
  stmt_again (call_stmt value span) = said_laid (λ read (s, (c, (f, b, e, (v, is, same), end))). (call_stmt v s, (c, (f, b, e, is, end)), ap (λ x. call_stmt x nowhere) same)) (spanned_laid span (filled_after _ _ _) (called_again value before sign_laid sign'.Semicolon))
  stmt_again (test_stmt of state then otherwise span) = said_laid (λ read (s, (c, (f, b, e, first, (f₁, b₁, e₁, left, (f₂, b₂, e₂, (o, is, same), (f₃, b₃, e₃, is_in, (f₄, b₄, e₄, (p, is₁, same₁), (f₅, b₅, e₅, right, (f₆, b₆, e₆, (t, is₂, same₂), (d, is₃, same₃)))))))))). (test_stmt o p t d s, (c, (f, b, e, first, (f₁, b₁, e₁, left, (f₂, b₂, e₂, is, (f₃, b₃, e₃, is_in, (f₄, b₄, e₄, is₁, (f₅, b₅, e₅, right, (f₆, b₆, e₆, is₂, is₃)))))))), cc)) (spanned_laid span tt (word_laid word'.If before sign_laid sign'.OpenParen before subject_again of before word_laid word'.In before name_again state before sign_laid sign'.CloseParen before block_again then before else_again otherwise))
  stmt_again (if_stmt condition then otherwise span) = said_laid (λ read (s, (c, (f, b, e, first, (f₁, b₁, e₁, left, (f₂, b₂, e₂, (q, is, same), (f₃, b₃, e₃, right, (f₄, b₄, e₄, (t, is₁, same₁), (d, is₂, same₂)))))))). (if_stmt q t d s, (c, (f, b, e, first, (f₁, b₁, e₁, left, (f₂, b₂, e₂, is, (f₃, b₃, e₃, right, (f₄, b₄, e₄, is₁, is₂)))))), cc)) (spanned_laid span tt (layout_laid (ap (λ ks. kind.Word word'.If ∷ kind.Sign sign'.OpenParen ∷ ks) (sym (append_assoc (tokens_of_expr condition) (kind.Sign sign'.CloseParen ∷ []) (tokens_of_block then ++ tokens_of_else otherwise)))) (word_laid word'.If before sign_laid sign'.OpenParen before expr_again condition before sign_laid sign'.CloseParen before block_again then before else_again otherwise)))
  stmt_again (while_stmt condition body span) = said_laid (λ read (s, (c, (f, b, e, first, (f₁, b₁, e₁, left, (f₂, b₂, e₂, (q, is, same), (f₃, b₃, e₃, right, (t, is₁, same₁))))))). (while_stmt q t s, (c, (f, b, e, first, (f₁, b₁, e₁, left, (f₂, b₂, e₂, is, (f₃, b₃, e₃, right, is₁))))), ap₂ (λ x y. while_stmt x y nowhere) same same₁)) (spanned_laid span tt (layout_laid (ap (λ ks. kind.Word word'.While ∷ kind.Sign sign'.OpenParen ∷ ks) (sym (append_assoc (tokens_of_expr condition) (kind.Sign sign'.CloseParen ∷ []) (tokens_of_block body)))) (word_laid word'.While before sign_laid sign'.OpenParen before expr_again condition before sign_laid sign'.CloseParen before block_again body)))
  stmt_again (return_stmt value span) = said_laid (λ read (s, (c, (f, b, e, return, (f₁, b₁, e₁, (v, is, same), end)))). (return_stmt v s, (c, (f, b, e, return, (f₁, b₁, e₁, is, end))), ap (λ x. return_stmt x nowhere) same)) (spanned_laid span tt (word_laid word'.Return before value_again value before sign_laid sign'.Semicolon))
  stmt_again (revert_stmt text span) = said_laid (λ read (s, (c, (f, b, e, revert, (f₁, b₁, e₁, (v, is, same), end)))). (revert_stmt v s, (c, (f, b, e, revert, (f₁, b₁, e₁, is, end))), ap (λ x. revert_stmt x nowhere) same)) (spanned_laid span tt (word_laid word'.Revert before value_again text before sign_laid sign'.Semicolon))
  stmt_again (disown_stmt part span) = said_laid (λ read (s, (c, (f, b, e, disown, (f₁, b₁, e₁, (p, is, same), end)))). (disown_stmt p s, (c, (f, b, e, disown, (f₁, b₁, e₁, is, end))), ap (λ x. disown_stmt x nowhere) same)) (spanned_laid span tt (word_laid word'.Disown before name_again part before sign_laid sign'.Semicolon))
  stmt_again (assert_stmt of with span) = said_laid (λ read (s, (c, (f, b, e, left, (f₁, b₁, e₁, (o, is, same), (f₂, b₂, e₂, at, (f₃, b₃, e₃, (p, is₁, same₁), (f₄, b₄, e₄, right, end))))))). (assert_stmt o p s, (c, (f, b, e, left, (f₁, b₁, e₁, is, (f₂, b₂, e₂, at, (f₃, b₃, e₃, is₁, (f₄, b₄, e₄, right, end)))))), ap₂ (λ x y. assert_stmt x y nowhere) same same₁)) (spanned_laid span tt (layout_laid (ap (λ ks. kind.Sign sign'.OpenBracket ∷ token_of_subject of ∷ kind.Sign sign'.At ∷ ks) (sym (append_assoc (tokens_of_perm with) (kind.Sign sign'.CloseBracket ∷ []) (kind.Sign sign'.Semicolon ∷ [])))) (sign_laid sign'.OpenBracket before subject_again of before sign_laid sign'.At before perm_again with before sign_laid sign'.CloseBracket before sign_laid sign'.Semicolon)))

  pub block_again : Again block unplaced_block tokens_of_block
  block_again (block_with body end) = said_laid (λ read (f, b, e, left, (f₁, b₁, e₁, (low, up, (ss, is, same)), (s, right))). (block_with ss s, (f, b, e, left, (f₁, b₁, e₁, (low, up, is), right)), ap (λ x. block_with x nowhere) same)) (token_laid (kind.Sign sign'.OpenBrace) 1 before raised_laid 1 (stmts_again body) before span_laid (kind.Sign sign'.CloseBrace) end 0)

  else_again : Again alternative unplaced_else tokens_of_else
  else_again no_else = said_laid (λ read is. (no_else, is, refl)) nothing_laid
  else_again (else_with (block_with body end)) = alternative_laid body end (stmts_again body)

  pub stmts_again : Again stmts unplaced_stmts tokens_of_stmts
  stmts_again no_stmts = said_laid (λ read is. (no_stmts, is, refl)) nothing_laid
  stmts_again (and_stmt s ss) = said_laid (λ read (f, b, e, (t, is, same), (more, is₁, same₁)). (and_stmt t more, (f, b, e, is, is₁), ap₂ and_stmt same same₁)) (stmt_again s before stmts_again ss)
