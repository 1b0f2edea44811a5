-- The layouts of expressions are read again.
use Rattle.std.proofs.Common.{ℕ, zero, suc, ◌≡◌, ◌+◌, nat_le, nat_eq, true, false, List, [], ◌∷◌, ◌++◌, Option, Some, None, option_map, map, IsTrue, inl, inr, refl, sym, ap, ap₂, ◌∙◌, append-nil, ltb-false, le-leb}
use Rattle.std.proofs.lemmas.Bool.{cases_Bool}
use Rattle.ob_base.specs.declared.fault.Span.{Span}
use Rattle.ob_base.specs.declared.operator.Operator.{Operator}
use Rattle.ob_lexer.specs.declared.token.TokenKind.{TokenKind}
use Rattle.ob_lexer.specs.declared.token.TokenKind.TheVariants as kind
use Rattle.ob_lexer.specs.declared.token.Word.TheVariants as word'
use Rattle.ob_lexer.specs.declared.token.Sign.TheVariants as sign'
use Rattle.ob_tree.specs.Exprs.{Expr, number_expr, text_expr, bool_expr, name_expr, this_expr, unary_expr, binary_expr, call_expr, new_expr, call_with, no_exprs, and_expr}
use Rattle.ob_tree.specs.Operators.{sign_of_operator, level_of, left_span, right_span, operand_span, level}
use Rattle.ob_tree.specs.Words.{word_of_bool}
use Rattle.ob_tree_print.specs.NameTokens.{token_of_subject}
use Rattle.ob_tree_print.specs.ExprTokens.{is_below, wrapped, tokens_of_receiver, tokens_of_expr, tokens_of_call, tokens_of_args}
use Rattle.ob_tree.specs.declared.name.Subject.{Subject}
use Rattle.ob_parser_spec.specs.Rows.{Row, Loaded, ◌⨟◌, token_at, token, sign, raise, raised, counted, maybe}
use Rattle.ob_parser_spec.specs.NameRows.{subject}
use Rattle.ob_parser_spec.specs.ExprRows.{enclosed, reads_none, placed, spelled, call, arguments, more_arguments, expr}
use Rattle.ob_parser_spec.specs.Grammar.{tokens_of}
use Rattle.ob_parser_spec.specs.Primaries.{moved}
use Rattle.ob_parser_spec.proofs.Groups.{moved_span, moved_spelled, some_level}
use Rattle.ob_tree_print_laws.specs.Unplaced.{nowhere, unplaced_subject, unplaced_expr, unplaced_call, unplaced_exprs}
use Rattle.ob_tree_print_laws.proofs.AgainRows.{Spells, Laid, alike, Again, tokens-append, tokens_raised, Around, around_itself, around_raised, around_middle, ◌before◌, token_laid, span_laid, word_laid, sign_laid, nothing_laid, said_laid, loads_laid, known_laid, then_laid, layout_laid, raised_laid, lower_laid, counted_laid, enclosed_laid, around_laid, provided_laid, some_laid, Filled, filled_after, some_span, some_span_laid, option_kinds, maybe_laid}
use Rattle.ob_tree_print_laws.proofs.AgainNames.{name_again, subject_again, named_again}

-- ---- levels

fits : (e : Expr) (place : ℕ) → is_below place e ≡ false → IsTrue (nat_le place (level e))
fits e place isnt = le-leb place (level e) (ltb-false (level e) place isnt)

level_unplaced : (e : Expr) → level (unplaced_expr e) ≡ level e
level_unplaced (unary_expr o place operand span) = refl
level_unplaced (binary_expr o place left right span) = refl
level_unplaced e = refl

-- expressions that are the same but for places are of the same level
alike_fits : (place : ℕ) (e f : Expr) → unplaced_expr f ≡ unplaced_expr e → IsTrue (nat_le place (level e)) → IsTrue (nat_le place (level f))
alike_fits place e f same fit = rw (sym (level_unplaced f) ∙ ap level same ∙ level_unplaced e) fit

-- ---- an expression at another place

-- only its place is another
pub moved_unplaced : (s : Span) (e : Expr) → unplaced_expr (moved s e) ≡ unplaced_expr e
moved_unplaced s (number_expr value span) = refl
moved_unplaced s e = refl

-- ---- where an expression stands

-- an expression with no parentheses around it
abbrev pub bare : Expr → Row
bare e read = (n : ℕ) × spelled e n read

-- one where this level or a tighter one stands
abbrev pub at_level : ℕ → Expr → Row
at_level place e read = (n : ℕ) × placed place e (spelled e) n read

-- what stands in parentheses
in_parentheses : (depth : ℕ) (row : Row) (read : List Loaded) → enclosed depth row read → Around row read
in_parentheses zero row read is = around_itself is
in_parentheses (suc depth) row read (f, b, e, left, (f₁, b₁, e₁, (low, up, is), right)) = around_middle read f b f₁ b₁ e e₁ (around_raised 1 f₁ low up (in_parentheses depth row low is))

in_placed : (place n : ℕ) (e : Expr) (read : List Loaded) → placed place e (spelled e) n read → Around (bare e) read
in_placed place n e read (c, inl (fit, is)) = around_itself (n, is)
in_placed place n e read (c, inr (none, depth, inner, is)) = let r = in_parentheses (suc depth) (spelled e inner) read is in record { low = r.low; is = (inner, r.is); kept = r.kept }

-- with no parentheses, where its level fits
without_laid : {reads : Row} {layout : List TokenKind} → (place : ℕ) (e : Expr) → IsTrue (nat_le place (level e)) → Filled layout → Laid reads (alike bare unplaced_expr e) layout → Laid reads (alike (at_level place) unplaced_expr e) layout
without_laid place e fit full a = said_laid says (some_span_laid full a)
  where
    says : (read : List Loaded) → some_span (λ s. alike bare unplaced_expr e) read → alike (at_level place) unplaced_expr e read
    says read (s, (c, (y, (n, is), same))) =
        let alike' : unplaced_expr (moved s y) ≡ unplaced_expr e = moved_unplaced s y ∙ same in
        (moved s y, (n, (rw (moved_span s y) c, inl (alike_fits place e (moved s y) alike' fit, rw (moved_spelled s y) is))), alike')

-- in parentheses
within_laid : {reads : Row} {layout : List TokenKind} → (place : ℕ) (e : Expr) → Laid reads (alike bare unplaced_expr e) layout → Laid reads (alike (at_level place) unplaced_expr e) (kind.Sign sign'.OpenParen ∷ (layout ++ (kind.Sign sign'.CloseParen ∷ [])))
within_laid place e a = said_laid says (some_span_laid tt (enclosed_laid sign'.OpenParen sign'.CloseParen a))
  where
    says : (read : List Loaded) → some_span (λ s. counted sign'.OpenParen (alike bare unplaced_expr e) sign'.CloseParen) read → alike (at_level place) unplaced_expr e read
    says read (s, (c, (f, b, e₁, left, (f₁, b₁, e₂, (low, up, (y, (n, is), same)), right)))) =
        (moved s y, (0, (rw (moved_span s y) c, inr (refl, 0, n, (f, b, e₁, left, (f₁, b₁, e₂, (low, up, rw (moved_spelled s y) is), right))))), moved_unplaced s y ∙ same)

pub filled_expr : (e : Expr) → Filled (tokens_of_expr e)
filled_expr (number_expr value span) = tt
filled_expr (text_expr value span) = tt
filled_expr (bool_expr value span) = tt
filled_expr (name_expr part span) = tt
filled_expr (this_expr place span) = tt
filled_expr (unary_expr o place operand span) = tt
filled_expr (binary_expr o place left right span) = filled_after (wrapped (is_below (left_span o) left) (tokens_of_expr left)) (kind.Sign (sign_of_operator o)) (wrapped (is_below (right_span o) right) (tokens_of_expr right))
filled_expr (call_expr (call_with receiver part args) span) = filled_after (tokens_of_receiver receiver) (kind.Name part.name) (kind.Sign sign'.OpenParen ∷ (tokens_of_args true args ++ (kind.Sign sign'.CloseParen ∷ [])))
filled_expr (new_expr of args span) = tt

-- parentheses stand where an expression binds looser than its place asks
placed_laid : (place n : ℕ) (e : Expr) → Laid (bare e) (alike bare unplaced_expr e) (tokens_of_expr e) → Laid (placed place e (spelled e) n) (alike (at_level place) unplaced_expr e) (wrapped (is_below place e) (tokens_of_expr e))
placed_laid place n e a = elim (cases_Bool (is_below place e)) [
  | inl below ↦ rw below (within_laid place e inner)
  | inr isnt ↦ rw isnt (layout_laid (sym (append-nil (tokens_of_expr e))) (without_laid place e (fits e place isnt) (filled_expr e) inner))
]
  where
    inner : Laid (placed place e (spelled e) n) (alike bare unplaced_expr e) (tokens_of_expr e)
    inner = around_laid (in_placed place n e) a

any_laid : (e : Expr) → Laid (bare e) (alike bare unplaced_expr e) (tokens_of_expr e) → Laid (expr e) (alike expr unplaced_expr e) (tokens_of_expr e)
any_laid e a = some_laid (λ n. without_laid 1 e (some_level e) (filled_expr e) (around_laid (in_placed 1 n e) a))

-- ---- expressions

no_operator_laid : {reads again : Row} {layout : List TokenKind} → Laid reads again layout → Laid (λ read. (n : ℕ) × reads_none reads n read) again layout
no_operator_laid a = some_laid (λ n. provided_laid (n ≡ 0) (λ none. a))

-- an expression with no parentheses is read again
abbrev Bare : Expr → Type 1
Bare e = Laid (bare e) (alike bare unplaced_expr e) (tokens_of_expr e)

unary_laid : (o : Operator) (place : Span) (operand : Expr) (span : Span) → Bare operand → Bare (unary_expr o place operand span)
unary_laid o place operand span a = then_laid (λ read is. is.1.0) (λ unary. said_laid (says unary) (some_laid (λ n. provided_laid (IsTrue (nat_eq (level_of o) operand_span)) (λ holds. raised_laid 1 (span_laid (kind.Sign (sign_of_operator o)) place 0 before placed_laid operand_span n operand a)))))
  where
    says : IsTrue (nat_eq (level_of o) operand_span) → (read : List Loaded) → raised 1 (token (kind.Sign (sign_of_operator o)) ⨟ alike (at_level operand_span) unplaced_expr operand) read → alike bare unplaced_expr (unary_expr o place operand span) read
    says unary read (low, up, (f, b, e, (s, t), (y, (n, held), same))) = (unary_expr o s y nowhere, (n, (unary, (low, up, (f, b, e, t, held)))), ap (λ x. unary_expr o nowhere x nowhere) same)

binary_laid : (o : Operator) (place : Span) (left right : Expr) (span : Span) → Bare left → Bare right → Bare (binary_expr o place left right span)
binary_laid o place left right span a b = then_laid (λ read is. is.1.0) (λ binary. loads_laid (says binary) (known_laid (λ read is. (is.1.1.0, (is.1.1.1, is.1.1.3))) (some_laid (λ n. some_laid (λ m. parts n m)))))
  where
    parts : (n m : ℕ) → Laid (placed (left_span o) left (spelled left) n ⨟ raised (n + 1) (token_at (kind.Sign (sign_of_operator o)) place ⨟ placed (right_span o) right (spelled right) m)) (alike (at_level (left_span o)) unplaced_expr left ⨟ token (kind.Sign (sign_of_operator o)) ⨟ alike (at_level (right_span o)) unplaced_expr right) (tokens_of_expr (binary_expr o place left right span))
    parts n m = placed_laid (left_span o) n left a before lower_laid (n + 1) (span_laid (kind.Sign (sign_of_operator o)) place 0 before placed_laid (right_span o) m right b)

    says : IsTrue (nat_le (level_of o) 6) → (read : List Loaded) → (alike (at_level (left_span o)) unplaced_expr left ⨟ token (kind.Sign (sign_of_operator o)) ⨟ alike (at_level (right_span o)) unplaced_expr right) read → Spells (alike bare unplaced_expr (binary_expr o place left right span)) (tokens_of read)
    says binary read (f, b, e, (x, (n, held), same), (f₁, b₁, e₁, (s, t), (y, (m, held'), same'))) = (
      f ++ map (raise (n + 1)) b,
      tokens-append f (map (raise (n + 1)) b) ∙ ap (λ l. tokens_of f ++ l) (tokens_raised (n + 1) b) ∙ sym (tokens-append f b) ∙ ap tokens_of (sym e),
      (binary_expr o s x y nowhere, (n + 1 + m, (binary, (n, m, refl, (f, map (raise (n + 1)) b, refl, held, (b, refl, (f₁, b₁, e₁, t, held')))))), ap₂ (λ v w. binary_expr o nowhere v w nowhere) same same'),
    )

receiver_again : Again (maybe (λ s. subject s ⨟ sign sign'.Dot)) (option_map unplaced_subject) tokens_of_receiver
receiver_again receiver = layout_laid (same receiver) (maybe_laid (λ s. subject s ⨟ sign sign'.Dot) unplaced_subject (λ s. token_of_subject s ∷ kind.Sign sign'.Dot ∷ []) dotted receiver)
  where
    same : (r : Option Subject) → option_kinds (λ s. token_of_subject s ∷ kind.Sign sign'.Dot ∷ []) r ≡ tokens_of_receiver r
    same None = refl
    same (Some s) = refl

    dotted : Again (λ s. subject s ⨟ sign sign'.Dot) unplaced_subject (λ s. token_of_subject s ∷ kind.Sign sign'.Dot ∷ [])
    dotted s = said_laid (λ read (f, b, e, (x, is, alike), dot). (x, (f, b, e, is, dot), alike)) (subject_again s before sign_laid sign'.Dot)

mutual
  pub bare_again : Again bare unplaced_expr tokens_of_expr
  bare_again (number_expr value span) = said_laid (λ read is. (number_expr value nowhere, (0, (refl, is)), refl)) (no_operator_laid (token_laid (kind.Number value) 0))
  bare_again (text_expr value span) = said_laid (λ read is. (text_expr value nowhere, (0, (refl, is)), refl)) (no_operator_laid (token_laid (kind.Text value) 0))
  bare_again (bool_expr value span) = said_laid (λ read is. (bool_expr value nowhere, (0, (refl, is)), refl)) (no_operator_laid (word_laid (word_of_bool value)))
  bare_again (name_expr part span) = said_laid (λ read (p, is, same). (name_expr p nowhere, (0, (refl, is)), ap (λ q. name_expr q nowhere) same)) (no_operator_laid (name_again part))
  bare_again (this_expr place span) = said_laid (λ read is. (this_expr is.0 nowhere, (0, (refl, is.1)), refl)) (no_operator_laid (span_laid (kind.Word word'.This) place 0))
  bare_again (unary_expr o place operand span) = unary_laid o place operand span (bare_again operand)
  bare_again (binary_expr o place left right span) = binary_laid o place left right span (bare_again left) (bare_again right)
  bare_again (call_expr c span) = said_laid (λ read (d, is, same). (call_expr d nowhere, (0, (refl, is)), ap (λ x. call_expr x nowhere) same)) (no_operator_laid (call_again c))
  bare_again (new_expr of args span) = said_laid (λ read (f, b, e, new, (f₁, b₁, e₁, (d, is, same), (f₂, b₂, e₂, left, (f₃, b₃, e₃, (low, up, (es, held, alike)), right)))). (new_expr d es nowhere, (0, (refl, (f, b, e, new, (f₁, b₁, e₁, is, (f₂, b₂, e₂, left, (f₃, b₃, e₃, (low, up, held), right)))))), ap₂ (λ x y. new_expr x y nowhere) same alike)) (no_operator_laid (word_laid word'.New before named_again of before counted_laid sign'.OpenParen sign'.CloseParen (arguments_again args)))

  pub call_again : Again call unplaced_call tokens_of_call
  call_again (call_with receiver part args) = said_laid (λ read (f, b, e, (r, is, same), (f₁, b₁, e₁, (p, is', same'), (f₂, b₂, e₂, left, (f₃, b₃, e₃, (low, up, (es, held, alike)), right)))). (call_with r p es, (f, b, e, is, (f₁, b₁, e₁, is', (f₂, b₂, e₂, left, (f₃, b₃, e₃, (low, up, held), right)))), cc)) (receiver_again receiver before name_again part before counted_laid sign'.OpenParen sign'.CloseParen (arguments_again args))

  pub arguments_again : Again arguments unplaced_exprs (tokens_of_args true)
  arguments_again no_exprs = said_laid (λ read is. (no_exprs, is, refl)) nothing_laid
  arguments_again (and_expr e es) = said_laid (λ read (f, b, e₁, (x, is, same), (xs, held, alike)). (and_expr x xs, (f, b, e₁, is, held), ap₂ and_expr same alike)) (any_laid e (bare_again e) before more_again es)

  more_again : Again more_arguments unplaced_exprs (tokens_of_args false)
  more_again no_exprs = said_laid (λ read is. (no_exprs, is, refl)) nothing_laid
  more_again (and_expr e es) = said_laid (λ read (f, b, e₁, comma, (f₁, b₁, e₂, (x, is, same), (xs, held, alike))). (and_expr x xs, (f, b, e₁, comma, (f₁, b₁, e₂, is, held)), ap₂ and_expr same alike)) (sign_laid sign'.Comma before any_laid e (bare_again e) before more_again es)

pub expr_again : Again expr unplaced_expr tokens_of_expr
expr_again e = any_laid e (bare_again e)
