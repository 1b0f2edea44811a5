-- The laws of expressions in parentheses.
use Rattle.std.proofs.Common.{ℕ, zero, suc, ◌≡◌, ◌-◌, ◌≤◌, nat_le, true, false, List, [], ◌∷◌, ◌++◌, map, Some, None, IsTrue, inl, inr, refl, ap, ◌∙◌}
use Rattle.ob_base.specs.declared.fault.Span.{Span}
use Rattle.ob_base.specs.declared.operator.Operator.{Operator}
use Rattle.ob_base.specs.declared.operator.Operator.TheVariants as op
use Rattle.ob_lexer.specs.declared.token.TokenKind.{TokenKind}
use Rattle.ob_lexer.specs.declared.token.Sign.TheVariants as sign'
use Rattle.ob_tree.specs.Exprs.{Expr, number_expr, text_expr, bool_expr, name_expr, this_expr, unary_expr, binary_expr, call_expr, new_expr, Call, call_with, span_of_expr}
use Rattle.ob_tree.specs.Operators.{level_of, level}
use Rattle.ob_tree.specs.declared.name.Subject.{Subject}
use Rattle.ob_tree.specs.declared.name.Subject.TheVariants as subject'
use Rattle.ob_parser_spec.specs.Rows.{Row, Loaded, Covers, ◌⨟◌, token, raise}
use Rattle.ob_parser_spec.specs.Grammar.{tokens_of}
use Rattle.ob_parser_spec.specs.ExprRows.{spelled, call, enclosed}
use Rattle.ob_parser_spec.specs.Readers.{Reader, span_of_tokens}
use Rattle.ob_parser_spec.specs.NameReaders.{on}
use Rattle.ob_parser_spec.specs.Chains.{Counted}
use Rattle.ob_parser_spec.specs.Primaries.{moved, grouped, read_group}
use Rattle.ob_parser_spec.specs.NameRows.{subject}
use Rattle.ob_parser_spec.proofs.Laws.{SpellsAsWell, Sample, Laws, disjoint}
use Rattle.ob_parser_spec.proofs.Mapped.{Makes}
use Rattle.ob_parser_spec.proofs.Spanned.{covers, with_span}
use Rattle.ob_parser_spec.proofs.RowLaws.{span_laws, made, makes_laws, nothing_before}
use Rattle.ob_parser_spec.proofs.Lists.{in_signs, counted_laws}
use Rattle.ob_parser_spec.proofs.Chains.{at_level}

-- ---- an expression at another place

-- (a clause for one kind of expression has the next one checked for each of the others)
pub moved_span : (span : Span) (e : Expr) → span_of_expr (moved span e) ≡ span
moved_span span (number_expr value place) = refl
moved_span span e = refl

pub moved_spelled : (span : Span) (e : Expr) → spelled (moved span e) ≡ spelled e
moved_spelled span (number_expr value place) = refl
moved_spelled span e = refl

moved_level : (span : Span) (e : Expr) → level (moved span e) ≡ level e
moved_level span (number_expr value place) = refl
moved_level span e = refl

moved_back : (span : Span) (e : Expr) → e ≡ moved (span_of_expr e) (moved span e)
moved_back span (number_expr value place) = refl
moved_back span e = refl

-- ---- each expression has a token

data Some_read (read : List Loaded) : Type 0 where
  some : (first : Loaded) (others : List Loaded) → read ≡ first ∷ others → Some_read read

of_front : {p q : Row} {read : List Loaded} → (is : (p ⨟ q) read) → Some_read is.0 → Some_read read
of_front is (some first others e) = some first (others ++ is.1) (is.2 ∙ ap (λ f. f ++ is.1) e)

of_raised : {low read : List Loaded} → read ≡ map (raise 1) low → Some_read low → Some_read read
of_raised e (some first others is) = some (raise 1 first) (map (raise 1) others) (e ∙ ap (map (raise 1)) is)

-- a row of one token
of_one : {t : Loaded} {read : List Loaded} → read ≡ t ∷ [] → Some_read read
of_one {t} is = some t [] is

of_token : {k : TokenKind} {read : List Loaded} → token k read → Some_read read
of_token is = of_one is.1

subject_some : (x : Subject) (read : List Loaded) → subject x read → Some_read read
subject_some (subject'.This span) read is = of_one is
subject_some (subject'.Name part) read is = of_one is

call_some : (c : Call) (read : List Loaded) → call c read → Some_read read
call_some (call_with None part args) read is = let named = nothing_before is in of_front named (of_one named.3)
call_some (call_with (Some x) part args) read is = of_front is (of_front is.3 (subject_some x is.3.0 is.3.3))

spelled_some : (e : Expr) (n : ℕ) (read : List Loaded) → spelled e n read → Some_read read
spelled_some (number_expr value place) n read is = of_token is.1
spelled_some (text_expr value place) n read is = of_token is.1
spelled_some (bool_expr value place) n read is = of_token is.1
spelled_some (name_expr part place) n read is = of_one is.1
spelled_some (this_expr token place) n read is = of_one is.1
spelled_some (unary_expr o sign operand place) n read is = of_raised is.1.1 (of_front is.1.2 (of_one is.1.2.3))
spelled_some (binary_expr o sign left right place) n read is = let cov = is.1.3.3.0 in of_front is.1.3 (some cov.first cov.others cov.begins)
spelled_some (call_expr c place) n read is = call_some c read is.1
spelled_some (new_expr of args place) n read is = of_front is.1 (of_token is.1.3)

enclosed_some : (depth m : ℕ) (e : Expr) (read : List Loaded) → enclosed depth (spelled e m) read → Some_read read
enclosed_some zero m e read is = spelled_some e m read is
enclosed_some (suc depth) m e read is = of_front is (of_one is.3.1)

covers_read : (read : List Loaded) → Some_read read → Covers (span_of_tokens (tokens_of read)) read
covers_read read (some first others e) = rw e (covers first others)

-- ---- parentheses

abbrev pub only_group : Counted → Row
only_group c read = Covers (span_of_expr c.0) read × (c.1 ≡ 0) × (depth : ℕ) × (m : ℕ) × enclosed (suc depth) (spelled c.0 m) read

-- how deep an expression stands in its own parentheses, and its operators there
data Deep (e : Expr) (low : List Loaded) : Type 0 where
  deep_by : (depth m : ℕ) → enclosed depth (spelled e m) low → Deep e low

deep_of : (e : Expr) (n : ℕ) (low : List Loaded) → at_level 1 (e, n) low → Deep e low
deep_of e n low (cov, inl is) = deep_by zero n is.1
deep_of e n low (cov, inr is) = deep_by (suc is.1) is.2 is.3

-- an expression in one pair of parentheses
abbrev in_parens : Counted → Row
in_parens = in_signs sign'.OpenParen (at_level 1) sign'.CloseParen

closed : (e : Expr) (n : ℕ) (span : Span) (read : List Loaded) → Covers span read → (is : in_parens (e, n) read) → Deep e is.4.3.0 → only_group (moved span e, 0) read
closed e n span read cov is (deep_by depth m enc) = (
  rw (moved_span span e) cov,
  refl,
  depth,
  m,
  rw (moved_spelled span e) (is.0, is.1, is.2, is.3, (is.4.0, is.4.1, is.4.2, (is.4.3.0, is.4.3.1, enc), is.4.4)),
)

group_to : (parts : Counted × Span) (read : List Loaded) → with_span in_parens parts read → only_group (grouped parts) read
group_to ((e, n), span) read (cov, is) = closed e n span read cov is (deep_of e n is.4.3.0 is.4.3.2)

some_row : (o : Operator) → IsTrue (nat_le 1 (level_of o))
some_row op.Add = refl
some_row o = refl

pub some_level : (e : Expr) → IsTrue (nat_le 1 (level e))
some_level (unary_expr o sign operand place) = some_row o
some_level (binary_expr o sign left right place) = some_row o
some_level e = refl

-- the expression in one pair of parentheses less, at its own place there
opened_up : (e : Expr) (depth m : ℕ) (low : List Loaded) → enclosed depth (spelled e m) low → (n : ℕ) × at_level 1 (moved (span_of_tokens (tokens_of low)) e, n) low
opened_up e zero m low is =
    let place : Span = span_of_tokens (tokens_of low) in
    (m, (rw (moved_span place e) (covers_read low (spelled_some e m low is)), inl (rw (moved_level place e) (some_level e), rw (moved_spelled place e) is)))
opened_up e (suc depth) m low is =
    let place : Span = span_of_tokens (tokens_of low) in
    (0, (rw (moved_span place e) (covers_read low (enclosed_some (suc depth) m e low is)), inr (refl, depth, m, rw (moved_spelled place e) is)))

group_from : SpellsAsWell only_group (made grouped (with_span in_parens))
group_from (e, n) read is =
    let enc = is.4 in
    let low = enc.4.3.0 in
    let up = opened_up e is.2 is.3 low enc.4.3.2 in
    let inside : Expr = moved (span_of_tokens (tokens_of low)) e in
    let same : ◌≡◌ {A = Counted} (e, n) (grouped ((inside, up.0), span_of_expr e)) =
    ap (λ x. (x, n)) (moved_back (span_of_tokens (tokens_of low)) e) ∙ ap (λ k. (moved (span_of_expr e) inside, k)) is.1 in
    (((inside, up.0), span_of_expr e), same, (is.0, (enc.0, enc.1, enc.2, enc.3, (enc.4.0, enc.4.1, enc.4.2, (low, enc.4.3.1, up.1), enc.4.4))))

group_makes : Makes grouped (with_span in_parens) only_group
group_makes = record { to = group_to; from = group_from }

module _ (room : ℕ) (inner : ℕ → Reader Counted) (first more : List ℕ) (sample : Sample (at_level 1))
    (a : 1 ≤ room → Laws (room - 1) (at_level 1) (inner (room - 1)) first more false) (apart : disjoint (on sign'.CloseParen) more ≡ true) where
  pub group_laws : Laws room only_group (read_group inner room) (on sign'.OpenParen) [] false
  group_laws = makes_laws group_makes (span_laws (counted_laws sign'.OpenParen sign'.CloseParen room (at_level 1) inner first more false sample a apart))
