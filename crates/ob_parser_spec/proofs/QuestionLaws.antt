-- The laws of what stands between the parentheses after `if`.
use Rattle.std.proofs.Common.{ℕ, ◌≡◌, false, List, [], ◌∷◌, ◌++◌, IsTrue, inl, inr, refl, sym, ap, ◌∙◌}
use Rattle.std.proofs.lemmas.Bool.{cases_Bool}
use Rattle.ob_base.specs.declared.fault.Span.{Span}
use Rattle.ob_lexer.specs.declared.token.Token.{Token}
use Rattle.ob_lexer.specs.declared.token.TokenKind.TheVariants as kind
use Rattle.ob_lexer.specs.declared.token.Word.TheVariants as word'
use Rattle.ob_lexer.specs.declared.token.Sign.TheVariants as sign'
use Rattle.ob_tree.specs.Exprs.{Expr, name_expr, this_expr}
use Rattle.ob_tree.specs.declared.name.NamePart.{NamePart}
use Rattle.ob_tree.specs.declared.name.Subject.{Subject}
use Rattle.ob_tree.specs.declared.name.Subject.TheVariants as subject'
use Rattle.ob_parser_spec.specs.Rows.{Row, Loaded, ◌⨟◌, word, name}
use Rattle.ob_parser_spec.specs.Grammar.{tokens_of}
use Rattle.ob_parser_spec.specs.NameRows.{subject}
use Rattle.ob_parser_spec.specs.ExprRows.{expr}
use Rattle.ob_parser_spec.specs.Symbols.{a_word, a_sign, number}
use Rattle.ob_parser_spec.specs.Readers.{done, Reader, is_of, span_of_tokens, name_if, read_token, read_both}
use Rattle.ob_parser_spec.specs.ExprReaders.{unary_signs}
use Rattle.ob_parser_spec.specs.Primaries.{expr_first, literals}
use Rattle.ob_parser_spec.specs.MemberReaders.{subjects}
use Rattle.ob_parser_spec.specs.StmtReaders.{read_word, Question, tested, asked, tested_of, read_question}
use Rattle.ob_parser_spec.proofs.Laws.{SpellsAsWell, deep_part, answered, Laws, is_of-apart, of_first, of_second}
use Rattle.ob_parser_spec.proofs.One.{token_of, free, free_within}
use Rattle.ob_parser_spec.proofs.Both.{both}
use Rattle.ob_parser_spec.proofs.Either.{one_of}
use Rattle.ob_parser_spec.proofs.Spanned.{covers}
use Rattle.ob_parser_spec.proofs.RowLaws.{word_at, at_word, word_laws, after_laws, made, made_laws, alike_laws}
use Rattle.ob_parser_spec.proofs.NameLaws.{name_laws}
use Rattle.ob_parser_spec.proofs.DepthLaws.{after_expr}
use Rattle.ob_parser_spec.proofs.ParamLaws.{subject_to, takes_subject, subject_laws}
use Rattle.ob_parser_spec.proofs.AheadLaws.{Two, Free, ahead_laws}
use Rattle.ob_parser_spec.proofs.NamedStmts.{two_of}

-- (NAME | "this") "in" NAME | expr
abbrev pub question : Question → Row
question (tested of state) = subject of ⨟ word word'.In ⨟ name state
question (asked e) = expr e

abbrev in_state : Span × NamePart → Row
in_state = both (word_at word'.In) name

abbrev tests : Question → Row
tests = made tested_of (both subject in_state)

abbrev asks : Question → Row
asks = made asked expr

question_to : SpellsAsWell (one_of tests asks) question
question_to q read (inl ((of, (in', state)), same, is)) = rw same (is.0, is.1, is.2, is.3, (is.4.0, is.4.1, is.4.2, (in', is.4.3), is.4.4))
question_to q read (inr (e, same, is)) = rw same is

question_from : SpellsAsWell question (one_of tests asks)
question_from (tested of state) read is = inl ((of, (is.4.3.0, state)), refl, (is.0, is.1, is.2, is.3, (is.4.0, is.4.1, is.4.2, is.4.3.1, is.4.4)))
question_from (asked e) read is = inr (e, refl, is)

-- what a question goes on with
abbrev pub after_question : List ℕ
after_question = after_expr ++ at_word word'.In

-- ---- which tokens begin both

subject_one : (x : Subject) (read : List Loaded) → subject x read → (one : Loaded) × (read ≡ one ∷ [])
subject_one (subject'.This span) read is = (free (token_of (kind.Word word'.This) span), is)
subject_one (subject'.Name part) read is = (free (token_of (kind.Name part.name) part.span), is)

subject_begins : (t : Token) → IsTrue (is_of subjects t) → IsTrue (is_of expr_first t)
subject_begins t is = of_second (unary_signs ++ (number (a_sign sign'.OpenParen) ∷ number (a_word word'.New) ∷ [])) (subjects ++ literals) t (of_first subjects literals t is)

free_subject : (t : Token) → IsTrue (is_of subjects t) → (x : Subject) × subject x (free t ∷ [])
free_subject t is = let x = takes_subject.of t is in (x.0, subject_to x.0 (free t ∷ []) (t, x.1, refl))

-- such a token alone is an expression
alone : (t : Token) (x : Subject) → subject x (free t ∷ []) → (e : Expr) × expr e (free t ∷ [])
alone t (subject'.This span) is = (this_expr span (span_of_tokens (t ∷ [])), (0, (covers (free t) [], inl (refl, (refl, is)))))
alone t (subject'.Name part) is = (name_expr part (span_of_tokens (t ∷ [])), (0, (covers (free t) [], inl (refl, (refl, is)))))

not_left : {A : Type 0} (x y : A) (d : List Loaded) (t : Token) (ts : List Token) → ¬ (done x (t ∷ ts) ≡ answered y d [])
not_left x y [] t ts e = cc
not_left x y (l ∷ ls) t ts e = cc

module _ (room : ℕ) (exprs : Reader Expr) (e : Laws room expr exprs expr_first after_expr false) where
  -- so an expression that begins with it doesn't go on with `in`
  never_in : (x : Expr) (one two : Loaded) (others : List Loaded) → expr x (one ∷ two ∷ others) → IsTrue (is_of subjects one.token) → ¬ IsTrue (is_of (at_word word'.In) two.token)
  never_in x one two others is first second =
      let y = free_subject one.token first in
      let short = alone one.token y.0 y.1 in
      let left = two.token ∷ (tokens_of others ++ []) in
      let ends = is_of-apart (at_word word'.In) after_expr two.token refl second in
      let read : exprs (one.token ∷ left) ≡ done short.0 left = e.full short.0 (free one.token ∷ []) left short.1 ends ∙ ap (λ d. answered short.0 d left) (free_within room one.token) in
      not_left short.0 x (deep_part room (one ∷ two ∷ others)) two.token (tokens_of others ++ []) (sym read ∙ e.full x (one ∷ two ∷ others) [] is refl)

  never_asks : (q : Question) (one two : Loaded) (others : List Loaded) → asks q (one ∷ two ∷ others) → IsTrue (is_of subjects one.token) → is_of (at_word word'.In) two.token ≡ false
  never_asks q one two others is first = elim (cases_Bool (is_of (at_word word'.In) two.token)) [
    | inl second ↦ absurd (never_in is.0 one two others is.2 first second)
    | inr isnt ↦ isnt
  ]

  in_state_laws : Laws room in_state (read_both (read_word word'.In) (read_token name_if)) (at_word word'.In) [] false
  in_state_laws = after_laws (word_laws room word'.In) (name_laws room) refl

  second_tests : (q : Question) (read : List Loaded) → tests q read → Two (at_word word'.In) read
  second_tests q read ((of, state), same, is) =
      let one = subject_one of is.0 is.3 in
      two_of (at_word word'.In) one.0 is.0 is.1 read is.2 one.1 (in_state_laws.begins state is.1 is.4)

  free_tests : (t : Token) → IsTrue (is_of subjects t) → Free tests t
  free_tests t is =
      let x = free_subject t is in
      let s = in_state_laws.sample in
      (tested_of (x.0, s.value), s.read, ((x.0, s.value), refl, (free t ∷ [], s.read, refl, x.1, s.spelled)))

  free_asks : (t : Token) → IsTrue (is_of subjects t) → Free asks t
  free_asks t is =
      let x = free_subject t is in
      let y = alone t x.0 x.1 in
      (asked y.0, [], (y.0, refl, y.1))

  pub question_laws : Laws room question (read_question exprs) expr_first after_question false
  question_laws =
      let test = made_laws tested_of (after_laws (subject_laws room) in_state_laws refl) in
      let ask = made_laws asked e in
      alike_laws question question_to question_from (ahead_laws (at_word word'.In) test ask subject_begins second_tests never_asks free_tests free_asks)
