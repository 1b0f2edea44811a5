-- The step at a text's front says what the text begins with.
use Rattle.std.proofs.Common.{ℕ, ◌≡◌, ◌<◌, ◌==◌, List, [], ◌∷◌, length, get_or, drop, inl, inr, refl, arith}
use Rattle.std.specs.Str.{IsUtf8}
use Rattle.std.proofs.lemmas.Bool.{cases_Bool, eqb-true}
use Rattle.ob_base.specs.Names.{is_letter, is_digit}
use Rattle.ob_lexer.specs.declared.bytes.Class.TheVariants as class
use Rattle.ob_lexer.specs.Lexis.{is_blank}
use Rattle.ob_lexer.specs.Lexing.{class_of, first_step}
use Rattle.ob_lexer.specs.Reading.{IsUtf8AfterQuote, IsStepAt}
use Rattle.ob_lexer.proofs.FirstBytes.{class-blank, class-letter, class-digit}
use Rattle.ob_lexer.proofs.Pieces.{blank_step, word_step_at, number_step_at, slash_step_at, sign_step_at}
use Rattle.ob_lexer.proofs.StringSteps.{string_step_at}

first_at : (b : ℕ) (rest : List ℕ) → (b ≡ 34 → IsUtf8 rest) → IsStepAt (b ∷ rest) (first_step b rest)
first_at b rest utf8 = elim (cases_Bool (is_blank b)) [
  | inl is ↦ rw (class-blank b is) (blank_step b rest is)
  | inr no_blank ↦ elim (cases_Bool (is_letter b)) [
    | inl is ↦ rw (class-letter b is) (word_step_at b rest is)
    | inr no_letter ↦ elim (cases_Bool (is_digit b)) [
      | inl is ↦ rw (class-digit b is) (number_step_at b rest is)
      | inr no_digit ↦ elim (cases_Bool (b == 34)) [
        | inl is ↦
            let same : b ≡ 34 = eqb-true b 34 is in
            rw same (string_step_at rest (utf8 same))
        | inr no_quote ↦ elim (cases_Bool (b == 47)) [
          | inl is ↦
              let same : b ≡ 47 = eqb-true b 47 is in
              rw same (slash_step_at rest)
          | inr no_slash ↦
              let other : class_of b ≡ class.Other = rw (no_blank, no_letter, no_digit, no_quote, no_slash) refl in
              rw other (sign_step_at b rest other)
        ]
      ]
    ]
  ]
]

pub step_at_front : (text : List ℕ) → 0 < length text → IsUtf8AfterQuote text → IsStepAt text (first_step (get_or text 0 0) (drop 1 text))
step_at_front [] some utf8 = absurd (omega arith)
step_at_front (b ∷ rest) some utf8 = first_at b rest utf8
