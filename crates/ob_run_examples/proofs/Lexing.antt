-- The tokens of a text, computed piece by piece.
use Rattle.std.proofs.Common.{ℕ, zero, suc, ◌≡◌, ◌<◌, ◌≤◌, List, [], ◌∷◌, ◌++◌, length, take, drop, fold, refl, sym, subst, arith, append-nil}
use Rattle.std.specs.Str.{IsUtf8}
use Rattle.ob_base.specs.Limits.{longest_program}
use Rattle.ob_lexer.specs.Lexing.{first_step, past, position_after}
use Rattle.ob_lexer.specs.Lexis.{Element, space, comment, token, HasTokens}
use Rattle.ob_lexer.specs.Reading.{span_at, token_at, IsGap, IsStepAt}
use Rattle.ob_lexer.specs.declared.lexer.Lexed.{Lexed}
use Rattle.ob_lexer.specs.declared.position.Position.{Position}
use Rattle.ob_lexer.specs.declared.step.Step.{Step}
use Rattle.ob_lexer.specs.declared.step.Step.TheVariants as step
use Rattle.ob_lexer.specs.declared.token.Token.{Token}
use Rattle.ob_lexer.proofs.FirstSteps.{step_at_front}
use Rattle.ob_lexer.proofs.Progress.{IsProgress, starts, utf8_so_far, steps, ends}

-- how many bytes a step takes up
abbrev pub count_of : Step → ℕ
count_of (step.Gap count) = count
count_of (step.Token kind count) = count
count_of (step.Flaw number before count) = 0

-- the tokens with that of a step, if it has one
abbrev pub tokens_with : Position → List Token → Step → List Token
tokens_with position tokens (step.Gap count) = tokens
tokens_with position tokens (step.Token kind count) = tokens ++ record { kind = kind; span = span_at position count } ∷ []
tokens_with position tokens (step.Flaw number before count) = tokens

-- the tokens that were read, and what is left behind them
pub record Reading : Type 0 where
  pub position : Position
  pub rest : List ℕ
  pub tokens : List Token

-- the position after bytes, computed byte by byte
abbrev pub place_after : Position → List ℕ → Position
place_after position [] = position
place_after position (b ∷ bytes) =
    let next = past position b in
    place_after (record { offset = next.offset; line = next.line; column = next.column }) bytes

-- what so many steps lead to. Each part is named, so that it is computed once
abbrev pub read_on : ℕ → Position → List ℕ → List Token → Reading
read_on zero position rest tokens = record { position = position; rest = rest; tokens = tokens }
read_on (suc n) position [] tokens = record { position = position; rest = []; tokens = tokens }
read_on (suc n) position (b ∷ rest) tokens =
    let s = first_step b rest in
    let count = count_of s in
    let next = place_after position (take count (b ∷ rest)) in
    let left = drop count (b ∷ rest) in
    let more = tokens_with position tokens s in
    read_on n next left more

-- what so many steps read of a text
abbrev pub reading : ℕ → List ℕ → Reading
reading n text = read_on n (position_after []) text []

-- the tokens of a text, where so many steps lead to its end
abbrev pub lexed : ℕ → List ℕ → Lexed
lexed n text = record { tokens = (reading n text).tokens; end = span_at (reading n text).position 0 }

gap_has_no_token : (position : Position) (tokens : List Token) (e : Element) (count : ℕ) → IsGap e → tokens ≡ tokens ++ token_at position e count
gap_has_no_token position tokens space count is = sym (append-nil tokens)
gap_has_no_token position tokens comment count is = sym (append-nil tokens)
gap_has_no_token position tokens (token kind) count is = absurd is

same_place : (position : Position) (bytes : List ℕ) → fold past position bytes ≡ place_after position bytes
same_place position [] = refl
same_place position (b ∷ bytes) = same_place (past position b) bytes

one_step : (text : List ℕ) (position : Position) (rest : List ℕ) (tokens : List Token) (s : Step) → IsProgress text position rest tokens → IsStepAt rest s
    → IsProgress text (fold past position (take (count_of s) rest)) (drop (count_of s) rest) (tokens_with position tokens s)
one_step text position rest tokens (step.Gap count) so_far is =
    steps text position rest tokens tokens count so_far (record { element = is.0; piece = is.2; added = gap_has_no_token position tokens is.0 count is.1 })
one_step text position rest tokens (step.Token kind count) so_far is =
    steps text position rest tokens (tokens ++ token_at position (token kind) count) count so_far (record { element = token kind; piece = is; added = refl })
one_step text position rest tokens (step.Flaw number before count) so_far is = so_far

pub progress : (n : ℕ) (text : List ℕ) (position : Position) (rest : List ℕ) (tokens : List Token) → IsUtf8 text → IsProgress text position rest tokens
    → IsProgress text (read_on n position rest tokens).position (read_on n position rest tokens).rest (read_on n position rest tokens).tokens
progress zero text position rest tokens utf8 so_far = so_far
progress (suc n) text position [] tokens utf8 so_far = so_far
progress (suc n) text position (b ∷ rest) tokens utf8 so_far =
    let some : 0 < length (b ∷ rest) = omega arith in
    let s = first_step b rest in
    let bytes = take (count_of s) (b ∷ rest) in
    let left = drop (count_of s) (b ∷ rest) in
    let more = tokens_with position tokens s in
    let stepped = one_step text position (b ∷ rest) tokens s so_far (step_at_front (b ∷ rest) some (utf8_so_far text position (b ∷ rest) tokens utf8 so_far)) in
    progress n text (place_after position bytes) left more utf8 (subst (λ (q : Position). IsProgress text q left more) (same_place position bytes) stepped)

-- a text that was read to its end has these tokens
pub has_tokens : (n : ℕ) (text : List ℕ) → length text ≤ longest_program → IsUtf8 text → (reading n text).rest ≡ [] → HasTokens text (lexed n text)
has_tokens n text short utf8 all =
    ends text (reading n text).position (reading n text).rest (lexed n text) short utf8 (progress n text (position_after []) text [] utf8 (starts text)) all refl
