-- What the parser's functions answer, by what readers read.
use Rattle.std.specs.Prelude.{ℕ, cond, nat_le, ◌≡◌, ◌++◌, List, [], ◌∷◌, length, Option, Some, None, Result, Ok, Err, map}
use Rattle.std.specs.Borrow.{Bor}
use Rattle.ob_lexer.specs.declared.token.Token.{Token}
use Rattle.ob_parser_spec.specs.Symbols.{Symbol, a_name, a_number, a_text, number, a_word, a_sign}
use Rattle.ob_parser_spec.specs.Readers.{Read, done, stop, deep, Reader, ◌>>=◌}
use Rattle.ob_parser_expressions.specs.declared.tokens.Symbol.{Symbol as Wanted}
use Rattle.ob_parser_expressions.specs.declared.tokens.Symbol.TheVariants as wanted
use Rattle.ob_parser_expressions.specs.declared.halt.Halt.{Halt}
use Rattle.ob_parser_expressions.specs.declared.halt.Halt.TheVariants as halt

-- what stands in the tree as it is
abbrev pub as_it_is : {A : Type 0} → A → A
as_it_is x = x

-- the symbol that is looked for
abbrev pub symbol_for : Wanted → Symbol
symbol_for wanted.Name = a_name
symbol_for wanted.Number = a_number
symbol_for wanted.Text = a_text
symbol_for (wanted.Word w) = a_word w
symbol_for (wanted.Sign s) = a_sign s

-- the numbers of symbols that are looked for
abbrev pub numbers : List Wanted → List ℕ
numbers ws = map (λ w. number (symbol_for w)) ws

-- where nothing is read: how many tokens are left
pub data Halted : Type 0 where
  not_halted : Halted
  stopped_with : ℕ → Halted
  deep_with : ℕ → Halted

abbrev pub halted : {A : Type 0} → Read A → Halted
halted (done x rest) = not_halted
halted (stop rest) = stopped_with (length rest)
halted (deep rest) = deep_with (length rest)

-- why, unless memory is missing
abbrev pub Halts : {A : Type 0} → Halt → Read A → Type 0
Halts (halt.Expected left) read = halted read ≡ stopped_with left
Halts (halt.TooDeep left) read = halted read ≡ deep_with left
Halts halt.Memory read = Unit {0}

-- what is read, and what is left of the tokens
abbrev pub Answers : {T A : Type 0} → (T → A) → Result (T × Bor (List Token)) Halt → Read A → Type 0
Answers view (Ok x) read = read ≡ done (view x.0) x.1.now
Answers view (Err e) read = Halts e read

-- two things that are read together
abbrev pub AnswersBoth : {S T A : Type 0} → (S → T → A) → Result (S × T × Bor (List Token)) Halt → Read A → Type 0
AnswersBoth view (Ok x) read = read ≡ done (view x.0 x.1) x.2.now
AnswersBoth view (Err e) read = Halts e read

-- after what has been read of a list
abbrev pub prefixed : {A : Type 0} → List A → Read (List A) → Read (List A)
prefixed xs read = read >>= (λ ys rest. done (xs ++ ys) rest)

-- a token that opens a part, if there is room
abbrev pub open_in : {A : Type 0} → Option A → ℕ → ℕ → Token → List Token → Read A
open_in (Some x) more room t ts = cond (nat_le more room) (done x ts) (deep (t ∷ ts))
open_in None more room t ts = stop (t ∷ ts)

abbrev pub read_open : {A : Type 0} → (Token → Option A) → ℕ → ℕ → Reader A
read_open f more room [] = stop []
read_open f more room (t ∷ ts) = open_in (f t) more room t ts
