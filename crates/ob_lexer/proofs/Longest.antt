-- Where the longest of what could be a token ends.
use Rattle.std.proofs.Common.{ℕ, ◌≡◌, nat_le, true, List, [], ◌∷◌, ◌++◌, length, IsTrue, inl, inr, codes, refl, sym, ap, ◌∙◌, arith, length-append, Option, Some, None}
use Rattle.std.specs.List.{list_all}
use Rattle.std.proofs.lemmas.Bool.{and_parts, and_from, cases_Bool, le-leb}
use Rattle.ob_base.specs.Names.{is_letter, is_digit, is_letter_or_digit, is_word}
use Rattle.ob_lexer.specs.declared.token.Sign.{Sign}
use Rattle.ob_lexer.specs.declared.bytes.Class.{Class}
use Rattle.ob_lexer.specs.declared.bytes.Class.TheVariants as class
use Rattle.ob_lexer.specs.Spelling.{spelling_of_sign, is_digits}
use Rattle.ob_lexer.specs.Lexis.{IsLexeme, IsLongest, IsLineComment, word, digits, sign as sign_lexeme, line_comment}
use Rattle.ob_lexer.specs.Lexing.{class_of, pair_of, pair_at, is_no_newline}
use Rattle.ob_lexer.proofs.Runs.{Stops, stops_at, fails_past, goes_further}
use Rattle.ob_lexer.proofs.SignLemmas.{IsShaped, one, two, slash, shape}
use Rattle.ob_lexer.proofs.FirstBytes.{in_known, InClass}

-- what goes on by a byte m is no lexeme
abbrev pub EndsBefore : ℕ → List ℕ → List ℕ → Type 0
EndsBefore b bytes rest = (m : ℕ) (more others : List ℕ) → rest ≡ m ∷ (more ++ others) → ¬ (IsLexeme (b ∷ (bytes ++ m ∷ more)))

pub longest_by : (b : ℕ) (bytes rest : List ℕ) → EndsBefore b bytes rest → IsLongest (b ∷ bytes) rest
longest_by b bytes rest ends [] others parts some lexeme = some refl
longest_by b bytes rest ends (m ∷ more) others parts some lexeme = ends m more others parts lexeme

-- by the class of the first byte
pub longest_in : (c : Class) (b : ℕ) (bytes rest : List ℕ) → class_of b ≡ c → ((m : ℕ) (more others : List ℕ) → rest ≡ m ∷ (more ++ others) → ¬ (InClass c b (bytes ++ m ∷ more))) → IsLongest (b ∷ bytes) rest
longest_in c b bytes rest is ends =
    longest_by b bytes rest (λ m more others parts lexeme. ends m more others parts (in_known c b (bytes ++ m ∷ more) is lexeme))

some_more : (bytes : List ℕ) (m : ℕ) (more : List ℕ) → bytes ++ m ∷ more ≡ [] → ⊥
some_more [] m more e = cc
some_more (b ∷ bytes) m more e = cc

pub blank_longest : (b : ℕ) (rest : List ℕ) → class_of b ≡ class.Blank → IsLongest (b ∷ []) rest
blank_longest b rest is = longest_in class.Blank b [] rest is (λ m more others parts none. some_more [] m more none)

pub word_longest : (b : ℕ) (bytes rest : List ℕ) → class_of b ≡ class.Letter → Stops is_letter_or_digit rest → IsLongest (b ∷ bytes) rest
word_longest b bytes rest is stops =
    longest_in class.Letter b bytes rest is (λ m more others parts w. fails_past is_letter_or_digit (b ∷ bytes) m more (stops_at is_letter_or_digit rest m (more ++ others) stops parts) (and_parts (is_letter b) (list_all is_letter_or_digit ((b ∷ bytes) ++ m ∷ more)) w).1)

pub digits_longest : (b : ℕ) (bytes rest : List ℕ) → class_of b ≡ class.Digit → Stops is_digit rest → IsLongest (b ∷ bytes) rest
digits_longest b bytes rest is stops =
    longest_in class.Digit b bytes rest is (λ m more others parts d. fails_past is_digit (b ∷ bytes) m more (stops_at is_digit rest m (more ++ others) stops parts) (and_parts (nat_le 1 (length ((b ∷ bytes) ++ m ∷ more))) (list_all is_digit ((b ∷ bytes) ++ m ∷ more)) d).1)

-- ---- signs

-- a sign is no longer than two bytes, and with two it is their pair
sign_of_two : (b m : ℕ) (more : List ℕ) (s : Sign) → class_of b ≡ class.Other → b ∷ m ∷ more ≡ spelling_of_sign s → IsShaped s → (more ≡ []) × (pair_of b m ≡ Some s)
sign_of_two b m more s other is (one c spelled found class) = let all : b ∷ m ∷ more ≡ c ∷ [] = is ∙ spelled in absurd cc
sign_of_two b m more s other is (two c d spelled found class) =
    let all : b ∷ m ∷ more ≡ c ∷ d ∷ [] = is ∙ spelled in
    let first : b ≡ c = cc in
    let second : m ≡ d = cc in
    (cc, rw (first, second) found)
sign_of_two b m more s other is (slash same) = let all : b ∷ m ∷ more ≡ 47 ∷ [] = is ∙ ap spelling_of_sign same in absurd cc

pub pair_longest : (a b : ℕ) (rest : List ℕ) → class_of a ≡ class.Other → IsLongest (a ∷ b ∷ []) rest
pair_longest a b rest is =
    longest_in class.Other a (b ∷ []) rest is (λ m more others parts s. some_more [] m more (sign_of_two a b (m ∷ more) s.0 is s.1 (shape s.0)).0)

pub single_longest : (b : ℕ) (rest : List ℕ) → class_of b ≡ class.Other → pair_at b rest ≡ None → IsLongest (b ∷ []) rest
single_longest b rest is none =
    longest_in class.Other b [] rest is (λ m more others parts s.
    let found : pair_of b m ≡ Some s.0 = (sign_of_two b m more s.0 is s.1 (shape s.0)).1 in
    let pair : pair_at b (m ∷ (more ++ others)) ≡ None = rw parts at none in
    let both : Some s.0 ≡ None = sym found ∙ pair in
    cc)

-- ---- what the longest one isn't followed by

-- a byte more makes no lexeme
pub no_byte_more : (bytes : List ℕ) (m : ℕ) (others : List ℕ) → IsLongest bytes (m ∷ others) → ¬ (IsLexeme (bytes ++ m ∷ []))
no_byte_more bytes m others longest = longest (m ∷ []) others refl (λ e. cc)

pub word_stops : (bytes rest : List ℕ) → IsTrue (is_word bytes) → IsLongest bytes rest → Stops is_letter_or_digit rest
word_stops bytes [] is longest = tt
word_stops [] (m ∷ others) is longest = absurd cc
word_stops (b ∷ bytes) (m ∷ others) is longest = elim (cases_Bool (is_letter_or_digit m)) [
  | inl more ↦
      let both = and_parts (is_letter b) (list_all is_letter_or_digit (b ∷ bytes)) is in
      let all : IsTrue (is_word ((b ∷ bytes) ++ m ∷ [])) = and_from (is_letter b) (list_all is_letter_or_digit ((b ∷ bytes) ++ m ∷ [])) both.0 (goes_further is_letter_or_digit (b ∷ bytes) m [] both.1 more refl) in
      absurd (no_byte_more (b ∷ bytes) m others longest (word all))
  | inr ends ↦ ends
]

pub digits_stop : (bytes rest : List ℕ) → IsTrue (is_digits bytes) → IsLongest bytes rest → Stops is_digit rest
digits_stop bytes [] is longest = tt
digits_stop bytes (m ∷ others) is longest = elim (cases_Bool (is_digit m)) [
  | inl more ↦
      let both = and_parts (nat_le 1 (length bytes)) (list_all is_digit bytes) is in
      let some : nat_le 1 (length (bytes ++ m ∷ [])) ≡ true = le-leb 1 (length (bytes ++ m ∷ [])) (omega (arith, length-append bytes (m ∷ []))) in
      let all : IsTrue (is_digits (bytes ++ m ∷ [])) = and_from (nat_le 1 (length (bytes ++ m ∷ []))) (list_all is_digit (bytes ++ m ∷ [])) some (goes_further is_digit bytes m [] both.1 more refl) in
      absurd (no_byte_more bytes m others longest (digits all))
  | inr ends ↦ ends
]

pub line_stops : (inside rest : List ℕ) → list_all is_no_newline inside ≡ true → IsLongest (codes "//" ++ inside) rest → Stops is_no_newline rest
line_stops inside [] is longest = tt
line_stops inside (m ∷ others) is longest = elim (cases_Bool (is_no_newline m)) [
  | inl more ↦
      let longer : IsLineComment ((codes "//" ++ inside) ++ m ∷ []) = record { inside = inside ++ m ∷ []; marked = refl; on_line = goes_further is_no_newline inside m [] is more refl } in
      absurd (no_byte_more (codes "//" ++ inside) m others longest (line_comment longer))
  | inr ends ↦ ends
]

none_of : (o : Option Sign) → ((s : Sign) → o ≡ Some s → ⊥) → o ≡ None
none_of None never = refl
none_of (Some s) never = absurd (never s refl)

-- a sign of one byte that is the longest is no front of a pair
pub single_unpaired : (b : ℕ) (rest : List ℕ) → IsLongest (b ∷ []) rest → ((m : ℕ) (s : Sign) → pair_of b m ≡ Some s → b ∷ m ∷ [] ≡ spelling_of_sign s) → pair_at b rest ≡ None
single_unpaired b [] longest spelled = refl
single_unpaired b (m ∷ others) longest spelled = none_of (pair_of b m) (λ s e. no_byte_more (b ∷ []) m others longest (sign_lexeme s (spelled m s e)))
