-- The step at a text's front finds the piece, or the fault, that the text begins with.
use Rattle.std.proofs.Common.{ℕ, suc, pos, ◌≡◌, ◌+◌, ◌<◌, ◌≤◌, ◌^◌, ◌==◌, nat_le, ◌||◌, Bool, true, false, List, [], ◌∷◌, ◌++◌, length, take, codes, Option, Some, None, IsTrue, inl, inr, refl, sym, ap, subst, ◌∙◌, arith, append_assoc, append-nil, length-append}
use Rattle.std.proofs.lemmas.List.{length-map, length-take-le}
use Rattle.std.specs.List.{list_all, prefix_len, take_while}
use Rattle.std.specs.Str.{IsUtf8}
use Rattle.std.proofs.lemmas.Bool.{and_parts, cases_Bool, not-true, eqb-true, lt-leb, leb-true, leb-false, and_left}
use Rattle.std.proofs.lemmas.List.Folds.{length-prefix_len}
use Rattle.std.proofs.Math.Seq.{take-append_seam}
use Rattle.ob_base.specs.Limits.{longest_name, longest_string}
use Rattle.ob_base.specs.Names.{is_letter, is_digit, is_letter_or_digit, is_word, is_name, is_text}
use Rattle.ob_base.specs.Faults as faults
use Rattle.ob_lexer.specs.declared.token.TokenKind.TheVariants as kind
use Rattle.ob_lexer.specs.declared.token.Word.{Word}
use Rattle.ob_lexer.specs.declared.token.Sign.{Sign}
use Rattle.ob_lexer.specs.declared.token.Sign.TheVariants as sign
use Rattle.ob_lexer.specs.declared.bytes.Class.TheVariants as class
use Rattle.ob_lexer.specs.declared.strings.Heard.TheVariants as heard
use Rattle.ob_lexer.specs.declared.step.Step.{Step}
use Rattle.ob_lexer.specs.declared.step.Step.TheVariants.{Gap, Token, Flaw}
use Rattle.ob_lexer.specs.Spelling.{spelling_of_word, spelling_of_sign, value_of_part, IsReserved, is_digits, value_of_digits, escaped, StringPart, itself, escape, IsPart, AreParts, SpellsContent, IsString}
use Rattle.ob_lexer.specs.Lexis.{is_blank, IsBlank, HasClose, IsLineComment, IsBlockComment, IsLexeme, word, digits, sign as sign_lexeme, blank, line_comment, open_comment as comment_mark, open_string as quote_mark, IsLongest, Element, space, comment, token, IsElement, of_line, of_block}
use Rattle.ob_lexer.specs.Flaws.{Flaw as Fault, Begins, IsCutOff, first_character, bad_character, open_comment, open_string, big_number, long_name, long_string, bad_escape}
use Rattle.ob_lexer.specs.Lexing.{class_of, or_else, word_of, word_step, number_step, close_of, is_no_newline, pair_of, single_of, pair_at, goes_on, heard_of, text_step, string_from, first_step}
use Rattle.ob_lexer.specs.Reading.{IsUtf8AfterQuote}
use Rattle.ob_lexer.proofs.Numbers.{small_some, large_none}
use Rattle.ob_lexer.proofs.Reserved.{word_of-Some, word_of-spelling, word_is_word, word_is_short}
use Rattle.ob_lexer.proofs.Runs.{prefix_len-run, take_while-run}
use Rattle.ob_lexer.proofs.SignLemmas.{IsShaped, one, two, slash, shape, single_spelled, pair_spelled}
use Rattle.ob_lexer.proofs.FirstBytes.{class-blank, class-letter, class-digit, digits_first}
use Rattle.ob_lexer.proofs.Longest.{no_byte_more, word_stops, digits_stop, line_stops, single_unpaired}
use Rattle.ob_lexer.proofs.Comments.{close_found, no_close_none}
use Rattle.ob_lexer.proofs.StringTexts.{content_is_text}
use Rattle.ob_lexer.proofs.StringSteps.{spelled, values, option_cases}

-- what a text begins with
abbrev pub step_at : List ℕ → Step
step_at [] = Gap 0
step_at (b ∷ rest) = first_step b rest

-- the step that takes up such an element
abbrev pub step_of : Element → ℕ → Step
step_of space count = Gap count
step_of comment count = Gap count
step_of (token kind) count = Token kind count

-- ---- blanks and comments

blank_found : (bytes rest : List ℕ) → IsBlank bytes → step_at (bytes ++ rest) ≡ Gap (length bytes)
blank_found bytes rest is =
    let here : step_at (is.byte ∷ rest) ≡ Gap 1 = rw (class-blank is.byte is.blank) refl in
    rw is.one here

line_found : (bytes rest : List ℕ) → IsLineComment bytes → IsLongest bytes rest → step_at (bytes ++ rest) ≡ Gap (length bytes)
line_found bytes rest is longest =
    let count : prefix_len is_no_newline (is.inside ++ rest) ≡ length is.inside = prefix_len-run is_no_newline is.inside rest is.on_line (line_stops is.inside rest is.on_line (subst (λ (l : List ℕ). IsLongest l rest) is.marked longest)) in
    let here : step_at ((codes "//" ++ is.inside) ++ rest) ≡ Gap (length (codes "//" ++ is.inside)) = ap Gap (omega (arith, count)) in
    rw is.marked here

block_found : (bytes rest : List ℕ) → IsBlockComment bytes → step_at (bytes ++ rest) ≡ Gap (length bytes)
block_found bytes rest is =
    let found : close_of (is.inside ++ codes "*/" ++ rest) ≡ Some (0 + length is.inside) = close_found 0 is.inside rest is.first in
    let here : step_at ((codes "/*" ++ is.inside ++ codes "*/") ++ rest) ≡ Gap (0 + length is.inside + 4) = ap (λ (o : Option ℕ). or_else o (Flaw faults.open_comment 0 2) (λ n. Gap (n + 4))) found in
    let count : 0 + length is.inside + 4 ≡ length (codes "/*" ++ is.inside ++ codes "*/") = omega (arith, length-append is.inside (codes "*/")) in
    rw is.marked (here ∙ ap Gap count)

-- ---- words and numbers

word_steps : (bytes rest : List ℕ) → IsTrue (is_word bytes) → IsLongest bytes rest → step_at (bytes ++ rest) ≡ word_step bytes
word_steps [] rest is longest = absurd cc
word_steps (b ∷ bytes) rest is longest =
    let both = and_parts (is_letter b) (list_all is_letter_or_digit (b ∷ bytes)) is in
    let run : take_while is_letter_or_digit ((b ∷ bytes) ++ rest) ≡ b ∷ bytes = take_while-run is_letter_or_digit (b ∷ bytes) rest both.1 (word_stops (b ∷ bytes) rest is longest) in
    rw (class-letter b both.0) (ap word_step run)

word_found : (w : Word) (bytes rest : List ℕ) → bytes ≡ spelling_of_word w → IsLongest bytes rest → step_at (bytes ++ rest) ≡ Token (kind.Word w) (length bytes)
word_found w bytes rest is longest =
    let some : word_of bytes ≡ Some w = ap word_of is ∙ word_of-spelling w in
    word_steps bytes rest (rw is (word_is_word w)) longest ∙ rw some refl

unreserved : (bytes : List ℕ) → ¬ (IsReserved bytes) → word_of bytes ≡ None
unreserved bytes no_word = elim (option_cases (word_of bytes)) [
  | inl none ↦ none
  | inr w ↦ absurd (no_word (w.0, word_of-Some bytes w.0 w.1))
]

name_found : (bytes rest : List ℕ) → IsTrue (is_name bytes) → ¬ (IsReserved bytes) → IsLongest bytes rest → step_at (bytes ++ rest) ≡ Token (kind.Name bytes) (length bytes)
name_found bytes rest name no_word longest =
    let is : IsTrue (is_word bytes) = (and_parts (nat_le (length bytes) longest_name) (is_word bytes) name).1 in
    word_steps bytes rest is longest ∙ rw (unreserved bytes no_word, name) refl

digits_step : (bytes rest : List ℕ) → IsTrue (is_digits bytes) → IsLongest bytes rest → step_at (bytes ++ rest) ≡ number_step bytes
digits_step [] rest is longest = absurd cc
digits_step (b ∷ bytes) rest is longest =
    let all : list_all is_digit (b ∷ bytes) ≡ true = (and_parts (nat_le 1 (length (b ∷ bytes))) (list_all is_digit (b ∷ bytes)) is).1 in
    let run : take_while is_digit ((b ∷ bytes) ++ rest) ≡ b ∷ bytes = take_while-run is_digit (b ∷ bytes) rest all (digits_stop (b ∷ bytes) rest is longest) in
    rw (class-digit b (digits_first b bytes is)) (ap number_step run)

number_found : (bytes rest : List ℕ) → IsTrue (is_digits bytes) → value_of_digits bytes < 2 ^ 63 → IsLongest bytes rest → step_at (bytes ++ rest) ≡ Token (kind.Number (pos (value_of_digits bytes))) (length bytes)
number_found bytes rest is small longest = digits_step bytes rest is longest ∙ rw (small_some bytes small) refl

-- ---- signs

slash_found : (rest : List ℕ) → IsLongest (47 ∷ []) rest → step_at (47 ∷ rest) ≡ Token (kind.Sign sign.Slash) 1
slash_found [] longest = refl
slash_found (m ∷ rest) longest = elim (cases_Bool (m == 47)) [
  | inl line ↦
      let same : m ≡ 47 = eqb-true m 47 line in
      let mark : IsLineComment (47 ∷ 47 ∷ []) = record { inside = []; marked = refl; on_line = refl } in
      absurd (no_byte_more (47 ∷ []) 47 rest (subst (λ (x : ℕ). IsLongest (47 ∷ []) (x ∷ rest)) same longest) (line_comment mark))
  | inr no_line ↦ elim (cases_Bool (m == 42)) [
    | inl block ↦
        let same : m ≡ 42 = eqb-true m 42 block in
        absurd (no_byte_more (47 ∷ []) 42 rest (subst (λ (x : ℕ). IsLongest (47 ∷ []) (x ∷ rest)) same longest) (comment_mark refl))
    | inr no_block ↦ rw (no_line, no_block) refl
  ]
]

sign_found : (s : Sign) (bytes rest : List ℕ) → bytes ≡ spelling_of_sign s → IsLongest bytes rest → IsShaped s → step_at (bytes ++ rest) ≡ Token (kind.Sign s) (length bytes)
sign_found s bytes rest is longest (one b spelled' found other) =
    let all : bytes ≡ b ∷ [] = is ∙ spelled' in
    let alone : IsLongest (b ∷ []) rest = subst (λ (l : List ℕ). IsLongest l rest) all longest in
    let none : pair_at b rest ≡ None = single_unpaired b rest alone (λ m t e. sym (pair_spelled b m t e)) in
    let here : step_at (b ∷ rest) ≡ Token (kind.Sign s) 1 = rw (other, none, found) refl in
    rw all here
sign_found s bytes rest is longest (two a b spelled' found other) =
    let all : bytes ≡ a ∷ b ∷ [] = is ∙ spelled' in
    let here : step_at (a ∷ b ∷ rest) ≡ Token (kind.Sign s) 2 = rw (other, found) refl in
    rw all here
sign_found s bytes rest is longest (slash same) =
    let all : bytes ≡ 47 ∷ [] = is ∙ ap spelling_of_sign same in
    let alone : IsLongest (47 ∷ []) rest = subst (λ (l : List ℕ). IsLongest l rest) all longest in
    rw (all, same) (slash_found rest alone)

-- ---- strings

or_none : (a b : Bool) → (a || b) ≡ false → (a ≡ false) × (b ≡ false)
or_none true b e = absurd cc
or_none false b e = (refl, e)

heard_itself : (b : ℕ) → IsPart (itself b) → heard_of false b ≡ heard.Value b
heard_itself b is =
    let none = or_none (b == 34 || b == 92) (b == 10) (not-true (b == 34 || b == 92 || b == 10) is) in
    let quote = or_none (b == 34) (b == 92) none.0 in
    rw (quote.0, none.1, quote.1) refl

-- the parts of a string are read one after the other, as long as there is room for what they represent
parts_read : (parts : List StringPart) (content : List ℕ) (taken : ℕ) (rest : List ℕ) → AreParts parts → length content + length parts ≤ longest_string
    → string_from false content taken (spelled parts ++ rest) ≡ string_from false (content ++ values parts) (taken + length (spelled parts)) rest
parts_read [] content taken rest are room =
    ap (λ (l : List ℕ). string_from false l taken rest) (sym (append-nil content)) ∙ ap (λ (n : ℕ). string_from false (content ++ []) n rest) (omega arith)
parts_read (itself b ∷ parts) content taken rest are room =
    let small : nat_le longest_string (length content) ≡ false = lt-leb longest_string (length content) (omega arith) in
    let more : length (content ++ b ∷ []) + length parts ≤ longest_string = omega (arith, length-append content (b ∷ [])) in
    let next = parts_read parts (content ++ b ∷ []) (taken + 1) rest are.1 more in
    let count : taken + 1 + length (spelled parts) ≡ taken + suc (length (spelled parts)) = omega arith in
    let byte : heard_of false b ≡ heard.Value b = heard_itself b are.0 in
    let step : string_from false content taken (b ∷ (spelled parts ++ rest)) ≡ string_from false (content ++ b ∷ []) (taken + 1) (spelled parts ++ rest) = rw (byte, string_from, small) refl in
    step ∙ next ∙ ap (λ (l : List ℕ). string_from false l (taken + 1 + length (spelled parts)) rest) (append_assoc content (b ∷ []) (values parts)) ∙ ap (λ (n : ℕ). string_from false (content ++ b ∷ values parts) n rest) count
parts_read (escape letter value ∷ parts) content taken rest are room =
    let small : nat_le longest_string (length content) ≡ false = lt-leb longest_string (length content) (omega arith) in
    let more : length (content ++ value ∷ []) + length parts ≤ longest_string = omega (arith, length-append content (value ∷ [])) in
    let next = parts_read parts (content ++ value ∷ []) (taken + 1 + 1) rest are.1 more in
    let count : taken + 1 + 1 + length (spelled parts) ≡ taken + suc (suc (length (spelled parts))) = omega arith in
    let byte : heard_of true letter ≡ heard.Value value = ap (λ (o : Option ℕ). or_else o heard.NoEscape heard.Value) are.0 in
    let step : string_from true content (taken + 1) (letter ∷ (spelled parts ++ rest)) ≡ string_from false (content ++ value ∷ []) (taken + 1 + 1) (spelled parts ++ rest) = rw (byte, string_from, small) refl in
    step ∙ next ∙ ap (λ (l : List ℕ). string_from false l (taken + 1 + 1 + length (spelled parts)) rest) (append_assoc content (value ∷ []) (values parts)) ∙ ap (λ (n : ℕ). string_from false (content ++ value ∷ values parts) n rest) count

-- or until they represent too much
parts_overflow : (parts : List StringPart) (content : List ℕ) (taken : ℕ) (rest : List ℕ) → AreParts parts → length content ≤ longest_string → longest_string < length content + length parts
    → string_from false content taken (spelled parts ++ rest) ≡ Flaw faults.long_string 0 1
parts_overflow [] content taken rest are short long = absurd (omega arith)
parts_overflow (itself b ∷ parts) content taken rest are short long =
    let byte : heard_of false b ≡ heard.Value b = heard_itself b are.0 in
    elim (cases_Bool (nat_le longest_string (length content))) [
      | inl full ↦ rw (byte, string_from, full) refl
      | inr room ↦
          let few = leb-false longest_string (length content) room in
          let next = parts_overflow parts (content ++ b ∷ []) (taken + 1) rest are.1 (omega (arith, length-append content (b ∷ []))) (omega (arith, length-append content (b ∷ []))) in
          rw (byte, string_from, room) next
    ]
parts_overflow (escape letter value ∷ parts) content taken rest are short long =
    let byte : heard_of true letter ≡ heard.Value value = ap (λ (o : Option ℕ). or_else o heard.NoEscape heard.Value) are.0 in
    elim (cases_Bool (nat_le longest_string (length content))) [
      | inl full ↦
          let step : string_from true content (taken + 1) (letter ∷ (spelled parts ++ rest)) ≡ Flaw faults.long_string 0 1 = rw (byte, string_from, full) refl in
          step
      | inr room ↦
          let few = leb-false longest_string (length content) room in
          let next = parts_overflow parts (content ++ value ∷ []) (taken + 1 + 1) rest are.1 (omega (arith, length-append content (value ∷ []))) (omega (arith, length-append content (value ∷ []))) in
          let step : string_from true content (taken + 1) (letter ∷ (spelled parts ++ rest)) ≡ string_from false (content ++ value ∷ []) (taken + 1 + 1) (spelled parts ++ rest) = rw (byte, string_from, room) refl in
          step ∙ next
    ]

-- what represents so much is read
inside_read : (inside content rest : List ℕ) → SpellsContent inside content → length content ≤ longest_string → string_from false [] 0 (inside ++ rest) ≡ string_from false content (length inside) rest
inside_read inside content rest stands short =
    let count : length content ≡ length stands.parts = ap length stands.means ∙ length-map stands.parts value_of_part in
    let read = parts_read stands.parts [] 0 rest stands.are (omega (arith, count)) in
    let many : 0 + length (spelled stands.parts) ≡ length inside = omega (arith, ap length stands.spelled) in
    ap (λ (l : List ℕ). string_from false [] 0 (l ++ rest)) stands.spelled ∙ read ∙ ap (λ (n : ℕ). string_from false (values stands.parts) n rest) many ∙ ap (λ (l : List ℕ). string_from false l (length inside) rest) (sym stands.means)

inside_overflows : (inside content rest : List ℕ) → SpellsContent inside content → longest_string < length content → string_from false [] 0 (inside ++ rest) ≡ Flaw faults.long_string 0 1
inside_overflows inside content rest stands long =
    let count : length content ≡ length stands.parts = ap length stands.means ∙ length-map stands.parts value_of_part in
    ap (λ (l : List ℕ). string_from false [] 0 (l ++ rest)) stands.spelled ∙ parts_overflow stands.parts [] 0 rest stands.are (omega arith) (omega (arith, count))

text_found : (content bytes rest : List ℕ) → IsString bytes content → length content ≤ longest_string → IsUtf8AfterQuote (bytes ++ rest) → step_at (bytes ++ rest) ≡ Token (kind.Text content) (length bytes)
text_found content bytes rest is short utf8 =
    let whole : bytes ++ rest ≡ 34 ∷ (is.inside ++ 34 ∷ rest) = ap (λ (l : List ℕ). l ++ rest) is.quoted ∙ ap (λ (l : List ℕ). 34 ∷ l) (append_assoc is.inside (34 ∷ []) rest) in
    let after : IsUtf8 (is.inside ++ 34 ∷ rest) = (subst IsUtf8AfterQuote whole utf8) refl in
    let text : is_text content ≡ true = content_is_text is.inside content rest after is.stands short in
    let count : length is.inside + 2 ≡ length bytes = omega (arith, ap length is.quoted, length-append is.inside (34 ∷ [])) in
    let read : string_from false [] 0 (is.inside ++ 34 ∷ rest) ≡ text_step content (length is.inside + 2) = inside_read is.inside content (34 ∷ rest) is.stands short in
    let token' : text_step content (length is.inside + 2) ≡ Token (kind.Text content) (length is.inside + 2) = rw text refl in
    ap step_at whole ∙ read ∙ token' ∙ ap (Token (kind.Text content)) count

-- ---- a piece is found

pub piece_found : (e : Element) (bytes rest : List ℕ) → IsElement e bytes → IsLongest bytes rest → IsUtf8AfterQuote (bytes ++ rest) → step_at (bytes ++ rest) ≡ step_of e (length bytes)
piece_found space bytes rest is longest utf8 = blank_found bytes rest is
piece_found comment bytes rest (of_line is) longest utf8 = line_found bytes rest is longest
piece_found comment bytes rest (of_block is) longest utf8 = block_found bytes rest is
piece_found (token (kind.Name name)) bytes rest is longest utf8 = name_found bytes rest is.1 is.2 longest ∙ ap (λ (l : List ℕ). Token (kind.Name l) (length bytes)) is.0
piece_found (token (kind.Number number)) bytes rest is longest utf8 = number_found bytes rest is.0 is.2 longest ∙ ap (λ n. Token (kind.Number n) (length bytes)) (sym is.1)
piece_found (token (kind.Text content)) bytes rest is longest utf8 = text_found content bytes rest is.0 is.1 utf8
piece_found (token (kind.Word w)) bytes rest is longest utf8 = word_found w bytes rest is longest
piece_found (token (kind.Sign s)) bytes rest is longest utf8 = sign_found s bytes rest is longest (shape s)

-- ---- a fault is found

-- The step at the text's front says this fault, whose bytes stand in the text.
pub record FindsFlaw (text : List ℕ) (flaw : Fault) : Type 0 where
  pub step : step_at text ≡ Flaw flaw.number (length flaw.before) (length flaw.bytes)
  pub front : flaw.before ≡ take (length flaw.before) text

-- the class of a byte that is no lexeme
no_class : (b : ℕ) (rest : List ℕ) → ((bytes after : List ℕ) → b ∷ rest ≡ bytes ++ after → ¬ (IsLexeme bytes)) → class_of b ≡ class.Other
no_class b rest none =
    let alone : ¬ (IsLexeme (b ∷ [])) = none (b ∷ []) rest refl in
    let no_blank : is_blank b ≡ false = elim (cases_Bool (is_blank b)) [ inl is ↦ absurd (alone (blank (record { byte = b; one = refl; blank = is }))) | inr isnt ↦ isnt ] in
    let no_letter : is_letter b ≡ false = elim (cases_Bool (is_letter b)) [ inl is ↦ absurd (alone (word (rw is refl))) | inr isnt ↦ isnt ] in
    let no_digit : is_digit b ≡ false = elim (cases_Bool (is_digit b)) [ inl is ↦ absurd (alone (digits (rw is refl))) | inr isnt ↦ isnt ] in
    let no_quote : (b == 34) ≡ false = elim (cases_Bool (b == 34)) [ inl is ↦ absurd (alone (quote_mark (ap (λ (x : ℕ). x ∷ []) (eqb-true b 34 is)))) | inr isnt ↦ isnt ] in
    let no_slash : (b == 47) ≡ false = elim (cases_Bool (b == 47)) [ inl is ↦ absurd (alone (sign_lexeme sign.Slash (ap (λ (x : ℕ). x ∷ []) (eqb-true b 47 is)))) | inr isnt ↦ isnt ] in
    rw (no_blank, no_letter, no_digit, no_quote, no_slash) refl

no_pair : (b : ℕ) (rest : List ℕ) → ((bytes after : List ℕ) → b ∷ rest ≡ bytes ++ after → ¬ (IsLexeme bytes)) → pair_at b rest ≡ None
no_pair b [] none = refl
no_pair b (c ∷ rest) none = elim (option_cases (pair_of b c)) [
  | inl is ↦ is
  | inr s ↦ absurd (none (b ∷ c ∷ []) rest refl (sign_lexeme s.0 (sym (pair_spelled b c s.0 s.1))))
]

no_single : (b : ℕ) (rest : List ℕ) → ((bytes after : List ℕ) → b ∷ rest ≡ bytes ++ after → ¬ (IsLexeme bytes)) → single_of b ≡ None
no_single b rest none = elim (option_cases (single_of b)) [
  | inl is ↦ is
  | inr s ↦ absurd (none (b ∷ []) rest refl (sign_lexeme s.0 (sym (single_spelled b s.0 s.1))))
]

bad_found : (b : ℕ) (rest : List ℕ) → ((bytes after : List ℕ) → b ∷ rest ≡ bytes ++ after → ¬ (IsLexeme bytes)) → step_at (b ∷ rest) ≡ Flaw faults.bad_character 0 (length (first_character (b ∷ rest)))
bad_found b rest none =
    let count : prefix_len goes_on rest + 1 ≡ length (first_character (b ∷ rest)) = omega (arith, length-prefix_len goes_on rest) in
    let here : step_at (b ∷ rest) ≡ Flaw faults.bad_character 0 (prefix_len goes_on rest + 1) = rw (no_class b rest none, no_pair b rest none, no_single b rest none) refl in
    here ∙ ap (Flaw faults.bad_character 0) count

comment_open : (rest : List ℕ) → ¬ (HasClose rest) → step_at (codes "/*" ++ rest) ≡ Flaw faults.open_comment 0 2
comment_open rest none = ap (λ (o : Option ℕ). or_else o (Flaw faults.open_comment 0 2) (λ n. Gap (n + 4))) (no_close_none 0 rest none)

cut_off : (content : List ℕ) (taken : ℕ) (rest : List ℕ) → IsCutOff rest → string_from false content taken rest ≡ Flaw faults.open_string 0 1
cut_off content taken [] cut = refl
cut_off content taken (b ∷ rest) (inl same) = rw same refl
cut_off content taken (b ∷ rest) (inr both) = rw (both.0, both.1) refl

string_open : (inside content rest : List ℕ) → SpellsContent inside content → length content ≤ longest_string → IsCutOff rest → step_at (34 ∷ inside ++ rest) ≡ Flaw faults.open_string 0 1
string_open inside content rest stands short cut = inside_read inside content rest stands short ∙ cut_off content (length inside) rest cut

escape_bad : (inside content : List ℕ) (letter : ℕ) (rest : List ℕ) → SpellsContent inside content → length content ≤ longest_string → escaped letter ≡ None → step_at (34 ∷ inside ++ 92 ∷ letter ∷ rest) ≡ Flaw faults.bad_escape (length (34 ∷ inside)) 1
escape_bad inside content letter rest stands short none =
    let byte : heard_of true letter ≡ heard.NoEscape = ap (λ (o : Option ℕ). or_else o heard.NoEscape heard.Value) none in
    let step : string_from true content (length inside + 1) (letter ∷ rest) ≡ Flaw faults.bad_escape (length inside + 1) 1 = rw (byte, string_from) refl in
    inside_read inside content (92 ∷ letter ∷ rest) stands short ∙ step ∙ ap (λ (n : ℕ). Flaw faults.bad_escape n 1) (omega arith)

number_big : (digits' rest : List ℕ) → IsTrue (is_digits digits') → IsLongest digits' rest → 2 ^ 63 ≤ value_of_digits digits' → step_at (digits' ++ rest) ≡ Flaw faults.big_number 0 1
number_big digits' rest is longest large = digits_step digits' rest is longest ∙ rw (large_none digits' large) refl

long_unreserved : (bytes : List ℕ) → longest_name < length bytes → ¬ (IsReserved bytes)
long_unreserved bytes long reserved = omega (arith, ap length reserved.1, word_is_short reserved.0)

word_long : (word' rest : List ℕ) → IsTrue (is_word word') → IsLongest word' rest → longest_name < length word' → step_at (word' ++ rest) ≡ Flaw faults.long_name 0 1
word_long word' rest is longest long =
    let no_name : is_name word' ≡ false = and_left (nat_le (length word') longest_name) (is_word word') (lt-leb (length word') longest_name long) in
    word_steps word' rest is longest ∙ rw (unreserved word' (long_unreserved word' long), no_name) refl

-- one byte of a text that isn't empty
one_of : (text bytes rest : List ℕ) → text ≡ bytes ++ rest → 1 ≤ length bytes → length (take 1 text) ≡ 1
one_of text bytes rest parts some = length-take-le 1 text (omega (arith, ap length parts, length-append bytes rest))

digits_some : (bytes : List ℕ) → IsTrue (is_digits bytes) → 1 ≤ length bytes
digits_some bytes is = leb-true 1 (length bytes) (and_parts (nat_le 1 (length bytes)) (list_all is_digit bytes) is).0

pub flaw_found : (text : List ℕ) (flaw : Fault) → Begins text flaw → FindsFlaw text flaw
flaw_found text flaw (bad_character b rest parts none is) =
    let none' : (bytes after : List ℕ) → b ∷ rest ≡ bytes ++ after → ¬ (IsLexeme bytes) = λ bytes after e. none bytes after (parts ∙ e) in
    rw (is, parts) (record { step = bad_found b rest none'; front = refl })
flaw_found text flaw (open_comment rest parts none is) = rw (is, parts) (record { step = comment_open rest none; front = refl })
flaw_found text flaw (open_string inside content rest parts stands short cut is) = rw (is, parts) (record { step = string_open inside content rest stands short cut; front = refl })
flaw_found text flaw (big_number digits' rest parts number longest large is) = rw is (record { step = ap step_at parts ∙ number_big digits' rest number longest large ∙ ap (Flaw faults.big_number 0) (sym (one_of text digits' rest parts (digits_some digits' number))); front = refl })
flaw_found text flaw (long_name word' rest parts name longest long is) = rw is (record { step = ap step_at parts ∙ word_long word' rest name longest long ∙ ap (Flaw faults.long_name 0) (sym (one_of text word' rest parts (omega arith))); front = refl })
flaw_found text flaw (long_string inside content rest parts stands long is) = rw (is, parts) (record { step = inside_overflows inside content rest stands long; front = refl })
flaw_found text flaw (bad_escape inside content letter rest parts stands short none is) =
    rw (is, parts) (record { step = escape_bad inside content letter rest stands short none; front = sym (take-append_seam (34 ∷ inside) (92 ∷ letter ∷ rest)) })
