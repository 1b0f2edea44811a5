-- The canonical spelling of a token is a spelling of it, and UTF-8.
use Rattle.std.proofs.Common.{ℕ, suc, zero, ℤ, pos, ◌≡◌, ◌+◌, ◌-◌, ◌*◌, ◌/◌, ◌%◌, ◌<◌, ◌≤◌, ◌^◌, ◌==◌, nat_le, nat_lt, if◌then◌else◌, Bool, true, List, [], ◌∷◌, ◌++◌, length, map, IsTrue, inl, inr, refl, sym, ap, subst, ◌∙◌, arith, append-nil, length-append}
use Rattle.std.specs.List.{list_all, flat_map}
use Rattle.std.specs.Str.{IsUtf8, IsAscii, all_scalars, encode_utf8_all}
use Rattle.std.specs.Char.{encode_utf8}
use Rattle.std.specs.Fmt.{decimal, signed_decimal}
use Rattle.std.proofs.lemmas.Bool.{cases_Bool, cases_lt, and_parts, and_from, eqb-true, ltb-true, le-leb, lt-ltb}
use Rattle.std.proofs.lemmas.Bool.Decides.{nat_tests}
use Rattle.std.proofs.lemmas.Fmt.{decimal_by_steps, IsAscii-decimal}
use Rattle.std.proofs.lemmas.List.Folds.{list_all-append}
use Rattle.std.proofs.lemmas.List.Sums.{fold-append}
use Rattle.std.proofs.lemmas.Grind.{flat_map-append}
use Rattle.std.proofs.lemmas.Str.{encode_ascii, IsUtf8-append, IsUtf8-nil, IsUtf8-encode, IsUtf8-from_ascii}
use Rattle.ob_base.specs.Limits.{longest_name}
use lib.Utf8.{scalar}
use Rattle.ob_base.specs.Names.{is_digit, is_letter_or_digit, begins_with_letter, is_word}
use Rattle.ob_lexer.specs.declared.token.TokenKind.{TokenKind}
use Rattle.ob_lexer.specs.declared.token.TokenKind.TheVariants as kind
use Rattle.ob_lexer.specs.declared.token.Sign.{Sign}
use Rattle.ob_lexer.specs.declared.token.Sign.TheVariants as sign
use Rattle.ob_lexer.specs.Spelling.{spelling_of_word, spelling_of_sign, is_digits, value_of_digits, StringPart, itself, escape, IsPart, AreParts, spelling_of_part, value_of_part, SpellsContent, IsString, IsSpelling}
use Rattle.ob_lexer.proofs.Reserved.{word_is_word}
use Rattle.ob_tree_print.specs.Layout.{escape_of, quoted, spelling_of}
use Rattle.ob_tree_print.proofs.Escapes.{escaped_plain}

-- ---- a string

-- a byte between quotes, or the escape that represents it
abbrev part_of : ℕ → StringPart
part_of b =
    if b == 34 then escape 34 34 else (if b == 92 then escape 92 92 else (if b == 10 then escape 110 10 else (if b == 9 then escape 116 9 else itself b)))

-- what a byte is between quotes
record IsPartOf (b : ℕ) (p : StringPart) : Type 0 where
  is : IsPart p
  reads : spelling_of_part p ≡ escape_of b
  means : value_of_part p ≡ b

part_is : (b : ℕ) → IsPartOf b (part_of b)
part_is b = elim (cases_Bool (b == 34)) [
  | inl quote ↦ rw quote (record { is = refl; reads = rw quote refl; means = sym (eqb-true b 34 quote) })
  | inr no_quote ↦ elim (cases_Bool (b == 92)) [
    | inl backslash ↦ rw (no_quote, backslash) (record { is = refl; reads = rw (no_quote, backslash) refl; means = sym (eqb-true b 92 backslash) })
    | inr no_backslash ↦ elim (cases_Bool (b == 10)) [
      | inl newline ↦ rw (no_quote, no_backslash, newline) (record { is = refl; reads = rw (no_quote, no_backslash, newline) refl; means = sym (eqb-true b 10 newline) })
      | inr no_newline ↦ elim (cases_Bool (b == 9)) [
        | inl tab ↦ rw (no_quote, no_backslash, no_newline, tab) (record { is = refl; reads = rw (no_quote, no_backslash, no_newline, tab) refl; means = sym (eqb-true b 9 tab) })
        | inr no_tab ↦ rw (no_quote, no_backslash, no_newline, no_tab) (record { is = rw (no_quote, no_backslash, no_newline) refl; reads = rw (no_quote, no_backslash, no_newline, no_tab) refl; means = refl })
      ]
    ]
  ]
]

parts_are : (text : List ℕ) → AreParts (map part_of text)
parts_are [] = tt
parts_are (b ∷ text) = ((part_is b).is, parts_are text)

parts_read : (text : List ℕ) → flat_map escape_of text ≡ flat_map spelling_of_part (map part_of text)
parts_read [] = refl
parts_read (b ∷ text) =
    ap (λ (l : List ℕ). l ++ flat_map escape_of text) (sym (part_is b).reads) ∙ ap (λ (l : List ℕ). spelling_of_part (part_of b) ++ l) (parts_read text)

parts_mean : (text : List ℕ) → text ≡ map value_of_part (map part_of text)
parts_mean [] = refl
parts_mean (b ∷ text) =
    ap (λ (x : ℕ). x ∷ text) (sym (part_is b).means) ∙ ap (λ (l : List ℕ). value_of_part (part_of b) ∷ l) (parts_mean text)

pub escapes_stand : (text : List ℕ) → SpellsContent (flat_map escape_of text) text
escapes_stand text = record { parts = map part_of text; are = parts_are text; spelled = parts_read text; means = parts_mean text }

pub quoted_is : (text : List ℕ) → IsString (quoted text) text
quoted_is text = record { inside = flat_map escape_of text; quoted = refl; stands = escapes_stand text }

-- ---- a number

-- what digits of a number are
record AreDigitsOf (n : ℕ) (digits : List ℕ) : Type 0 where
  some : 1 ≤ length digits
  all : list_all is_digit digits ≡ true
  value : value_of_digits digits ≡ n

digit_is : (d : ℕ) → d < 10 → is_digit (48 + d) ≡ true
digit_is d small = and_from (nat_le 48 (48 + d)) (nat_le (48 + d) 57) (le-leb 48 (48 + d) (omega arith)) (le-leb (48 + d) 57 (omega arith))

one_digit : (n : ℕ) → n < 10 → AreDigitsOf n ((48 + n) ∷ [])
one_digit n small = record { some = omega arith; all = rw (digit_is n small) refl; value = omega arith }

digit_more : (n : ℕ) (digits : List ℕ) → 10 ≤ n → AreDigitsOf (n / 10) digits → AreDigitsOf n (digits ++ (48 + n % 10) ∷ [])
digit_more n digits large are = record {
  some = omega (arith, length-append digits ((48 + n % 10) ∷ []));
  all = list_all-append is_digit digits ((48 + n % 10) ∷ []) ∙ rw (are.all, digit_is (n % 10) (omega arith)) refl;
  value = omega (arith, fold-append (λ value digit. value * 10 + (digit - 48)) 0 digits ((48 + n % 10) ∷ []), are.value);
}

decimal_are : (n : ℕ) → n < 2 ^ 64 → AreDigitsOf n (decimal n)
decimal_are = decimal_by_steps AreDigitsOf one_digit digit_more

-- the digits of a number, and its value
pub decimal_is : (n : ℕ) → n < 2 ^ 63 → IsTrue (is_digits (decimal n)) × (value_of_digits (decimal n) ≡ n)
decimal_is n small =
    let are = decimal_are n (omega arith) in
    (and_from (nat_le 1 (length (decimal n))) (list_all is_digit (decimal n)) (le-leb 1 (length (decimal n)) are.some) are.all, are.value)

number_again : (z : ℤ) (n : ℕ) → z ≡ pos n → n < 2 ^ 63 → IsSpelling (kind.Number z) (signed_decimal z)
number_again z n is small =
    let d = decimal_is n small in
    subst (λ (y : ℤ). IsSpelling (kind.Number y) (signed_decimal y)) (sym is) (d.0, ap pos (sym d.1), omega (arith, d.1))

-- ---- a token

-- what some bytes spell, its canonical spelling spells
pub spelled_again : (k : TokenKind) (bytes : List ℕ) → IsSpelling k bytes → IsSpelling k (spelling_of k)
spelled_again (kind.Name name) bytes is = subst (IsSpelling (kind.Name name)) is.0 is
spelled_again (kind.Number number) bytes is = number_again number (value_of_digits bytes) is.1 is.2
spelled_again (kind.Text text) bytes is = (quoted_is text, is.1)
spelled_again (kind.Word w) bytes is = refl
spelled_again (kind.Sign s) bytes is = refl

-- ---- UTF-8

-- whether a byte is ASCII
abbrev pub is_low : ℕ → Bool
is_low b = nat_lt b 128

low_ascii : (bytes : List ℕ) → list_all is_low bytes ≡ true → IsAscii bytes
low_ascii [] low i = omega arith
low_ascii (b ∷ bytes) low zero = ltb-true b 128 (and_parts (is_low b) (list_all is_low bytes) low).0
low_ascii (b ∷ bytes) low (suc i) = low_ascii bytes (and_parts (is_low b) (list_all is_low bytes) low).1 i

pub low_utf8 : (bytes : List ℕ) → list_all is_low bytes ≡ true → IsUtf8 bytes
low_utf8 bytes low = IsUtf8-from_ascii bytes (low_ascii bytes low)

letter_low : (b : ℕ) → is_letter_or_digit b ≡ true → is_low b ≡ true
letter_low b is = grind (arith, nat_tests)

letters_low : (bytes : List ℕ) → list_all is_letter_or_digit bytes ≡ true → list_all is_low bytes ≡ true
letters_low [] all = refl
letters_low (b ∷ bytes) all =
    let both = and_parts (is_letter_or_digit b) (list_all is_letter_or_digit bytes) all in
    and_from (is_low b) (list_all is_low bytes) (letter_low b both.0) (letters_low bytes both.1)

word_utf8 : (bytes : List ℕ) → IsTrue (is_word bytes) → IsUtf8 bytes
word_utf8 bytes is = low_utf8 bytes (letters_low bytes (and_parts (begins_with_letter bytes) (list_all is_letter_or_digit bytes) is).1)

sign_low : (s : Sign) → list_all is_low (spelling_of_sign s) ≡ true
sign_low sign.OpenBrace = refl
sign_low _ = refl

-- an escape is ASCII where what it represents is
escape_low : (b : ℕ) → b < 128 → list_all is_low (escape_of b) ≡ true
escape_low b low = elim (cases_Bool (b == 34)) [
  | inl quote ↦ rw quote refl
  | inr no_quote ↦ elim (cases_Bool (b == 92)) [
    | inl backslash ↦ rw (no_quote, backslash) refl
    | inr no_backslash ↦ elim (cases_Bool (b == 10)) [
      | inl newline ↦ rw (no_quote, no_backslash, newline) refl
      | inr no_newline ↦ elim (cases_Bool (b == 9)) [
        | inl tab ↦ rw (no_quote, no_backslash, no_newline, tab) refl
        | inr no_tab ↦ rw (no_quote, no_backslash, no_newline, no_tab, lt-ltb b 128 low) refl
      ]
    ]
  ]
]

character_utf8 : (c : ℕ) → scalar c ≡ true → IsUtf8 (flat_map escape_of (encode_utf8 c))
character_utf8 c is = elim (cases_lt c 128) [
  | inl low ↦
      let one : flat_map escape_of (encode_utf8 c) ≡ escape_of c = ap (flat_map escape_of) (encode_ascii c low) ∙ append-nil (escape_of c) in
      subst IsUtf8 (sym one) (low_utf8 (escape_of c) (escape_low c low))
  | inr high ↦
      let plain : flat_map escape_of (encode_utf8 c) ≡ encode_utf8 c = escaped_plain c (λ e. omega arith) (λ e. omega arith) (λ e. omega arith) (λ e. omega arith) in
      subst IsUtf8 (sym plain) (IsUtf8-encode c is)
]

escapes_utf8 : (cs : List ℕ) → all_scalars cs ≡ true → IsUtf8 (flat_map escape_of (encode_utf8_all cs))
escapes_utf8 [] are = IsUtf8-nil
escapes_utf8 (c ∷ cs) are =
    let both = and_parts (scalar c) (all_scalars cs) are in
    let parts : flat_map escape_of (encode_utf8_all (c ∷ cs)) ≡ flat_map escape_of (encode_utf8 c) ++ flat_map escape_of (encode_utf8_all cs) = flat_map-append escape_of (encode_utf8 c) (encode_utf8_all cs) in
    subst IsUtf8 (sym parts) (IsUtf8-append (flat_map escape_of (encode_utf8 c)) (flat_map escape_of (encode_utf8_all cs)) (character_utf8 c both.0) (escapes_utf8 cs both.1))

quoted_utf8 : (text : List ℕ) → IsUtf8 text → IsUtf8 (quoted text)
quoted_utf8 text utf8 =
    let quote : IsUtf8 (34 ∷ []) = low_utf8 (34 ∷ []) refl in
    let inside : IsUtf8 (flat_map escape_of text) = subst (λ (l : List ℕ). IsUtf8 (flat_map escape_of l)) utf8.1.1 (escapes_utf8 utf8.0 utf8.1.0) in
    IsUtf8-append (34 ∷ flat_map escape_of text) (34 ∷ []) (IsUtf8-append (34 ∷ []) (flat_map escape_of text) quote inside) quote

number_utf8 : (z : ℤ) (n : ℕ) → z ≡ pos n → n < 2 ^ 63 → IsUtf8 (signed_decimal z)
number_utf8 z n is small = subst (λ (y : ℤ). IsUtf8 (signed_decimal y)) (sym is) (IsUtf8-from_ascii (decimal n) (IsAscii-decimal n (omega arith)))

-- the content of a string is UTF-8
abbrev pub HasUtf8 : TokenKind → Type 0
HasUtf8 (kind.Text text) = IsUtf8 text
HasUtf8 _ = Unit {0}

pub spelling_utf8 : (k : TokenKind) (bytes : List ℕ) → IsSpelling k bytes → HasUtf8 k → IsUtf8 (spelling_of k)
spelling_utf8 (kind.Name name) bytes is utf8 = subst IsUtf8 is.0 (word_utf8 bytes (and_parts (nat_le (length bytes) longest_name) (is_word bytes) is.1).1)
spelling_utf8 (kind.Number number) bytes is utf8 = number_utf8 number (value_of_digits bytes) is.1 is.2
spelling_utf8 (kind.Text text) bytes is utf8 = quoted_utf8 text utf8
spelling_utf8 (kind.Word w) bytes is utf8 = word_utf8 (spelling_of_word w) (word_is_word w)
spelling_utf8 (kind.Sign s) bytes is utf8 = low_utf8 (spelling_of_sign s) (sign_low s)
