-- Of which bytes the compact text of a JSON value consists.
use Rattle.std.proofs.Common.{◌≡◌, ℕ, zero, suc, pos, negsuc, ◌+◌, ◌/◌, ◌%◌, ◌≤◌, ◌<◌, ◌==◌, nat_lt, Bool, true, false, cond, ◌||◌, List, [], ◌∷◌, ◌++◌, length, length-append, Some, slice_get, refl, sym, ◌∙◌, ap, arith}
use Rattle.std.specs.Prelude.{if◌then◌else◌}
use Rattle.std.specs.Char.{digit_char}
use Rattle.std.specs.Fmt.{digit_glyph, digits_onto, digits, decimal}
use Rattle.std.specs.List.{list_any, position, position_or_len}
use Rattle.std.proofs.lemmas.List.Folds.{list_any-append}
use Rattle.std.proofs.lemmas.Bool.Decides.{nat_tests}
use Rattle.json.specs.Print.{escape_letter, escape_byte, escape, quoted}
use Rattle.serde_json.specs.Data.{Num, unsigned, negative, float, Data, null, boolean, number, string, array, object, Items, no_items, item, Members, no_members, member}
use Rattle.serde_json.specs.Written.{number_text, comma_if, compact_text, items_text, members_text}

-- no byte from 45 on passes: no digit, and no sign
abbrev pub FailsHigh : (ℕ → Bool) → Type 0
FailsHigh p = (x : ℕ) → 45 ≤ x → p x ≡ false

pub fails_high : (c x : ℕ) → c < 45 → 45 ≤ x → (x == c) ≡ false
fails_high c x low high = grind (arith, nat_tests)

pub none_in_both : (p : ℕ → Bool) (a b : List ℕ) → list_any p a ≡ false → list_any p b ≡ false → list_any p (a ++ b) ≡ false
none_in_both p a b ha hb = list_any-append p a b ∙ rw (ha, hb) refl

-- ---- numbers

digit_high : (d : ℕ) → 45 ≤ digit_glyph false d
digit_high d = by (nat_lt d 10)
  where
    by : (b : Bool) → 45 ≤ (if b then 48 + d else 87 + d)
    by true = omega arith
    by false = omega arith

module _ (p : ℕ → Bool) (h : FailsHigh p) where
  none_in_digits : (k n : ℕ) (acc : List ℕ) → list_any p acc ≡ false → list_any p (digits_onto k 10 false n acc) ≡ false
  none_in_digits zero n acc none = none
  none_in_digits (suc k) n acc none = by (n / 10 == 0) (none_in_digits k (n / 10) more none_more)
    where
      more : List ℕ
      more = digit_glyph false (n % 10) ∷ acc

      none_more : list_any p more ≡ false
      none_more = rw (h (digit_glyph false (n % 10)) (digit_high (n % 10))) none

      by : (b : Bool) → list_any p (digits_onto k 10 false (n / 10) more) ≡ false → list_any p (if b then more else digits_onto k 10 false (n / 10) more) ≡ false
      by true rest = none_more
      by false rest = rest

  none_in_decimal : (n : ℕ) → list_any p (decimal n) ≡ false
  unfolding digits
  none_in_decimal n = none_in_digits 64 n [] refl

  pub none_in_number : (n : Num) → list_any p (number_text n) ≡ false
  none_in_number (unsigned n) = none_in_decimal n
  none_in_number (negative (pos n)) = none_in_decimal n
  none_in_number (negative (negsuc n)) = rw (h 45 (omega arith)) (none_in_decimal (suc n))
  none_in_number (float x) = refl

-- ---- a newline

abbrev pub is_newline : ℕ → Bool
is_newline b = b == 10

newline_fails : FailsHigh is_newline
newline_fails x high = fails_high 10 x (omega arith) high

letter_by : (x : ℕ) (a b c d e f : Bool) → (a ≡ true → is_newline x ≡ false)
    → is_newline (cond a x (cond b 98 (cond c 102 (cond d 110 (cond e 114 (cond f 116 0)))))) ≡ false
letter_by x true b c d e f h = h refl
letter_by x false true c d e f h = refl
letter_by x false false true d e f h = refl
letter_by x false false false true e f h = refl
letter_by x false false false false true f h = refl
letter_by x false false false false false true h = refl
letter_by x false false false false false false h = refl

quote_fails : (x : ℕ) → ((x == 34) || (x == 92)) ≡ true → is_newline x ≡ false
quote_fails x is = grind (arith, nat_tests)

letter_fails : (x : ℕ) → is_newline (escape_letter x) ≡ false
letter_fails x = letter_by x ((x == 34) || (x == 92)) (x == 8) (x == 12) (x == 10) (x == 13) (x == 9) (quote_fails x)

hex_fails : (d : ℕ) → is_newline (digit_char d) ≡ false
hex_fails d = newline_fails (digit_char d) (by (nat_lt d 10))
  where
    by : (b : Bool) → 45 ≤ cond b (48 + d) (87 + d)
    by true = omega arith
    by false = omega arith

escaped_by : (x l m n : ℕ) (a b : Bool) → is_newline l ≡ false → is_newline m ≡ false → is_newline n ≡ false → (b ≡ false → is_newline x ≡ false)
    → list_any is_newline (cond a (92 ∷ l ∷ []) (cond b (92 ∷ 117 ∷ 48 ∷ 48 ∷ m ∷ n ∷ []) (x ∷ []))) ≡ false
escaped_by x l m n true b hl hm hn hx = rw hl refl
escaped_by x l m n false true hl hm hn hx = rw (hm, hn) refl
escaped_by x l m n false false hl hm hn hx = rw (hx refl) refl

plain_fails : (x : ℕ) → nat_lt x 32 ≡ false → is_newline x ≡ false
plain_fails x is = grind (arith, nat_tests)

none_in_byte : (x : ℕ) → list_any is_newline (escape_byte x) ≡ false
unfolding escape_byte
none_in_byte x =
    escaped_by x (escape_letter x) (digit_char (x / 16)) (digit_char (x % 16)) (nat_lt 0 (escape_letter x)) (nat_lt x 32)
    (letter_fails x) (hex_fails (x / 16)) (hex_fails (x % 16)) (plain_fails x)

none_in_escaped : (s : List ℕ) → list_any is_newline (escape s) ≡ false
none_in_escaped [] = refl
none_in_escaped (x ∷ s) = none_in_both is_newline (escape_byte x) (escape s) (none_in_byte x) (none_in_escaped s)

none_in_quoted : (s : List ℕ) → list_any is_newline (quoted s) ≡ false
none_in_quoted s = none_in_both is_newline (escape s) (34 ∷ []) (none_in_escaped s) refl

none_in_comma : (later : Bool) (text : List ℕ) → list_any is_newline text ≡ false → list_any is_newline (comma_if later ++ text) ≡ false
none_in_comma true text none = none
none_in_comma false text none = none

-- the compact text of a value is one line
mutual
  pub one_line : (d : Data) → list_any is_newline (compact_text d) ≡ false
  one_line null = refl
  one_line (boolean true) = refl
  one_line (boolean false) = refl
  one_line (number n) = none_in_number is_newline newline_fails n
  one_line (string s) = none_in_quoted s
  one_line (array ds) = one_line_of_items false ds
  one_line (object ms) = one_line_of_members false ms

  one_line_of_items : (later : Bool) (ds : Items) → list_any is_newline (items_text later ds) ≡ false
  one_line_of_items later no_items = refl
  one_line_of_items later (item d ds) =
      none_in_comma later (compact_text d ++ items_text true ds) (none_in_both is_newline (compact_text d) (items_text true ds) (one_line d) (one_line_of_items true ds))

  one_line_of_members : (later : Bool) (ms : Members) → list_any is_newline (members_text later ms) ≡ false
  one_line_of_members later no_members = refl
  one_line_of_members later (member k d ms) =
      none_in_comma later (quoted k ++ 58 ∷ (compact_text d ++ members_text true ms))
      (none_in_both is_newline (quoted k) (58 ∷ (compact_text d ++ members_text true ms)) (none_in_quoted k)
      (none_in_both is_newline (compact_text d) (members_text true ms) (one_line d) (one_line_of_members true ms)))

-- ---- the first of some bytes

pub first_at : (p : ℕ → Bool) (front rest : List ℕ) (y : ℕ) → list_any p front ≡ false → p y ≡ true → position_or_len p (front ++ y ∷ rest) ≡ length front
first_at p [] rest y none is = rw is refl
first_at p (x ∷ front) rest y none is = by (p x) refl (first_at p front rest y)
  where
    by : (b : Bool) → p x ≡ b → (list_any p front ≡ false → p y ≡ true → position_or_len p (front ++ y ∷ rest) ≡ length front)
        → position_or_len p ((x ∷ front) ++ y ∷ rest) ≡ length (x ∷ front)
    by true e later = absurd (let wrong : list_any p (x ∷ front) ≡ true = rw e refl in cc)
    by false e later =
        let more : list_any p front ≡ false = sym (rw e refl) ∙ none in
        rw e (omega (arith, later more is))

pub found_at : (p : ℕ → Bool) (front rest : List ℕ) (y : ℕ) → list_any p front ≡ false → p y ≡ true → position p (front ++ y ∷ rest) ≡ Some (length front)
found_at p front rest y none is =
    let at : position_or_len p (front ++ y ∷ rest) ≡ length front = first_at p front rest y none is in
    let within : nat_lt (length front) (length (front ++ y ∷ rest)) ≡ true = grind (arith, nat_tests, length-append front (y ∷ rest)) in
    rw at (rw within refl)

pub nth_after : (front rest : List ℕ) (k : ℕ) → slice_get (front ++ rest) (length front + k) ≡ slice_get rest k
nth_after [] rest k = ap (λ (n : ℕ). slice_get rest n) (let z : 0 + k ≡ k = omega arith in z)
nth_after (x ∷ front) rest k =
    let next : length (x ∷ front) + k ≡ suc (length front + k) = omega arith in
    ap (λ (n : ℕ). slice_get (x ∷ front ++ rest) n) next ∙ nth_after front rest k
