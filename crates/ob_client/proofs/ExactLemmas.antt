-- The text of an exact value is read as that value.
use Rattle.std.proofs.Common.{◌≡◌, ℕ, suc, ◌<◌, ◌≤◌, ◌^◌, pos, negsuc, Bool, true, false, List, [], ◌∷◌, ◌++◌, Option, Some, refl, sym, ap, ap₂, ◌∙◌, subst, arith, append-nil, max}
use Rattle.std.specs.Prelude.{option_map, option_and_then, codes, drop, cond, decimal, ◌==◌}
use Rattle.std.specs.Str.Parse.{AllDigits}
use Rattle.std.proofs.lemmas.Bool.{ne_eqb}
use Rattle.std.proofs.lemmas.Fmt.{decimal_is_IsNumeral, IsAscii-decimal}
use Rattle.std.proofs.lemmas.Str.Parse.{digit_at}
use Rattle.std.specs.Str.{IsUtf8}
use Rattle.std.proofs.lemmas.Str.{IsUtf8-append, IsUtf8-from_is_utf8, IsUtf8-from_ascii}
use Rattle.json.specs.Token.{Token}
use Rattle.json.specs.Lex.{tokens}
use Rattle.json.specs.Print.{quoted, IsNumber}
use Rattle.json.specs.Word.{head, after_whole, after_fraction, after_exponent, after_number}
use Rattle.json.specs.Json as json
use Rattle.json.specs.Tree as tree
use Rattle.json.specs.Tree.{json_tokens, HasNumbers, ItemsHaveNumbers, MembersHaveNumbers}
use Rattle.json.proofs.Printed.Decimals.{IsNumber-decimal}
use Rattle.json.proofs.Printed.Tokens.{tokens-print}
use Rattle.json.proofs.Printed.Trees.{value-json_tokens, ArePrintable-json_tokens}
use Rattle.json.proofs.Printed.Utf8.{are_ascii, IsUtf8-are_ascii, IsUtf8-quoted, IsUtf8-boolean}
use Rattle.serde_json.specs.Data.{Num, unsigned, negative, float, Data, null, boolean, number, string, array, object, Items, no_items, item, Members, no_members, member, put, depth, items_depth, members_depth}
use Rattle.serde_json.specs.Read.{read, number_of, of_json, of_items, of_members, max_depth}
use Rattle.serde_json.specs.Written.{number_text, outline, items_outline, members_outline, comma_if, compact_text, items_text, members_text}
use Rattle.serde_json.proofs.Numbers.{number_of-decimal, number_of-negative}
use Rattle.serde_json.proofs.Texts.{print-outline}
use Rattle.ob_client.specs.Exact.{IsWhole, with_members, IsExact, AreExact, HasExact}
use Rattle.ob_client.proofs.NewlineLemmas.{tokens_with_newline}

number_again : (n : Num) → IsWhole n → number_of (number_text n) ≡ Some n
number_again (unsigned n) h = number_of-decimal n h
number_again (negative (pos n)) h = absurd h
number_again (negative (negsuc n)) h = number_of-negative n h
number_again (float x) h = absurd h

-- ---- the value of the tree

mutual
  value_again : (d : Data) → IsExact d → of_json (outline d) ≡ Some d
  value_again null h = refl
  value_again (boolean b) h = refl
  value_again (number n) h = ap (option_map number) (number_again n h)
  value_again (string s) h = refl
  value_again (array ds) h = ap (option_map array) (items_again ds h)
  value_again (object ms) h = ap (option_map object) (members_again ms no_members h.1 ∙ ap Some h.0)

  items_again : (ds : Items) → AreExact ds → of_items (items_outline ds) ≡ Some ds
  items_again no_items h = refl
  items_again (item d ds) h = rw (value_again d h.0, items_again ds h.1) refl

  members_again : (ms found : Members) → HasExact ms → of_members (members_outline ms) found ≡ Some (with_members found ms)
  members_again no_members found h = refl
  members_again (member k d ms) found h = rw (value_again d h.1) (members_again ms (put k d found) h.2)

-- ---- its numbers, and its depth

no_minus : (ds : List ℕ) → AllDigits 10 ds → (head ds == 45) ≡ false
no_minus [] h = refl
no_minus (d ∷ ds) h = ne_eqb d 45 (λ e. let bounds = digit_at (d ∷ ds) 0 h (omega arith) in omega (arith, bounds.0, e))

-- a number of JSON goes on as such after a minus
after_minus : (n : ℕ) → n < 2 ^ 64 → IsNumber (45 ∷ decimal n)
unfolding after_number
after_minus n h = ap (λ b. option_and_then after_exponent (option_and_then after_fraction (after_whole (cond b (drop 1 (decimal n)) (decimal n)))))
    (sym (no_minus (decimal n) (decimal_is_IsNumeral n h).0.1)) ∙ IsNumber-decimal n h

number_printed : (n : Num) → IsWhole n → HasNumbers (json.number (number_text n))
number_printed (unsigned n) h = IsNumber-decimal n h
number_printed (negative (pos n)) h = absurd h
number_printed (negative (negsuc n)) h = after_minus (suc n) (omega (arith, h))
number_printed (float x) h = absurd h

mutual
  numbers_printed : (d : Data) → IsExact d → HasNumbers (outline d)
  numbers_printed null h = tt
  numbers_printed (boolean b) h = tt
  numbers_printed (number n) h = number_printed n h
  numbers_printed (string s) h = tt
  numbers_printed (array ds) h = items_printed ds h
  numbers_printed (object ms) h = members_printed ms h.1

  items_printed : (ds : Items) → AreExact ds → ItemsHaveNumbers (items_outline ds)
  items_printed no_items h = tt
  items_printed (item d ds) h = (numbers_printed d h.0, items_printed ds h.1)

  members_printed : (ms : Members) → HasExact ms → MembersHaveNumbers (members_outline ms)
  members_printed no_members h = tt
  members_printed (member k d ms) h = (numbers_printed d h.1, members_printed ms h.2)

mutual
  same_depth : (d : Data) → tree.depth (outline d) ≡ depth d
  same_depth null = refl
  same_depth (boolean b) = refl
  same_depth (number n) = refl
  same_depth (string s) = refl
  same_depth (array ds) = ap suc (same_items_depth ds)
  same_depth (object ms) = ap suc (same_members_depth ms)

  same_items_depth : (ds : Items) → tree.items_depth (items_outline ds) ≡ items_depth ds
  same_items_depth no_items = refl
  same_items_depth (item d ds) = ap₂ max (same_depth d) (same_items_depth ds)

  same_members_depth : (ms : Members) → tree.members_depth (members_outline ms) ≡ members_depth ms
  same_members_depth no_members = refl
  same_members_depth (member k d ms) = ap₂ max (same_depth d) (same_members_depth ms)

-- ---- the text

-- the value of what was parsed, if nothing is left
abbrev whole : Option (json.Json × List Token) → Option Data
whole parsed = option_and_then of_json (option_and_then (λ p. json.if_last p.0 p.1) parsed)

read_tokens : (d : Data) (text : List ℕ) → IsExact d → depth d ≤ max_depth → tokens text ≡ json_tokens (outline d) → read text ≡ Some d
read_tokens d text h shallow same =
    ap whole (ap (json.value max_depth) (same ∙ sym (append-nil _)) ∙ value-json_tokens (outline d) max_depth [] (subst (λ n. n ≤ max_depth) (sym (same_depth d)) shallow))
    ∙ value_again d h

pub read_again : (d : Data) → IsExact d → depth d ≤ max_depth → read (compact_text d) ≡ Some d
read_again d h shallow =
    read_tokens d (compact_text d) h shallow
    (ap tokens (sym (print-outline d)) ∙ tokens-print _ (ArePrintable-json_tokens (outline d) (numbers_printed d h)))

pub read_line_again : (d : Data) → IsExact d → depth d ≤ max_depth → read (compact_text d ++ codes "\n") ≡ Some d
read_line_again d h shallow =
    read_tokens d (compact_text d ++ codes "\n") h shallow
    (ap (λ text. tokens (text ++ codes "\n")) (sym (print-outline d)) ∙ tokens_with_newline _ (ArePrintable-json_tokens (outline d) (numbers_printed d h)))

-- ---- the text is UTF-8

ascii : (text : List ℕ) → are_ascii text ≡ true → IsUtf8 text
ascii = IsUtf8-are_ascii

number_utf8 : (n : Num) → IsWhole n → IsUtf8 (number_text n)
number_utf8 (unsigned n) h = IsUtf8-from_ascii (decimal n) (IsAscii-decimal n h)
number_utf8 (negative (pos n)) h = absurd h
number_utf8 (negative (negsuc n)) h =
    IsUtf8-append (45 ∷ []) _ (ascii _ refl) (IsUtf8-from_ascii (decimal (suc n)) (IsAscii-decimal (suc n) (omega (arith, h))))
number_utf8 (float x) h = absurd h

comma_utf8 : (later : Bool) → IsUtf8 (comma_if later)
comma_utf8 true = ascii _ refl
comma_utf8 false = ascii _ refl

mutual
  pub text_utf8 : (d : Data) → IsExact d → IsUtf8 (compact_text d)
  text_utf8 null h = ascii _ refl
  text_utf8 (boolean b) h = IsUtf8-boolean b
  text_utf8 (number n) h = number_utf8 n h
  text_utf8 (string s) h = IsUtf8-quoted s (IsUtf8-from_is_utf8 s h)
  text_utf8 (array ds) h = IsUtf8-append (91 ∷ []) _ (ascii _ refl) (items_utf8 false ds h)
  text_utf8 (object ms) h = IsUtf8-append (123 ∷ []) _ (ascii _ refl) (members_utf8 false ms h.1)

  items_utf8 : (later : Bool) (ds : Items) → AreExact ds → IsUtf8 (items_text later ds)
  items_utf8 later no_items h = ascii _ refl
  items_utf8 later (item d ds) h =
      IsUtf8-append (comma_if later) _ (comma_utf8 later) (IsUtf8-append (compact_text d) _ (text_utf8 d h.0) (items_utf8 true ds h.1))

  members_utf8 : (later : Bool) (ms : Members) → HasExact ms → IsUtf8 (members_text later ms)
  members_utf8 later no_members h = ascii _ refl
  members_utf8 later (member k d ms) h =
      IsUtf8-append (comma_if later) _ (comma_utf8 later) (IsUtf8-append (quoted k) _ (IsUtf8-quoted k (IsUtf8-from_is_utf8 k h.0))
      (IsUtf8-append (58 ∷ []) _ (ascii _ refl) (IsUtf8-append (compact_text d) _ (text_utf8 d h.1) (members_utf8 true ms h.2))))
