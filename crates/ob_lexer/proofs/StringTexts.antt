-- What stands between quotes is UTF-8 where the text is, and so is what it represents.
use Rattle.std.proofs.Common.{ℕ, ◌≡◌, ◌+◌, ◌<◌, ◌≤◌, ◌==◌, nat_le, Bool, true, false, cond, List, [], ◌∷◌, ◌++◌, length, map, get_or, Option, Some, None, inl, inr, refl, sym, ap, subst, ◌∙◌, arith, add-one, append-nil, length-append}
use Rattle.std.specs.List.{flat_map}
use Rattle.std.specs.Char.{encode_utf8, IsScalar}
use Rattle.std.specs.Str.{IsUtf8, is_utf8, all_scalars, encode_utf8_all}
use Rattle.std.proofs.lemmas.Bool.{cases_Bool, cases_lt, and_parts, and_from, eqb-true, le-leb, lt-ltb}
use Rattle.std.proofs.lemmas.Str.{IsUtf8-append, IsUtf8-nil, IsUtf8-encode, IsUtf8-take, IsUtf8-drop, is_utf8-from_IsUtf8, IsCharBoundary-before_ascii, IsCharBoundary-after_ascii, encode_ascii, inside_one, char_from_byte}
use Rattle.std.proofs.Math.Seq.{take-append_seam, drop-append-add, get_or-append_seam}
use Rattle.ob_base.specs.Limits.{longest_string}
use lib.Utf8.{scalar}
use Rattle.ob_base.specs.Names.{is_text}
use Rattle.ob_lexer.specs.Spelling.{escaped, StringPart, itself, escape, AreParts, spelling_of_part, value_of_part, SpellsContent}

-- ---- what an escape represents is ASCII, and so is its letter

abbrev IsLow : ℕ → ℕ → Type 0
IsLow letter value = (letter < 128) × (value < 128)

low_row : (letter n v value : ℕ) (below : Option ℕ) → n < 128 → v < 128 → (below ≡ Some value → IsLow letter value) → cond (letter == n) (Some v) below ≡ Some value → IsLow letter value
low_row letter n v value below low_n low_v there e = elim (cases_Bool (letter == n)) [
  | inl is ↦
      let some : Some v ≡ Some value = rw is at e in
      let same : v ≡ value = cc in
      let first : letter ≡ n = eqb-true letter n is in
      (omega arith, omega arith)
  | inr isnt ↦ there (rw isnt at e)
]

escape_low : (letter value : ℕ) → escaped letter ≡ Some value → IsLow letter value
escape_low letter value =
    low_row letter 34 34 value _ (omega arith) (omega arith) (low_row letter 92 92 value _ (omega arith) (omega arith) (low_row letter 110 10 value _ (omega arith) (omega arith) (low_row letter 116 9 value None (omega arith) (omega arith) (λ e. absurd cc))))

-- ---- a character of several bytes represents itself

abbrev AreHigh : List ℕ → Type 0
AreHigh [] = Unit {0}
AreHigh (b ∷ bytes) = (128 ≤ b) × AreHigh bytes

-- The parts after such bytes, and what all of them represent.
record PartsAfter (bytes rest : List ℕ) (parts : List StringPart) : Type 0 where
  after : List StringPart
  are : AreParts after
  spelled : rest ≡ flat_map spelling_of_part after
  means : map value_of_part parts ≡ bytes ++ map value_of_part after

peel : (bytes rest : List ℕ) (parts : List StringPart) → AreHigh bytes → AreParts parts → bytes ++ rest ≡ flat_map spelling_of_part parts → PartsAfter bytes rest parts
peel [] rest parts high are e = record { after = parts; are = are; spelled = e; means = refl }
peel (b ∷ bytes) rest [] high are e = absurd cc
peel (b ∷ bytes) rest (itself c ∷ parts) high are e =
    let first : b ≡ c = cc in
    let others : bytes ++ rest ≡ flat_map spelling_of_part parts = cc in
    let r = peel bytes rest parts high.1 are.1 others in
    let front : c ∷ map value_of_part parts ≡ b ∷ map value_of_part parts = cc in
    record { after = r.after; are = r.are; spelled = r.spelled; means = front ∙ ap (λ (l : List ℕ). b ∷ l) r.means }
peel (b ∷ bytes) rest (escape letter value ∷ parts) high are e =
    let first : b ≡ 92 = cc in
    absurd (omega (arith, high.0))

high_from : (xs : List ℕ) → ((k : ℕ) → k < length xs → 128 ≤ get_or xs k 0) → AreHigh xs
high_from [] h = tt
high_from (x ∷ xs) h = (h 0 (omega arith), high_from xs (λ k lt. let at : 128 ≤ get_or (x ∷ xs) (k + 1) 0 = h (k + 1) (omega arith) in rw add-one at at))

encode_high : (c : ℕ) → 128 ≤ c → AreHigh (encode_utf8 c)
encode_high c high = high_from (encode_utf8 c) (λ k lt. elim (cases_lt (get_or (encode_utf8 c) k 0) 128) [
  | inl low ↦
      let same : c ≡ get_or (encode_utf8 c) k 0 = inside_one c [] (encode_utf8 c) k (sym (append-nil (encode_utf8 c))) lt low in
      absurd (omega arith)
  | inr is ↦ is
])

-- ---- the content

-- These bytes spell the parts, but for a backslash at their front.
abbrev IsSpelled : Bool → List ℕ → List StringPart → Type 0
IsSpelled false bytes parts = bytes ≡ flat_map spelling_of_part parts
IsSpelled true bytes [] = ⊥
IsSpelled true bytes (itself b ∷ parts) = ⊥
IsSpelled true bytes (escape letter value ∷ parts) = bytes ≡ letter ∷ flat_map spelling_of_part parts

-- One byte of parts: it represents itself, or is a backslash.
data ByteOf (c : ℕ) (rest : List ℕ) (parts : List StringPart) : Type 0 where
  is_itself : (after : List StringPart) → AreParts after → IsSpelled false rest after → map value_of_part parts ≡ c ∷ map value_of_part after → ByteOf c rest parts
  is_backslash : IsSpelled true rest parts → ByteOf c rest parts

byte_of : (c : ℕ) (rest : List ℕ) (parts : List StringPart) → AreParts parts → c ∷ rest ≡ flat_map spelling_of_part parts → ByteOf c rest parts
byte_of c rest [] are e = absurd cc
byte_of c rest (itself b ∷ parts) are e =
    let first : b ≡ c = cc in
    let others : rest ≡ flat_map spelling_of_part parts = cc in
    is_itself parts are.1 others (ap (λ (x : ℕ). x ∷ map value_of_part parts) first)
byte_of c rest (escape letter value ∷ parts) are e =
    let others : rest ≡ letter ∷ flat_map spelling_of_part parts = cc in
    is_backslash others

one_byte : (b : ℕ) → b < 128 → IsUtf8 (b ∷ [])
one_byte b low =
    let small : b < 55296 = omega arith in
    let is : IsScalar b = rw (lt-ltb b 55296 small) refl in
    subst IsUtf8 (encode_ascii b low) (IsUtf8-encode b is)

-- the character that begins with a byte of ASCII
low_character : (c letter : ℕ) (rest others : List ℕ) → letter < 128 → encode_utf8 c ++ rest ≡ letter ∷ others → (c ≡ letter) × (rest ≡ others)
low_character c letter rest others low e =
    let same : c ≡ letter = char_from_byte (letter ∷ others) rest c (sym e) low (omega arith) in
    let ascii : encode_utf8 c ≡ c ∷ [] = encode_ascii c (rw same low) in
    let whole : c ∷ rest ≡ letter ∷ others = ap (λ (l : List ℕ). l ++ rest) (sym ascii) ∙ e in
    (same, cc)

content_of_parts : (cs : List ℕ) (backslash : Bool) (parts : List StringPart) → all_scalars cs ≡ true → AreParts parts → IsSpelled backslash (encode_utf8_all cs) parts → IsUtf8 (map value_of_part parts)
content_of_parts [] false [] scalars are e = IsUtf8-nil
content_of_parts [] false (itself b ∷ parts) scalars are e = absurd cc
content_of_parts [] false (escape letter value ∷ parts) scalars are e = absurd cc
content_of_parts [] true [] scalars are e = absurd e
content_of_parts [] true (itself b ∷ parts) scalars are e = absurd e
content_of_parts [] true (escape letter value ∷ parts) scalars are e = absurd cc
content_of_parts (c ∷ cs) false parts scalars are e =
    let both = and_parts (scalar c) (all_scalars cs) scalars in
    elim (cases_lt c 128) [
      | inl low ↦
          let whole : c ∷ encode_utf8_all cs ≡ flat_map spelling_of_part parts = ap (λ (l : List ℕ). l ++ encode_utf8_all cs) (sym (encode_ascii c low)) ∙ e in
          elim (byte_of c (encode_utf8_all cs) parts are whole) [
            | is_itself after others spelled means ↦
                rw means (IsUtf8-append (c ∷ []) (map value_of_part after) (one_byte c low) (content_of_parts cs false after both.1 others spelled))
            | is_backslash spelled ↦ content_of_parts cs true parts both.1 are spelled
          ]
      | inr high ↦
          let r = peel (encode_utf8 c) (encode_utf8_all cs) parts (encode_high c high) are e in
          rw r.means (IsUtf8-append (encode_utf8 c) (map value_of_part r.after) (IsUtf8-encode c both.0) (content_of_parts cs false r.after both.1 r.are r.spelled))
    ]
content_of_parts (c ∷ cs) true [] scalars are e = absurd e
content_of_parts (c ∷ cs) true (itself b ∷ parts) scalars are e = absurd e
content_of_parts (c ∷ cs) true (escape letter value ∷ parts) scalars are e =
    let both = and_parts (scalar c) (all_scalars cs) scalars in
    let low = escape_low letter value are.0 in
    let r = low_character c letter (encode_utf8_all cs) (flat_map spelling_of_part parts) low.0 e in
    IsUtf8-append (value ∷ []) (map value_of_part parts) (one_byte value low.1) (content_of_parts cs false parts both.1 are.1 r.1)

-- what stands before a quote in a text is UTF-8
before_quote : (inside rest : List ℕ) → IsUtf8 (inside ++ 34 ∷ rest) → IsUtf8 inside
before_quote inside rest utf8 =
    let at : get_or (inside ++ 34 ∷ rest) (length inside) 0 ≡ 34 = get_or-append_seam inside 34 rest 0 in
    let within : length inside < length (inside ++ 34 ∷ rest) = omega (arith, length-append inside (34 ∷ rest)) in
    let cut = IsCharBoundary-before_ascii (inside ++ 34 ∷ rest) (length inside) within (omega arith) in
    subst IsUtf8 (take-append_seam inside (34 ∷ rest)) (IsUtf8-take (inside ++ 34 ∷ rest) (length inside) utf8 cut)

-- and so is what stands after one
pub after_quote : (before rest : List ℕ) → IsUtf8 (before ++ 34 ∷ rest) → IsUtf8 rest
after_quote before rest utf8 =
    let at : get_or (before ++ 34 ∷ rest) (length before) 0 ≡ 34 = get_or-append_seam before 34 rest 0 in
    let within : length before < length (before ++ 34 ∷ rest) = omega (arith, length-append before (34 ∷ rest)) in
    let cut = IsCharBoundary-after_ascii (before ++ 34 ∷ rest) (length before) utf8 within (omega arith) in
    subst IsUtf8 (drop-append-add before (34 ∷ rest) 1) (IsUtf8-drop (before ++ 34 ∷ rest) (length before + 1) utf8 cut)

-- The content of a string in a text is a text, if it isn't too long.
pub content_is_text : (inside content rest : List ℕ) → IsUtf8 (inside ++ 34 ∷ rest) → SpellsContent inside content → length content ≤ longest_string → is_text content ≡ true
content_is_text inside content rest utf8 stands short =
    let u = before_quote inside rest utf8 in
    let text : IsUtf8 content = rw stands.means (content_of_parts u.0 false stands.parts u.1.0 stands.are (u.1.1 ∙ stands.spelled)) in
    and_from (nat_le (length content) longest_string) (is_utf8 content) (le-leb (length content) longest_string short) (is_utf8-from_IsUtf8 content text)
