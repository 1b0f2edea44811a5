-- The position after bytes, byte by byte.
use Rattle.std.proofs.Common.{ℕ, ◌≡◌, ◌+◌, ◌≤◌, Bool, true, false, not, ◌&&◌, cond, IsTrue, List, [], ◌∷◌, ◌++◌, length, fold, reverse, inl, inr, refl, sym, ap, ◌∙◌, arith, append_assoc, append-nil, length-append, add-zero}
use Rattle.std.specs.List.{take_while, count_by, list_all}
use Rattle.std.proofs.lemmas.Bool.{and_parts, cases_Bool}
use Rattle.std.proofs.lemmas.List.{reverse-append, length-reverse}
use Rattle.std.proofs.lemmas.List.Sums.{sum_by-append, sum_by-cons, count_by-le-length, take_while-cons, prefix_len-le-length}
use Rattle.std.proofs.lemmas.List.Folds.{length-prefix_len}
use Rattle.ob_lexer.specs.declared.position.Position.{Position}
use Rattle.ob_lexer.specs.Spans.{is_newline, begins_character, newlines, back_to_newline, line_after, column_after}
use Rattle.ob_lexer.specs.Lexing.{past, along, position_after}

abbrev is_on : ℕ → Bool
is_on b = not (is_newline b)

back-more : (before : List ℕ) (b : ℕ) → back_to_newline (before ++ b ∷ []) ≡ cond (not (is_newline b)) (b ∷ back_to_newline before) []
back-more before b =
    ap (take_while is_on) (reverse-append before (b ∷ [])) ∙ take_while-cons is_on b (reverse before)

newlines-more : (before : List ℕ) (b : ℕ) → newlines (before ++ b ∷ []) ≡ newlines before + cond (is_newline b) 1 0
newlines-more before b = omega (arith, sum_by-append (λ c. cond (is_newline c) 1 0) before (b ∷ []))

characters-cons : (b : ℕ) (bytes : List ℕ) → count_by begins_character (b ∷ bytes) ≡ cond (begins_character b) 1 0 + count_by begins_character bytes
characters-cons b bytes = sum_by-cons (λ c. cond (begins_character c) 1 0) b bytes

-- the column after a byte that is no newline
column-more : (before : List ℕ) (b : ℕ) → is_newline b ≡ false → column_after (before ++ b ∷ []) ≡ column_after before + cond (begins_character b) 1 0
column-more before b isnt =
    let back : back_to_newline (before ++ b ∷ []) ≡ b ∷ back_to_newline before = rw isnt at (back-more before b) in
    omega (arith, ap (count_by begins_character) back, characters-cons b (back_to_newline before))

past-position : (before : List ℕ) (b : ℕ) → past (position_after before) b ≡ position_after (before ++ b ∷ [])
past-position before b = elim (cases_Bool (is_newline b)) [
  | inl is ↦
      let offset : length before + 1 ≡ length (before ++ b ∷ []) = omega (arith, length-append before (b ∷ [])) in
      let line : line_after before + 1 ≡ line_after (before ++ b ∷ []) = rw (newlines-more before b, is) (omega arith) in
      let column : 1 ≡ column_after (before ++ b ∷ []) = rw (back-more before b, is) refl in
      rw is (λ i. record { offset = offset i; line = line i; column = column i })
  | inr isnt ↦
      let offset : length before + 1 ≡ length (before ++ b ∷ []) = omega (arith, length-append before (b ∷ [])) in
      let line : line_after before ≡ line_after (before ++ b ∷ []) = rw (newlines-more before b, isnt) (omega arith) in
      elim (cases_Bool (begins_character b)) [
        | inl begins ↦
            let column : column_after before + 1 ≡ column_after (before ++ b ∷ []) = rw begins at (sym (column-more before b isnt)) in
            rw (isnt, begins) (λ i. record { offset = offset i; line = line i; column = column i })
        | inr inside ↦
            let column : column_after before ≡ column_after (before ++ b ∷ []) = omega (arith, rw inside at (column-more before b isnt)) in
            rw (isnt, inside) (λ i. record { offset = offset i; line = line i; column = column i })
      ]
]

pub fold-past : (before bytes : List ℕ) → fold past (position_after before) bytes ≡ position_after (before ++ bytes)
fold-past before [] = ap position_after (sym (append-nil before))
fold-past before (b ∷ bytes) =
    ap (λ (p : Position). fold past p bytes) (past-position before b) ∙ fold-past (before ++ b ∷ []) bytes ∙ ap position_after (append_assoc before (b ∷ []) bytes)

pub line_within : (before : List ℕ) → line_after before ≤ length before + 1
line_within before = omega (arith, count_by-le-length is_newline before)

back_within : (before : List ℕ) → length (back_to_newline before) ≤ length before
back_within before =
    omega (arith, length-prefix_len is_on (reverse before), prefix_len-le-length is_on (reverse before), length-reverse before)

pub column_within : (before : List ℕ) → column_after before ≤ length before + 1
column_within before =
    omega (arith, count_by-le-length begins_character (back_to_newline before), back_within before)

-- ---- characters of one byte on one line

-- a byte that is a character, and no newline
abbrev pub is_plain : ℕ → Bool
is_plain b = begins_character b && not (is_newline b)

past-plain : (p : Position) (b : ℕ) → is_plain b ≡ true → past p b ≡ along p 1
past-plain p b plain =
    let parts = and_parts (begins_character b) (not (is_newline b)) plain in
    let isnt : is_newline b ≡ false = elim (cases_Bool (is_newline b)) [
      | inl is ↦ let no : false ≡ true = rw is at parts.1 in absurd cc
      | inr isnt ↦ isnt
    ] in
    rw (isnt, parts.0) refl

pub fold-plain : (p : Position) (bytes : List ℕ) → IsTrue (list_all is_plain bytes) → fold past p bytes ≡ along p (length bytes)
fold-plain p [] plain = λ i. record { offset = sym (add-zero p.offset) i; line = p.line; column = sym (add-zero p.column) i }
fold-plain p (b ∷ bytes) plain =
    let parts = and_parts (is_plain b) (list_all is_plain bytes) plain in
    let first : past p b ≡ along p 1 = past-plain p b parts.0 in
    let offset : (p.offset + 1) + length bytes ≡ p.offset + length (b ∷ bytes) = omega arith in
    let column : (p.column + 1) + length bytes ≡ p.column + length (b ∷ bytes) = omega arith in
    ap (λ (q : Position). fold past q bytes) first ∙ fold-plain (along p 1) bytes parts.1 ∙ (λ i. record { offset = offset i; line = p.line; column = column i })
