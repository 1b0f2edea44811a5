-- What a step of the lexer answers is at the text's front: blanks, words, numbers, comments and signs.
use Rattle.std.proofs.Common.{ℕ, suc, pos, ◌≡◌, ◌+◌, ◌<◌, ◌≤◌, ◌^◌, ◌==◌, nat_le, nat_lt, true, false, cond, List, [], ◌∷◌, ◌++◌, length, take, drop, get_or, codes, Option, Some, None, IsTrue, ◌⊎◌, inl, inr, refl, sym, ap, subst, ◌∙◌, arith, add-one, append_assoc, append-nil, length-append}
use Rattle.std.specs.List.{list_all, prefix_len, take_while}
use Rattle.std.proofs.lemmas.Bool.{and_from, and_cases, both_ways, cases_Bool, eqb-true, eq-eqb, leb-false, le-leb, ltb-true, ltb-false}
use Rattle.std.proofs.lemmas.List.Sums.{prefix_len-le-length}
use Rattle.std.proofs.Math.Seq.{take-append_seam, drop-append_seam}
use Rattle.ob_base.specs.Limits.{longest_name}
use Rattle.ob_base.specs.Names.{is_letter, is_digit, is_letter_or_digit, begins_with_letter, is_word, is_name}
use Rattle.ob_base.specs.Faults as faults
use Rattle.ob_lexer.specs.declared.token.TokenKind.TheVariants as kind
use Rattle.ob_lexer.specs.declared.token.Word.{Word}
use Rattle.ob_lexer.specs.declared.token.Sign.{Sign}
use Rattle.ob_lexer.specs.declared.token.Sign.TheVariants as sign
use Rattle.ob_lexer.specs.declared.bytes.Class.TheVariants as class
use Rattle.ob_lexer.specs.declared.step.Step.TheVariants.{Gap, Token, Flaw}
use Rattle.ob_lexer.specs.Spelling.{spelling_of_sign, is_digits, value_of_digits}
use Rattle.ob_lexer.specs.Lexis.{is_blank, HasClose, IsLineComment, IsBlockComment, IsLexeme, IsLongest, Element, space, comment, token, IsElement, of_line, of_block}
use Rattle.ob_lexer.specs.Flaws.{Begins, first_character, bad_character, open_comment, big_number, long_name}
use Rattle.ob_lexer.specs.Lexing.{class_of, or_else, word_of, word_step, number_step, close_of, is_no_newline, slash_step, pair_of, single_of, pair_at, goes_on, sign_step}
use Rattle.ob_lexer.specs.Reading.{IsPieceAt, IsFlawAt, IsStepAt}
use Rattle.ob_lexer.proofs.Reserved.{word_of-Some, word_of-None}
use Rattle.ob_lexer.proofs.Runs.{Stops, run, take_while-first, fails_past, stops_at}
use Rattle.ob_lexer.proofs.SignLemmas.{IsShaped, one, two, slash, shape, single_spelled, pair_spelled}
use Rattle.ob_lexer.proofs.FirstBytes.{InClass, in_known, lexeme_some, class-blank, class-letter, class-digit}
use Rattle.ob_lexer.proofs.Longest.{blank_longest, word_longest, digits_longest, pair_longest, single_longest, longest_in}
use Rattle.ob_lexer.proofs.Comments.{close_some, close_none}

pub piece_at : (text bytes rest : List ℕ) (e : Element) (n : ℕ) → text ≡ bytes ++ rest → n ≡ length bytes → 1 ≤ n → IsElement e bytes → IsLongest bytes rest → IsPieceAt text e n
piece_at text bytes rest e n parts count some is longest =
    let front : take n text ≡ bytes = ap (take n) parts ∙ ap (λ (m : ℕ). take m (bytes ++ rest)) count ∙ take-append_seam bytes rest in
    let back : drop n text ≡ rest = ap (drop n) parts ∙ ap (λ (m : ℕ). drop m (bytes ++ rest)) count ∙ drop-append_seam bytes rest in
    record {
      some = some;
      within = omega (arith, ap length parts, length-append bytes rest, count);
      is = subst (IsElement e) (sym front) is;
      longest = rw (front, back) longest;
    }

-- a fault at the text's first byte
pub flaw_at_first : (b : ℕ) (rest : List ℕ) (number : ℕ) → Begins (b ∷ rest) (record { number = number; before = []; bytes = b ∷ [] }) → IsFlawAt (b ∷ rest) number 0 1
flaw_at_first b rest number begins = record { within = omega arith; begins = begins }

-- ---- a blank

pub blank_step : (b : ℕ) (rest : List ℕ) → is_blank b ≡ true → IsStepAt (b ∷ rest) (Gap 1)
blank_step b rest is =
    (space, tt, piece_at (b ∷ rest) (b ∷ []) rest space 1 refl refl (omega arith) (record { byte = b; one = refl; blank = is }) (blank_longest b rest (class-blank b is)))

-- ---- a word

-- The text begins with these bytes, and no longer lexeme.
record Leads (text bytes rest : List ℕ) : Type 0 where
  parts : text ≡ bytes ++ rest
  some : 1 ≤ length bytes
  longest : IsLongest bytes rest

letter_goes_on : (b : ℕ) → is_letter b ≡ true → is_letter_or_digit b ≡ true
letter_goes_on b is = rw is refl

some_bytes : (b : ℕ) (bytes more : List ℕ) → bytes ≡ b ∷ more → 1 ≤ length bytes
some_bytes b bytes more e = let count : length bytes ≡ suc (length more) = ap length e in omega (arith, count)

word_leads : (b : ℕ) (rest : List ℕ) → is_letter b ≡ true
    → let w = take_while is_letter_or_digit (b ∷ rest) in IsTrue (is_word w) × Leads (b ∷ rest) w (drop (prefix_len is_letter_or_digit (b ∷ rest)) (b ∷ rest))
word_leads b rest letter =
    let w = take_while is_letter_or_digit (b ∷ rest) in
    let after = drop (prefix_len is_letter_or_digit (b ∷ rest)) (b ∷ rest) in
    let r = run is_letter_or_digit (b ∷ rest) in
    let first = take_while-first is_letter_or_digit b rest (letter_goes_on b letter) in
    let begins : begins_with_letter w ≡ true = ap begins_with_letter first ∙ letter in
    let is : IsTrue (is_word w) = and_from (begins_with_letter w) (list_all is_letter_or_digit w) begins r.passes in
    let longest : IsLongest w after = subst (λ (l : List ℕ). IsLongest l after) (sym first) (word_longest b (take_while is_letter_or_digit rest) after (class-letter b letter) r.stops) in
    (is, record { parts = r.parts; some = some_bytes b w (take_while is_letter_or_digit rest) first; longest = longest })

long_word : (bytes : List ℕ) → IsTrue (is_word bytes) → is_name bytes ≡ false → longest_name < length bytes
long_word bytes is isnt = elim (and_cases (nat_le (length bytes) longest_name) (is_word bytes) isnt) [
  | inl long ↦ leb-false (length bytes) longest_name long
  | inr no_word ↦ absurd (both_ways (is_word bytes) no_word is)
]

word_case : (b : ℕ) (rest w after : List ℕ) → IsTrue (is_word w) → Leads (b ∷ rest) w after → (o : Option Word) → word_of w ≡ o
    → IsStepAt (b ∷ rest) (or_else o (cond (is_name w) (Token (kind.Name w) (length w)) (Flaw faults.long_name 0 1)) (λ v. Token (kind.Word v) (length w)))
word_case b rest w after is l (Some v) e = piece_at (b ∷ rest) w after (token (kind.Word v)) (length w) l.parts refl l.some (word_of-Some w v e) l.longest
word_case b rest w after is l None e = elim (cases_Bool (is_name w)) [
  | inl name ↦ rw name (piece_at (b ∷ rest) w after (token (kind.Name w)) (length w) l.parts refl l.some (refl, name, word_of-None w e) l.longest)
  | inr long ↦ rw long (flaw_at_first b rest faults.long_name (long_name w after l.parts is l.longest (long_word w is long) refl))
]

pub word_step_at : (b : ℕ) (rest : List ℕ) → is_letter b ≡ true → IsStepAt (b ∷ rest) (word_step (take_while is_letter_or_digit (b ∷ rest)))
word_step_at b rest letter =
    let w = take_while is_letter_or_digit (b ∷ rest) in
    let l = word_leads b rest letter in
    word_case b rest w (drop (prefix_len is_letter_or_digit (b ∷ rest)) (b ∷ rest)) l.0 l.1 (word_of w) refl

-- ---- a number

digits_lead : (b : ℕ) (rest : List ℕ) → is_digit b ≡ true
    → let d = take_while is_digit (b ∷ rest) in IsTrue (is_digits d) × Leads (b ∷ rest) d (drop (prefix_len is_digit (b ∷ rest)) (b ∷ rest))
digits_lead b rest digit =
    let d = take_while is_digit (b ∷ rest) in
    let after = drop (prefix_len is_digit (b ∷ rest)) (b ∷ rest) in
    let r = run is_digit (b ∷ rest) in
    let first = take_while-first is_digit b rest digit in
    let some = some_bytes b d (take_while is_digit rest) first in
    let is : IsTrue (is_digits d) = and_from (nat_le 1 (length d)) (list_all is_digit d) (le-leb 1 (length d) some) r.passes in
    let longest : IsLongest d after = subst (λ (l : List ℕ). IsLongest l after) (sym first) (digits_longest b (take_while is_digit rest) after (class-digit b digit) r.stops) in
    (is, record { parts = r.parts; some = some; longest = longest })

number_case : (b : ℕ) (rest d after : List ℕ) → IsTrue (is_digits d) → Leads (b ∷ rest) d after → IsStepAt (b ∷ rest) (number_step d)
number_case b rest d after is l = elim (cases_Bool (nat_lt (value_of_digits d) (2 ^ 63))) [
  | inl small ↦ rw small (piece_at (b ∷ rest) d after (token (kind.Number (pos (value_of_digits d)))) (length d) l.parts refl l.some (is, refl, ltb-true (value_of_digits d) (2 ^ 63) small) l.longest)
  | inr large ↦ rw large (flaw_at_first b rest faults.big_number (big_number d after l.parts is l.longest (ltb-false (value_of_digits d) (2 ^ 63) large) refl))
]

pub number_step_at : (b : ℕ) (rest : List ℕ) → is_digit b ≡ true → IsStepAt (b ∷ rest) (number_step (take_while is_digit (b ∷ rest)))
number_step_at b rest digit =
    let l = digits_lead b rest digit in
    number_case b rest (take_while is_digit (b ∷ rest)) (drop (prefix_len is_digit (b ∷ rest)) (b ∷ rest)) l.0 l.1

-- ---- a comment, or `/`

first_of_both : {a b : List ℕ} → a ≡ b → get_or a 0 0 ≡ get_or b 0 0
first_of_both e = ap (λ (l : List ℕ). get_or l 0 0) e

second_of_both : {a b : List ℕ} → a ≡ b → get_or a 1 0 ≡ get_or b 1 0
second_of_both e = ap (λ (l : List ℕ). get_or l 1 0) e

line_inside : (inside : List ℕ) (m : ℕ) (more others : List ℕ) → codes "//" ++ (inside ++ m ∷ more) ≡ codes "//" ++ others → list_all is_no_newline others ≡ true → list_all is_no_newline (inside ++ m ∷ more) ≡ true
line_inside inside m more others e all =
    let same : inside ++ m ∷ more ≡ others = ap (drop 2) e in
    rw same all

line_no_more : (inside : List ℕ) (m : ℕ) (more : List ℕ) → is_no_newline m ≡ false → ¬ (InClass class.Slash 47 ((47 ∷ inside) ++ m ∷ more))
line_no_more inside m more stops (inl (inl none)) = cc
line_no_more inside m more stops (inl (inr mark)) = omega (arith, first_of_both mark)
line_no_more inside m more stops (inr (inl line)) =
    let all : list_all is_no_newline (inside ++ m ∷ more) ≡ true = line_inside inside m more line.inside line.marked line.on_line in
    fails_past is_no_newline inside m more stops all
line_no_more inside m more stops (inr (inr block)) =
    omega (arith, second_of_both block.marked)

-- a comment on a line goes on to the line's end
line_longest : (inside rest : List ℕ) → Stops is_no_newline rest → IsLongest (codes "//" ++ inside) rest
line_longest inside rest stops =
    longest_in class.Slash 47 (47 ∷ inside) rest refl (λ m more others parts is. line_no_more inside m more (stops_at is_no_newline rest m (more ++ others) stops parts) is)

-- of two fronts of one text, one goes on with the other
fronts : (a b c d : List ℕ) → a ++ b ≡ c ++ d → ((m : List ℕ) × (c ≡ a ++ m) × (b ≡ m ++ d)) ⊎ ((m : List ℕ) × (a ≡ c ++ m) × (d ≡ m ++ b))
fronts [] b c d e = inl (c, refl, e)
fronts (x ∷ a) b [] d e = inr (x ∷ a, refl, sym e)
fronts (x ∷ a) b (y ∷ c) d e =
    let first : x ≡ y = cc in
    let others : a ++ b ≡ c ++ d = cc in
    elim (fronts a b c d others) [
      | inl p ↦ inl (p.0, cc, p.2)
      | inr p ↦ inr (p.0, cc, p.2)
    ]

never_empty : (m more : List ℕ) (x : ℕ) → [] ≡ m ++ x ∷ more → ⊥
never_empty [] more x e = cc
never_empty (a ∷ m) more x e = cc

close_overlaps : (before inside m more : List ℕ) (x : ℕ) → before ++ codes "*/" ≡ inside ++ m → codes "*/" ≡ m ++ x ∷ more → HasClose (inside ++ codes "*")
close_overlaps before inside [] more x e f =
    let same : inside ≡ before ++ codes "*/" = sym (append-nil inside) ∙ sym e in
    record { before = before; after = codes "*"; closed = ap (λ (l : List ℕ). l ++ codes "*") same }
close_overlaps before inside (a ∷ []) more x e f =
    let first : a ≡ 42 = sym (first_of_both f) in
    let marked : before ++ codes "*/" ≡ inside ++ codes "*" = e ∙ ap (λ (y : ℕ). inside ++ y ∷ []) first in
    record { before = before; after = []; closed = sym marked ∙ sym (append-nil (before ++ codes "*/")) }
close_overlaps before inside (a ∷ b ∷ m) more x e f =
    absurd (never_empty m more x (ap (drop 2) f))

-- a comment between marks ends with the first `*/`
same_close : (before inside more : List ℕ) (m : ℕ) → (before ++ codes "*/") ++ m ∷ more ≡ inside ++ codes "*/" → HasClose (inside ++ codes "*")
same_close before inside more m e = elim (fronts (before ++ codes "*/") (m ∷ more) inside (codes "*/") e) [
  | inl p ↦ record { before = before; after = p.0 ++ codes "*"; closed = ap (λ (l : List ℕ). l ++ codes "*") p.1 ∙ append_assoc (before ++ codes "*/") p.0 (codes "*") }
  | inr p ↦ close_overlaps before inside p.0 more m p.1 p.2
]

block_no_more : (before : List ℕ) (m : ℕ) (more : List ℕ) → ¬ (InClass class.Slash 47 ((42 ∷ before ++ codes "*/") ++ m ∷ more))
block_no_more before m more (inl (inl none)) = cc
block_no_more before m more (inl (inr mark)) =
    let count : length ((42 ∷ before ++ codes "*/") ++ m ∷ more) ≡ 1 = ap length mark in
    omega (arith, count, length-append (42 ∷ before ++ codes "*/") (m ∷ more))
block_no_more before m more (inr (inl line)) =
    omega (arith, second_of_both line.marked)
block_no_more before m more (inr (inr block)) =
    block.first (same_close before block.inside more m (ap (drop 2) block.marked))

block_longest : (before rest : List ℕ) → IsLongest (codes "/*" ++ before ++ codes "*/") rest
block_longest before rest =
    longest_in class.Slash 47 (42 ∷ before ++ codes "*/") rest refl (λ m more others parts is. block_no_more before m more is)

slash_no_more : (m : ℕ) (more : List ℕ) → (m == 47) ≡ false → (m == 42) ≡ false → ¬ (InClass class.Slash 47 (m ∷ more))
slash_no_more m more line block (inl (inl none)) = cc
slash_no_more m more line block (inl (inr mark)) =
    both_ways (m == 42) block (eq-eqb m 42 (first_of_both mark))
slash_no_more m more line block (inr (inl is)) =
    both_ways (m == 47) line (eq-eqb m 47 (second_of_both is.marked))
slash_no_more m more line block (inr (inr is)) =
    both_ways (m == 42) block (eq-eqb m 42 (second_of_both is.marked))

slash_alone : (m : ℕ) (rest : List ℕ) → (m == 47) ≡ false → (m == 42) ≡ false → IsLongest (47 ∷ []) (m ∷ rest)
slash_alone m rest line block =
    longest_in class.Slash 47 [] (m ∷ rest) refl (λ n more others parts is.
    let same : m ≡ n = cc in
    slash_no_more n more (rw same at line) (rw same at block) is)

close_case : (rest : List ℕ) (o : Option ℕ) → close_of rest ≡ o → IsStepAt (47 ∷ 42 ∷ rest) (or_else o (Flaw faults.open_comment 0 2) (λ n. Gap (n + 4)))
close_case rest None e = record { within = omega arith; begins = open_comment rest refl (close_none 0 rest e) refl }
close_case rest (Some n) e =
    let c = close_some 0 n rest e in
    let bytes = codes "/*" ++ c.0 ++ codes "*/" in
    let parts : 47 ∷ 42 ∷ rest ≡ bytes ++ c.1 = ap (λ (l : List ℕ). 47 ∷ 42 ∷ l) c.2.parts in
    let count : n + 4 ≡ length bytes = omega (arith, c.3, length-append c.0 (codes "*/")) in
    let is : IsBlockComment bytes = record { inside = c.0; marked = refl; first = c.2.first } in
    (comment, tt, piece_at (47 ∷ 42 ∷ rest) bytes c.1 comment (n + 4) parts count (omega arith) (of_block is) (block_longest c.0 c.1))

slash_end : IsStepAt (47 ∷ []) (Token (kind.Sign sign.Slash) 1)
slash_end =
    piece_at (47 ∷ []) (47 ∷ []) [] (token (kind.Sign sign.Slash)) 1 refl refl (omega arith) refl (longest_in class.Slash 47 [] [] refl (λ m more others parts is. absurd cc))

line_step : (rest : List ℕ) → IsStepAt (47 ∷ 47 ∷ rest) (Gap (prefix_len is_no_newline rest + 2))
line_step rest =
    let r = run is_no_newline rest in
    let inside = take_while is_no_newline rest in
    let after = drop (prefix_len is_no_newline rest) rest in
    let count : prefix_len is_no_newline rest + 2 ≡ length (codes "//" ++ inside) = omega (arith, r.count) in
    let is : IsLineComment (codes "//" ++ inside) = record { inside = inside; marked = refl; on_line = r.passes } in
    (comment, tt, piece_at (47 ∷ 47 ∷ rest) (codes "//" ++ inside) after comment (prefix_len is_no_newline rest + 2) (ap (λ (l : List ℕ). 47 ∷ 47 ∷ l) r.parts) count (omega arith) (of_line is) (line_longest inside after r.stops))

pub slash_step_at : (rest : List ℕ) → IsStepAt (47 ∷ rest) (slash_step rest)
slash_step_at [] = slash_end
slash_step_at (m ∷ rest) = elim (cases_Bool (m == 47)) [
  | inl line ↦
      let same : m ≡ 47 = eqb-true m 47 line in
      rw same (line_step rest)
  | inr no_line ↦ elim (cases_Bool (m == 42)) [
    | inl block ↦
        let same : m ≡ 42 = eqb-true m 42 block in
        rw same (close_case rest (close_of rest) refl)
    | inr no_block ↦
        rw (no_line, no_block) (piece_at (47 ∷ m ∷ rest) (47 ∷ []) (m ∷ rest) (token (kind.Sign sign.Slash)) 1 refl refl (omega arith) refl (slash_alone m rest no_line no_block))
  ]
]

-- ---- a sign

no_sign : (b : ℕ) (rest bytes after : List ℕ) → pair_at b rest ≡ None → single_of b ≡ None → rest ≡ bytes ++ after → (s : Sign) → b ∷ bytes ≡ spelling_of_sign s → IsShaped s → ⊥
no_sign b rest bytes after pair single left s is (one c spelled found other) =
    let all : b ∷ bytes ≡ c ∷ [] = is ∙ spelled in
    let first : b ≡ c = cc in
    let some : single_of b ≡ Some s = rw first found in
    let both : Some s ≡ None = sym some ∙ single in
    cc
no_sign b rest bytes after pair single left s is (two c d spelled found other) =
    let all : b ∷ bytes ≡ c ∷ d ∷ [] = is ∙ spelled in
    let first : b ≡ c = cc in
    let second : bytes ≡ d ∷ [] = cc in
    let next : rest ≡ d ∷ after = left ∙ ap (λ (l : List ℕ). l ++ after) second in
    let none : pair_of b d ≡ None = rw next at pair in
    let some : pair_of b d ≡ Some s = rw first found in
    let both : Some s ≡ None = sym some ∙ none in
    cc
no_sign b rest bytes after pair single left s is (slash same) =
    let all : b ∷ bytes ≡ 47 ∷ [] = is ∙ ap spelling_of_sign same in
    let first : b ≡ 47 = cc in
    let none : single_of 47 ≡ None = rw first at single in
    cc

-- what of the class is no sign begins nothing
no_sign_front : (b : ℕ) (rest : List ℕ) → class_of b ≡ class.Other → pair_at b rest ≡ None → single_of b ≡ None → (bytes after : List ℕ) → b ∷ rest ≡ bytes ++ after → ¬ (IsLexeme bytes)
no_sign_front b rest other pair single [] after parts lexeme = lexeme_some [] lexeme refl
no_sign_front b rest other pair single (x ∷ bytes) after parts lexeme =
    let first : x ≡ b = cc in
    let left : rest ≡ bytes ++ after = cc in
    let s = in_known class.Other b bytes other (rw first at lexeme) in
    no_sign b rest bytes after pair single left s.0 s.1 (shape s.0)

single_case : (b : ℕ) (rest : List ℕ) → class_of b ≡ class.Other → pair_at b rest ≡ None → (o : Option Sign) → single_of b ≡ o
    → IsStepAt (b ∷ rest) (or_else o (Flaw faults.bad_character 0 (prefix_len goes_on rest + 1)) (λ s. Token (kind.Sign s) 1))
single_case b rest other pair (Some s) e =
    piece_at (b ∷ rest) (b ∷ []) rest (token (kind.Sign s)) 1 refl refl (omega arith) (sym (single_spelled b s e)) (single_longest b rest other pair)
single_case b rest other pair None e =
    let bytes : take (prefix_len goes_on rest + 1) (b ∷ rest) ≡ first_character (b ∷ rest) = rw add-one refl in
    record {
      within = omega (arith, prefix_len-le-length goes_on rest);
      begins = bad_character b rest refl (no_sign_front b rest other pair e) (ap (λ (l : List ℕ). record { number = faults.bad_character; before = []; bytes = l }) bytes);
    }

pair_case : (b : ℕ) (rest : List ℕ) → class_of b ≡ class.Other → (o : Option Sign) → pair_at b rest ≡ o
    → IsStepAt (b ∷ rest) (or_else o (or_else (single_of b) (Flaw faults.bad_character 0 (prefix_len goes_on rest + 1)) (λ s. Token (kind.Sign s) 1)) (λ s. Token (kind.Sign s) 2))
pair_case b rest other None e = single_case b rest other e (single_of b) refl
pair_case b [] other (Some s) e = absurd cc
pair_case b (c ∷ rest) other (Some s) e =
    piece_at (b ∷ c ∷ rest) (b ∷ c ∷ []) rest (token (kind.Sign s)) 2 refl refl (omega arith) (sym (pair_spelled b c s e)) (pair_longest b c rest other)

pub sign_step_at : (b : ℕ) (rest : List ℕ) → class_of b ≡ class.Other → IsStepAt (b ∷ rest) (sign_step b rest)
sign_step_at b rest other = pair_case b rest other (pair_at b rest) refl
