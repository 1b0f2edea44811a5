-- What the step of a string answers is at the text's front.
use Rattle.std.proofs.Common.{ℕ, ◌≡◌, ◌+◌, ◌<◌, ◌≤◌, ◌==◌, nat_le, Bool, true, false, List, [], ◌∷◌, ◌++◌, length, map, get_or, take, drop, Option, Some, None, ◌⊎◌, inl, inr, refl, sym, ap, subst, ◌∙◌, arith, append_assoc, append-nil, length-append}
use Rattle.std.specs.List.{flat_map}
use Rattle.std.specs.Str.{IsUtf8}
use Rattle.std.proofs.lemmas.Bool.{cases_Bool, eqb-true, leb-true, leb-false}
use Rattle.std.proofs.lemmas.List.{map-append}
use Rattle.std.proofs.lemmas.Grind.{flat_map-append}
use Rattle.std.proofs.Math.Seq.{take-append_seam, drop-append_seam}
use Rattle.ob_base.specs.Limits.{longest_string}
use Rattle.ob_base.specs.Names.{is_text}
use Rattle.ob_base.specs.Faults as faults
use Rattle.ob_lexer.specs.declared.token.TokenKind.TheVariants as kind
use Rattle.ob_lexer.specs.declared.bytes.Class.TheVariants as class
use Rattle.ob_lexer.specs.declared.strings.Heard.{Heard}
use Rattle.ob_lexer.specs.declared.strings.Heard.TheVariants as heard
use Rattle.ob_lexer.specs.declared.step.Step.TheVariants.{Flaw}
use Rattle.ob_lexer.specs.Spelling.{escaped, StringPart, itself, escape, IsPart, AreParts, spelling_of_part, value_of_part, SpellsContent, IsString}
use Rattle.ob_lexer.specs.Lexis.{IsLongest, token}
use Rattle.ob_lexer.specs.Flaws.{IsCutOff, open_string, long_string, bad_escape}
use Rattle.ob_lexer.specs.Lexing.{or_else, heard_of, text_step, string_from}
use Rattle.ob_lexer.specs.Reading.{IsStepAt}
use Rattle.ob_lexer.proofs.FirstBytes.{InClass}
use Rattle.ob_lexer.proofs.Longest.{longest_in}
use Rattle.ob_lexer.proofs.StringTexts.{content_is_text}
use Rattle.ob_lexer.proofs.Pieces.{piece_at, flaw_at_first}

abbrev pub spelled : List StringPart → List ℕ
spelled parts = flat_map spelling_of_part parts

abbrev pub values : List StringPart → List ℕ
values parts = map value_of_part parts

-- ---- a string ends with the first quote that is no part of an escape

some_front : (parts : List StringPart) (x : List ℕ) → [] ≡ spelled parts ++ 34 ∷ x → ⊥
some_front [] x e = cc
some_front (itself b ∷ parts) x e = cc
some_front (escape letter value ∷ parts) x e = cc

quote_no_part : (b : ℕ) → IsPart (itself b) → b ≡ 34 → ⊥
quote_no_part b is e = let quote : IsPart (itself 34) = rw e at is in absurd cc

backslash_no_part : (b : ℕ) → IsPart (itself b) → b ≡ 92 → ⊥
backslash_no_part b is e = let quote : IsPart (itself 92) = rw e at is in absurd cc

first_same : {a b : List ℕ} → a ≡ b → get_or a 0 0 ≡ get_or b 0 0
first_same e = ap (λ (l : List ℕ). get_or l 0 0) e

pub ends_once : (a b : List StringPart) (x y : List ℕ) → AreParts a → AreParts b → spelled a ++ 34 ∷ x ≡ spelled b ++ 34 ∷ y → x ≡ y
ends_once [] [] x y p q e = ap (drop 1) e
ends_once [] (itself c ∷ b) x y p q e = absurd (quote_no_part c q.0 (sym (first_same e)))
ends_once [] (escape letter value ∷ b) x y p q e = absurd (omega (arith, first_same e))
ends_once (itself c ∷ a) [] x y p q e = absurd (quote_no_part c p.0 (first_same e))
ends_once (itself c ∷ a) (itself d ∷ b) x y p q e = ends_once a b x y p.1 q.1 (ap (drop 1) e)
ends_once (itself c ∷ a) (escape letter value ∷ b) x y p q e = absurd (backslash_no_part c p.0 (first_same e))
ends_once (escape letter value ∷ a) [] x y p q e = absurd (omega (arith, first_same e))
ends_once (escape letter value ∷ a) (itself d ∷ b) x y p q e = absurd (backslash_no_part d q.0 (sym (first_same e)))
ends_once (escape letter value ∷ a) (escape letter' value' ∷ b) x y p q e = ends_once a b x y p.1 q.1 (ap (drop 2) e)

string_no_more : (inside content : List ℕ) (m : ℕ) (more : List ℕ) → SpellsContent inside content → ¬ (InClass class.Quote 34 ((inside ++ 34 ∷ []) ++ m ∷ more))
string_no_more inside content m more stands (inl none) =
    let count : length ((inside ++ 34 ∷ []) ++ m ∷ more) ≡ 0 = ap length none in
    omega (arith, count, length-append (inside ++ 34 ∷ []) (m ∷ more))
string_no_more inside content m more stands (inr other) =
    let s = other.1 in
    let whole : inside ++ 34 ∷ (m ∷ more) ≡ s.inside ++ 34 ∷ [] = sym (append_assoc inside (34 ∷ []) (m ∷ more)) ∙ ap (drop 1) s.quoted in
    let parts : spelled stands.parts ++ 34 ∷ (m ∷ more) ≡ spelled s.stands.parts ++ 34 ∷ [] = ap (λ (l : List ℕ). l ++ 34 ∷ (m ∷ more)) (sym stands.spelled) ∙ whole ∙ ap (λ (l : List ℕ). l ++ 34 ∷ []) s.stands.spelled in
    let same : m ∷ more ≡ [] = ends_once stands.parts s.stands.parts (m ∷ more) [] stands.are s.stands.are parts in
    cc

pub string_longest : (inside content rest : List ℕ) → SpellsContent inside content → IsLongest (34 ∷ inside ++ 34 ∷ []) rest
string_longest inside content rest stands =
    longest_in class.Quote 34 (inside ++ 34 ∷ []) rest refl (λ m more others parts is. string_no_more inside content m more stands is)

-- ---- what was read so far

-- the backslash that was read last
abbrev pub tail : Bool → List ℕ
tail false = []
tail true = 92 ∷ []

pub record IsSoFar (text : List ℕ) (backslash : Bool) (content seen rest : List ℕ) : Type 0 where
  pub parts : List StringPart
  pub are : AreParts parts
  pub reads : seen ≡ spelled parts ++ tail backslash
  pub means : content ≡ values parts
  pub whole : text ≡ 34 ∷ seen ++ rest
  pub short : length content ≤ longest_string

are_more : (parts : List StringPart) (p : StringPart) → AreParts parts → IsPart p → AreParts (parts ++ p ∷ [])
are_more [] p are is = (is, tt)
are_more (q ∷ parts) p are is = (are.0, are_more parts p are.1 is)

-- The part that ends with a byte.
record IsLast (backslash : Bool) (b value : ℕ) : Type 0 where
  part : StringPart
  is : IsPart part
  reads : tail backslash ++ b ∷ [] ≡ spelling_of_part part
  means : value_of_part part ≡ value

pub option_cases : {A : Type 0} (o : Option A) → (o ≡ None) ⊎ ((x : A) × (o ≡ Some x))
option_cases None = inl refl
option_cases (Some x) = inr (x, refl)

-- what a byte is that stands after no backslash
data IsPlain (b : ℕ) (h : Heard) : Type 0 where
  is_quote : b ≡ 34 → h ≡ heard.Quote → IsPlain b h
  is_newline : b ≡ 10 → h ≡ heard.Newline → IsPlain b h
  is_backslash : b ≡ 92 → h ≡ heard.Backslash → IsPlain b h
  is_value : IsPart (itself b) → h ≡ heard.Value b → IsPlain b h

plain : (b : ℕ) → IsPlain b (heard_of false b)
plain b = elim (cases_Bool (b == 34)) [
  | inl is ↦ is_quote (eqb-true b 34 is) (rw is refl)
  | inr a ↦ elim (cases_Bool (b == 10)) [
    | inl is ↦ is_newline (eqb-true b 10 is) (rw (a, is) refl)
    | inr c ↦ elim (cases_Bool (b == 92)) [
      | inl is ↦ is_backslash (eqb-true b 92 is) (rw (a, c, is) refl)
      | inr d ↦ is_value (rw (a, d, c) refl) (rw (a, c, d) refl)
    ]
  ]
]

-- ---- one byte more

spelled_more : (parts : List StringPart) (p : StringPart) → spelled (parts ++ p ∷ []) ≡ spelled parts ++ spelling_of_part p
spelled_more parts p = flat_map-append spelling_of_part parts (p ∷ []) ∙ ap (λ (l : List ℕ). spelled parts ++ l) (append-nil (spelling_of_part p))

module _ (text : List ℕ) (after : Bool) (content seen : List ℕ) (b : ℕ) (rest : List ℕ) (s : IsSoFar text after content seen (b ∷ rest)) where
  -- the byte is among those that were read
  read_on : text ≡ 34 ∷ (seen ++ b ∷ []) ++ rest
  read_on = s.whole ∙ ap (λ (l : List ℕ). 34 ∷ l) (sym (append_assoc seen (b ∷ []) rest))

  module _ (value : ℕ) (last : IsLast after b value) where
    are_on : AreParts (s.parts ++ last.part ∷ [])
    are_on = are_more s.parts last.part s.are last.is

    reads_on : seen ++ b ∷ [] ≡ spelled (s.parts ++ last.part ∷ [])
    reads_on =
        ap (λ (l : List ℕ). l ++ b ∷ []) s.reads ∙ append_assoc (spelled s.parts) (tail after) (b ∷ []) ∙ ap (λ (l : List ℕ). spelled s.parts ++ l) last.reads ∙ sym (spelled_more s.parts last.part)

    means_on : content ++ value ∷ [] ≡ values (s.parts ++ last.part ∷ [])
    means_on =
        ap (λ (l : List ℕ). l ++ value ∷ []) s.means ∙ ap (λ (v : ℕ). values s.parts ++ v ∷ []) (sym last.means) ∙ sym (map-append value_of_part s.parts (last.part ∷ []))

    stands_on : SpellsContent (seen ++ b ∷ []) (content ++ value ∷ [])
    stands_on = record { parts = s.parts ++ last.part ∷ []; are = are_on; spelled = reads_on; means = means_on }

    goes_on_with : (nat_le longest_string (length content)) ≡ false → IsSoFar text false (content ++ value ∷ []) (seen ++ b ∷ []) rest
    goes_on_with room =
        let few : length content < longest_string = leb-false longest_string (length content) room in
        record {
          parts = s.parts ++ last.part ∷ [];
          are = are_on;
          reads = reads_on ∙ sym (append-nil (spelled (s.parts ++ last.part ∷ [])));
          means = means_on;
          whole = read_on;
          short = omega (arith, length-append content (value ∷ []));
        }

    too_long : (nat_le longest_string (length content)) ≡ true → IsStepAt text (Flaw faults.long_string 0 1)
    too_long full =
        let many : longest_string ≤ length content = leb-true longest_string (length content) full in
        let long : longest_string < length (content ++ value ∷ []) = omega (arith, length-append content (value ∷ [])) in
        subst (λ (t : List ℕ). IsStepAt t (Flaw faults.long_string 0 1)) (sym read_on) (flaw_at_first 34 ((seen ++ b ∷ []) ++ rest) faults.long_string (long_string (seen ++ b ∷ []) (content ++ value ∷ []) rest refl stands_on long refl))

-- without a backslash at the end, what was read represents the content
stands_so_far : (text content seen rest : List ℕ) → IsSoFar text false content seen rest → SpellsContent seen content
stands_so_far text content seen rest s =
    record { parts = s.parts; are = s.are; spelled = s.reads ∙ append-nil (spelled s.parts); means = s.means }

parts_stand : (text : List ℕ) (after : Bool) (content seen rest : List ℕ) → (s : IsSoFar text after content seen rest) → SpellsContent (spelled s.parts) content
parts_stand text after content seen rest s = record { parts = s.parts; are = s.are; spelled = refl; means = s.means }

-- the line or the text ends within a string
open_at : (text content inside rest : List ℕ) → text ≡ 34 ∷ inside ++ rest → SpellsContent inside content → length content ≤ longest_string → IsCutOff rest → IsStepAt text (Flaw faults.open_string 0 1)
open_at text content inside rest whole stands short cut =
    subst (λ (t : List ℕ). IsStepAt t (Flaw faults.open_string 0 1)) (sym whole) (flaw_at_first 34 (inside ++ rest) faults.open_string (open_string inside content rest refl stands short cut refl))

open_at_end : (after : Bool) (text content seen : List ℕ) → IsSoFar text after content seen [] → IsStepAt text (Flaw faults.open_string 0 1)
open_at_end false text content seen s = open_at text content seen [] s.whole (stands_so_far text content seen [] s) s.short tt
open_at_end true text content seen s =
    let whole : text ≡ 34 ∷ spelled s.parts ++ 92 ∷ [] = s.whole ∙ ap (λ (l : List ℕ). 34 ∷ l) (append-nil seen ∙ s.reads) in
    open_at text content (spelled s.parts) (92 ∷ []) whole (parts_stand text true content seen [] s) s.short (inr (refl, refl))

-- a quote ends the string
quote_at : (text content seen : List ℕ) (taken : ℕ) (rest : List ℕ) → IsUtf8 (drop 1 text) → IsSoFar text false content seen (34 ∷ rest) → taken ≡ length seen → IsStepAt text (text_step content (taken + 2))
quote_at text content seen taken rest utf8 s count =
    let stands = stands_so_far text content seen (34 ∷ rest) s in
    let after : IsUtf8 (seen ++ 34 ∷ rest) = subst IsUtf8 (ap (drop 1) s.whole) utf8 in
    let text' : is_text content ≡ true = content_is_text seen content rest after stands s.short in
    let is : IsString (34 ∷ seen ++ 34 ∷ []) content = record { inside = seen; quoted = refl; stands = stands } in
    let parts : text ≡ (34 ∷ seen ++ 34 ∷ []) ++ rest = s.whole ∙ ap (λ (l : List ℕ). 34 ∷ l) (sym (append_assoc seen (34 ∷ []) rest)) in
    let many : taken + 2 ≡ length (34 ∷ seen ++ 34 ∷ []) = omega (arith, count, length-append seen (34 ∷ [])) in
    rw text' (piece_at text (34 ∷ seen ++ 34 ∷ []) rest (token (kind.Text content)) (taken + 2) parts many (omega arith) (is, s.short) (string_longest seen content rest stands))

-- no escape
bad_at : (text content seen : List ℕ) (taken b : ℕ) (rest : List ℕ) → IsSoFar text true content seen (b ∷ rest) → taken ≡ length seen → escaped b ≡ None → IsStepAt text (Flaw faults.bad_escape taken 1)
bad_at text content seen taken b rest s count none =
    let inside = spelled s.parts in
    let whole : text ≡ (34 ∷ inside) ++ 92 ∷ b ∷ rest = s.whole ∙ ap (λ (l : List ℕ). 34 ∷ l ++ b ∷ rest) s.reads ∙ ap (λ (l : List ℕ). 34 ∷ l) (append_assoc inside (92 ∷ []) (b ∷ rest)) in
    let many : taken ≡ length (34 ∷ inside) = omega (arith, count, ap length s.reads, length-append inside (92 ∷ [])) in
    let front : take taken text ≡ 34 ∷ inside = ap (λ (n : ℕ). take n text) many ∙ ap (take (length (34 ∷ inside))) whole ∙ take-append_seam (34 ∷ inside) (92 ∷ b ∷ rest) in
    let back : drop taken text ≡ 92 ∷ b ∷ rest = ap (λ (n : ℕ). drop n text) many ∙ ap (drop (length (34 ∷ inside))) whole ∙ drop-append_seam (34 ∷ inside) (92 ∷ b ∷ rest) in
    record {
      within = omega (arith, ap length whole, length-append (34 ∷ inside) (92 ∷ b ∷ rest), many);
      begins = rw (front, back) (bad_escape inside content b rest whole (parts_stand text true content seen (b ∷ rest) s) s.short none refl);
    }

-- ---- the step of a string

pub string_at : (rest text : List ℕ) (after : Bool) (content seen : List ℕ) (taken : ℕ) → IsUtf8 (drop 1 text) → IsSoFar text after content seen rest → taken ≡ length seen → IsStepAt text (string_from after content taken rest)
string_at [] text after content seen taken utf8 s count = open_at_end after text content seen s
string_at (b ∷ rest) text true content seen taken utf8 s count =
    let counted : taken + 1 ≡ length (seen ++ b ∷ []) = omega (arith, count, length-append seen (b ∷ [])) in
    elim (option_cases (escaped b)) [
      | inl none ↦
          let heard : heard_of true b ≡ heard.NoEscape = ap (λ (o : Option ℕ). or_else o heard.NoEscape heard.Value) none in
          rw (heard, string_from) (bad_at text content seen taken b rest s count none)
      | inr v ↦
          let heard : heard_of true b ≡ heard.Value v.0 = ap (λ (o : Option ℕ). or_else o heard.NoEscape heard.Value) v.1 in
          let last : IsLast true b v.0 = record { part = escape b v.0; is = v.1; reads = refl; means = refl } in
          elim (cases_Bool (nat_le longest_string (length content))) [
            | inl full ↦ rw (heard, string_from, full) (too_long text true content seen b rest s v.0 last full)
            | inr room ↦ rw (heard, string_from, room) (string_at rest text false (content ++ v.0 ∷ []) (seen ++ b ∷ []) (taken + 1) utf8 (goes_on_with text true content seen b rest s v.0 last room) counted)
          ]
    ]
string_at (b ∷ rest) text false content seen taken utf8 s count =
    let counted : taken + 1 ≡ length (seen ++ b ∷ []) = omega (arith, count, length-append seen (b ∷ [])) in
    elim (plain b) [
      | is_quote same heard ↦
          let here : IsSoFar text false content seen (34 ∷ rest) = subst (λ (x : ℕ). IsSoFar text false content seen (x ∷ rest)) same s in
          rw (heard, string_from) (quote_at text content seen taken rest utf8 here count)
      | is_newline same heard ↦ rw (heard, string_from) (open_at text content seen (b ∷ rest) s.whole (stands_so_far text content seen (b ∷ rest) s) s.short (inl same))
      | is_backslash same heard ↦
          let next : IsSoFar text true content (seen ++ b ∷ []) rest = record {
            parts = s.parts;
            are = s.are;
            reads = ap (λ (l : List ℕ). l ++ b ∷ []) (s.reads ∙ append-nil (spelled s.parts)) ∙ ap (λ (x : ℕ). spelled s.parts ++ x ∷ []) same;
            means = s.means;
            whole = read_on text false content seen b rest s;
            short = s.short;
          } in
          rw (heard, string_from) (string_at rest text true content (seen ++ b ∷ []) (taken + 1) utf8 next counted)
      | is_value is heard ↦
          let last : IsLast false b b = record { part = itself b; is = is; reads = refl; means = refl } in
          elim (cases_Bool (nat_le longest_string (length content))) [
            | inl full ↦ rw (heard, string_from, full) (too_long text false content seen b rest s b last full)
            | inr room ↦ rw (heard, string_from, room) (string_at rest text false (content ++ b ∷ []) (seen ++ b ∷ []) (taken + 1) utf8 (goes_on_with text false content seen b rest s b last room) counted)
          ]
    ]

pub string_step_at : (rest : List ℕ) → IsUtf8 rest → IsStepAt (34 ∷ rest) (string_from false [] 0 rest)
string_step_at rest utf8 = string_at rest (34 ∷ rest) false [] [] 0 utf8 (record { parts = []; are = tt; reads = refl; means = refl; whole = refl; short = omega arith }) refl
