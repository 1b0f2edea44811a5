-- Where a comment between marks ends.
use Rattle.std.proofs.Common.{ℕ, ◌≡◌, ◌+◌, ◌==◌, ◌&&◌, Bool, true, false, List, [], ◌∷◌, ◌++◌, length, codes, Some, None, inl, inr, refl, ap, ◌∙◌, arith}
use Rattle.std.proofs.lemmas.Bool.{cases_Bool, and_parts, both_ways, eqb-true}
use Rattle.ob_lexer.specs.Lexis.{HasClose}
use Rattle.ob_lexer.specs.Lexing.{close_from}

-- whether `*/` stands at the front
abbrev closes : ℕ → ℕ → Bool
closes a b = a == 42 && b == 47

-- `*/` stands after these bytes, and no earlier one
pub record IsFirstClose (bytes before after : List ℕ) : Type 0 where
  pub parts : bytes ≡ before ++ codes "*/" ++ after
  pub first : ¬ (HasClose (before ++ codes "*"))

at_front : (a b : ℕ) (rest : List ℕ) → closes a b ≡ true → a ∷ b ∷ rest ≡ codes "*/" ++ rest
at_front a b rest is =
    let both = and_parts (a == 42) (b == 47) is in
    let first : a ≡ 42 = eqb-true a 42 both.0 in
    let second : b ≡ 47 = eqb-true b 47 both.1 in
    cc

no_close_in : (bytes before after : List ℕ) → bytes ≡ before ++ codes "*/" ++ after → length bytes ≡ 1 → ⊥
no_close_in bytes [] after e one = let count : length bytes ≡ length (codes "*/" ++ after) = ap length e in omega (arith, count, one)
no_close_in bytes (x ∷ []) after e one = let count : length bytes ≡ length (x ∷ codes "*/" ++ after) = ap length e in omega (arith, count, one)
no_close_in bytes (x ∷ y ∷ before) after e one = let count : length bytes ≡ length (x ∷ y ∷ before ++ codes "*/" ++ after) = ap length e in omega (arith, count, one)

no_close_at : (before after : List ℕ) → [] ≡ before ++ codes "*/" ++ after → ⊥
no_close_at [] after e = cc
no_close_at (x ∷ before) after e = cc

-- ---- a close at the front, or after the first byte

close_after_at : (a b : ℕ) (rest before after : List ℕ) → closes a b ≡ false → a ∷ b ∷ rest ≡ before ++ codes "*/" ++ after → HasClose (b ∷ rest)
close_after_at a b rest [] after isnt e =
    let first : a ≡ 42 = cc in
    let second : b ≡ 47 = cc in
    let is : closes a b ≡ true = rw (first, second) refl in
    absurd (both_ways (closes a b) isnt is)
close_after_at a b rest (x ∷ before) after isnt e = record { before = before; after = after; closed = cc }

-- a close in bytes that begin with none stands after the first byte
close_after : (a b : ℕ) (rest : List ℕ) → closes a b ≡ false → HasClose (a ∷ b ∷ rest) → HasClose (b ∷ rest)
close_after a b rest isnt has = close_after_at a b rest has.before has.after isnt has.closed

-- a close after the first byte is one
close_before : (a : ℕ) (rest : List ℕ) → HasClose rest → HasClose (a ∷ rest)
close_before a rest has = record { before = a ∷ has.before; after = has.after; closed = ap (λ (l : List ℕ). a ∷ l) has.closed }

no_close_in_one : (a : ℕ) → ¬ (HasClose (a ∷ []))
no_close_in_one a has = no_close_in (a ∷ []) has.before has.after has.closed refl

no_close_in_none : ¬ (HasClose [])
no_close_in_none has = no_close_at has.before has.after has.closed

-- ---- the first close

-- Where so many bytes stand before, none is found exactly where there is none.
pub close_none : (at : ℕ) (bytes : List ℕ) → close_from at bytes ≡ None → ¬ (HasClose bytes)
close_none at [] e has = no_close_in_none has
close_none at (a ∷ []) e has = no_close_in_one a has
close_none at (a ∷ b ∷ rest) e has = elim (cases_Bool (closes a b)) [
  | inl is ↦ let some : Some at ≡ None = rw is at e in cc
  | inr isnt ↦ close_none (at + 1) (b ∷ rest) (rw isnt at e) (close_after a b rest isnt has)
]

no_earlier : (a b : ℕ) (rest before after : List ℕ) → closes a b ≡ false → IsFirstClose (b ∷ rest) before after → ¬ (HasClose ((a ∷ before) ++ codes "*"))
no_earlier a b rest [] after isnt f has =
    let first : b ≡ 42 = cc (f.parts) in
    let left : HasClose (b ∷ []) = close_after a b [] isnt (rw first has) in
    no_close_in_one b left
no_earlier a b rest (x ∷ before) after isnt f has =
    let first : b ≡ x = cc (f.parts) in
    f.first (close_after a x (before ++ codes "*") (rw (← first) isnt) has)

-- the first close of bytes that begin with none
first_after : (a b : ℕ) (rest before after : List ℕ) → closes a b ≡ false → IsFirstClose (b ∷ rest) before after → IsFirstClose (a ∷ b ∷ rest) (a ∷ before) after
first_after a b rest before after isnt f = record {
  parts = ap (λ (l : List ℕ). a ∷ l) f.parts;
  first = no_earlier a b rest before after isnt f;
}

pub close_some : (at n : ℕ) (bytes : List ℕ) → close_from at bytes ≡ Some n → (before after : List ℕ) × IsFirstClose bytes before after × (n ≡ at + length before)
close_some at n [] e = absurd cc
close_some at n (a ∷ []) e = absurd cc
close_some at n (a ∷ b ∷ rest) e = elim (cases_Bool (closes a b)) [
  | inl is ↦
      let some : Some at ≡ Some n = rw is at e in
      let same : at ≡ n = cc in
      ([], rest, record { parts = at_front a b rest is; first = no_close_in_one 42 }, omega arith)
  | inr isnt ↦
      let r = close_some (at + 1) n (b ∷ rest) (rw isnt at e) in
      (a ∷ r.0, r.1, first_after a b rest r.0 r.1 isnt r.2, omega (arith, r.3))
]

-- ---- the first close is found

abbrev Found : ℕ → List ℕ → List ℕ → Type 0
Found at before after = close_from at (before ++ codes "*/" ++ after) ≡ Some (at + length before)

found_after : (at a b : ℕ) (rest before after : List ℕ) → b ∷ rest ≡ before ++ codes "*/" ++ after → closes a b ≡ false → Found (at + 1) before after → close_from at (a ∷ b ∷ rest) ≡ Some (at + length (a ∷ before))
found_after at a b rest before after parts isnt found =
    let count : at + 1 + length before ≡ at + length (a ∷ before) = omega arith in
    rw isnt (ap (close_from (at + 1)) parts ∙ found ∙ ap Some count)

not_closing : (a b : ℕ) (before after : List ℕ) → ¬ (HasClose ((a ∷ b ∷ before) ++ codes "*")) → closes a b ≡ false
not_closing a b before after none = elim (cases_Bool (closes a b)) [
  | inl is ↦ absurd (none (record { before = []; after = before ++ codes "*"; closed = at_front a b (before ++ codes "*") is }))
  | inr isnt ↦ isnt
]

pub close_found : (at : ℕ) (before after : List ℕ) → ¬ (HasClose (before ++ codes "*")) → Found at before after
close_found at [] after none = ap Some (omega arith)
close_found at (a ∷ []) after none =
    let isnt : closes a 42 ≡ false = elim (cases_Bool (a == 42)) [ inl is ↦ rw is refl | inr other ↦ rw other refl ] in
    found_after at a 42 (47 ∷ after) [] after refl isnt (close_found (at + 1) [] after (no_close_in_one 42))
close_found at (a ∷ b ∷ before) after none =
    found_after at a b (before ++ codes "*/" ++ after) (b ∷ before) after refl (not_closing a b before after none) (close_found (at + 1) (b ∷ before) after (λ has. none (close_before a ((b ∷ before) ++ codes "*") has)))

pub no_close_none : (at : ℕ) (bytes : List ℕ) → ¬ (HasClose bytes) → close_from at bytes ≡ None
no_close_none at [] none = refl
no_close_none at (a ∷ []) none = refl
no_close_none at (a ∷ b ∷ rest) none =
    let isnt : closes a b ≡ false = elim (cases_Bool (closes a b)) [
      | inl is ↦ absurd (none (record { before = []; after = rest; closed = at_front a b rest is }))
      | inr other ↦ other
    ] in
    rw isnt (no_close_none (at + 1) (b ∷ rest) (λ has. none (close_before a (b ∷ rest) has)))
