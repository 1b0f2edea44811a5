-- Each sign has one byte or two, and is the sign of these.
use Rattle.std.proofs.Common.{ℕ, ◌≡◌, ◌==◌, ◌&&◌, Bool, true, cond, [], ◌∷◌, Option, Some, inl, inr, refl, sym, ap, subst}
use Rattle.std.proofs.lemmas.Bool.{cases_Bool, eqb-true, and_parts}
use Rattle.ob_lexer.specs.declared.token.Sign.{Sign}
use Rattle.ob_lexer.specs.declared.token.Sign.TheVariants as sign
use Rattle.ob_lexer.specs.declared.bytes.Class.TheVariants as class
use Rattle.ob_lexer.specs.Spelling.{spelling_of_sign}
use Rattle.ob_lexer.specs.Lexing.{pair_of, single_of, class_of}

-- a sign of one byte, one of two, or `/`
pub data IsShaped (s : Sign) : Type 0 where
  one : (b : ℕ) → spelling_of_sign s ≡ b ∷ [] → single_of b ≡ Some s → class_of b ≡ class.Other → IsShaped s
  two : (a b : ℕ) → spelling_of_sign s ≡ a ∷ b ∷ [] → pair_of a b ≡ Some s → class_of a ≡ class.Other → IsShaped s
  slash : s ≡ sign.Slash → IsShaped s

pub shape : (s : Sign) → IsShaped s
shape sign.OpenBrace = one 123 refl refl refl
shape sign.CloseBrace = one 125 refl refl refl
shape sign.OpenParen = one 40 refl refl refl
shape sign.CloseParen = one 41 refl refl refl
shape sign.OpenBracket = one 91 refl refl refl
shape sign.CloseBracket = one 93 refl refl refl
shape sign.Semicolon = one 59 refl refl refl
shape sign.Comma = one 44 refl refl refl
shape sign.Dot = one 46 refl refl refl
shape sign.At = one 64 refl refl refl
shape sign.Bar = one 124 refl refl refl
shape sign.DoubleColon = two 58 58 refl refl refl
shape sign.Arrow = two 45 62 refl refl refl
shape sign.DoubleGreater = two 62 62 refl refl refl
shape sign.Equals = one 61 refl refl refl
shape sign.DoubleEquals = two 61 61 refl refl refl
shape sign.NotEquals = two 33 61 refl refl refl
shape sign.Less = one 60 refl refl refl
shape sign.LessEquals = two 60 61 refl refl refl
shape sign.Greater = one 62 refl refl refl
shape sign.GreaterEquals = two 62 61 refl refl refl
shape sign.Plus = one 43 refl refl refl
shape sign.Minus = one 45 refl refl refl
shape sign.Star = one 42 refl refl refl
shape sign.Slash = slash refl
shape sign.Percent = one 37 refl refl refl
shape sign.Not = one 33 refl refl refl
shape sign.DoubleAmpersand = two 38 38 refl refl refl
shape sign.DoubleBar = two 124 124 refl refl refl

-- a row of a table of tests: a fact of what is found holds in this row, or in one below it
row : (test : Bool) (s t : Sign) (below : Option Sign) (P : Sign → Type 0) → (test ≡ true → P s) → (below ≡ Some t → P t) → cond test (Some s) below ≡ Some t → P t
row test s t below P here there e = elim (cases_Bool test) [
  | inl is ↦
      let some : Some s ≡ Some t = rw is at e in
      let same : s ≡ t = cc in
      subst P same (here is)
  | inr isnt ↦ there (rw isnt at e)
]

abbrev IsSingle : ℕ → Sign → Type 0
IsSingle b s = spelling_of_sign s ≡ b ∷ []

abbrev IsPair : ℕ → ℕ → Sign → Type 0
IsPair a b s = spelling_of_sign s ≡ a ∷ b ∷ []

here : (b n : ℕ) → (b == n) ≡ true → n ∷ [] ≡ b ∷ []
here b n is = ap (λ (x : ℕ). x ∷ []) (sym (eqb-true b n is))

both : (a b m n : ℕ) → (a == m && b == n) ≡ true → m ∷ n ∷ [] ≡ a ∷ b ∷ []
both a b m n is =
    let p = and_parts (a == m) (b == n) is in
    let first : a ≡ m = eqb-true a m p.0 in
    let second : b ≡ n = eqb-true b n p.1 in
    cc

pub single_spelled : (b : ℕ) (s : Sign) → single_of b ≡ Some s → spelling_of_sign s ≡ b ∷ []
single_spelled b s =
    row (b == 123) sign.OpenBrace s _ (IsSingle b) (here b 123) (row (b == 125) sign.CloseBrace s _ (IsSingle b) (here b 125) (row (b == 40) sign.OpenParen s _ (IsSingle b) (here b 40) (row (b == 41) sign.CloseParen s _ (IsSingle b) (here b 41) (row (b == 91) sign.OpenBracket s _ (IsSingle b) (here b 91) (row (b == 93) sign.CloseBracket s _ (IsSingle b) (here b 93) (row (b == 59) sign.Semicolon s _ (IsSingle b) (here b 59) (row (b == 44) sign.Comma s _ (IsSingle b) (here b 44) (row (b == 46) sign.Dot s _ (IsSingle b) (here b 46) (row (b == 64) sign.At s _ (IsSingle b) (here b 64) (row (b == 124) sign.Bar s _ (IsSingle b) (here b 124) (row (b == 61) sign.Equals s _ (IsSingle b) (here b 61) (row (b == 60) sign.Less s _ (IsSingle b) (here b 60) (row (b == 62) sign.Greater s _ (IsSingle b) (here b 62) (row (b == 43) sign.Plus s _ (IsSingle b) (here b 43) (row (b == 45) sign.Minus s _ (IsSingle b) (here b 45) (row (b == 42) sign.Star s _ (IsSingle b) (here b 42) (row (b == 47) sign.Slash s _ (IsSingle b) (here b 47) (row (b == 37) sign.Percent s _ (IsSingle b) (here b 37) (row (b == 33) sign.Not s _ (IsSingle b) (here b 33) (λ e. absurd cc))))))))))))))))))))

pub pair_spelled : (a b : ℕ) (s : Sign) → pair_of a b ≡ Some s → spelling_of_sign s ≡ a ∷ b ∷ []
pair_spelled a b s =
    row (a == 58 && b == 58) sign.DoubleColon s _ (IsPair a b) (both a b 58 58) (row (a == 45 && b == 62) sign.Arrow s _ (IsPair a b) (both a b 45 62) (row (a == 62 && b == 62) sign.DoubleGreater s _ (IsPair a b) (both a b 62 62) (row (a == 61 && b == 61) sign.DoubleEquals s _ (IsPair a b) (both a b 61 61) (row (a == 33 && b == 61) sign.NotEquals s _ (IsPair a b) (both a b 33 61) (row (a == 60 && b == 61) sign.LessEquals s _ (IsPair a b) (both a b 60 61) (row (a == 62 && b == 61) sign.GreaterEquals s _ (IsPair a b) (both a b 62 61) (row (a == 38 && b == 38) sign.DoubleAmpersand s _ (IsPair a b) (both a b 38 38) (row (a == 124 && b == 124) sign.DoubleBar s _ (IsPair a b) (both a b 124 124) (λ e. absurd cc)))))))))
