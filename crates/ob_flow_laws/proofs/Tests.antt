-- What tests in premises tell.
use Rattle.std.proofs.Common.{◌≡◌, ℕ, Bool, true, false, refl, arith}
use Rattle.std.specs.Prelude.{not, ◌&&◌, ◌||◌, nat_eq}

pub isnt : (a : Bool) → not a ≡ true → a ≡ false
isnt true h = absurd (cc)
isnt false h = refl

pub same_number : (j k : ℕ) → nat_eq j k ≡ true → j ≡ k
same_number j k e = grind arith

pub number_itself : (k : ℕ) → nat_eq k k ≡ true
number_itself k = grind arith

-- of `not a || b`
pub where_first : (a b : Bool) → (not a || b) ≡ true → a ≡ true → b ≡ true
where_first true b h t = h
where_first false b h t = absurd (cc)

-- of `a || b`
pub second_of : (a b : Bool) → (a || b) ≡ true → a ≡ false → b ≡ true
second_of true b h f = absurd (cc)
second_of false b h f = h

-- of `not (a && b)`
pub never_both : (a b : Bool) → not (a && b) ≡ true → a ≡ true → b ≡ false
never_both true b h t = isnt b h
never_both false b h t = absurd (cc)

-- of `not (a || b)`
pub neither : (a b : Bool) → not (a || b) ≡ true → (a ≡ false) × (b ≡ false)
neither true b h = absurd (cc)
neither false b h = (refl, isnt b h)

-- of `a && b`
pub both_of : (a b : Bool) → (a && b) ≡ true → (a ≡ true) × (b ≡ true)
both_of true b h = (refl, h)
both_of false b h = absurd (cc)
