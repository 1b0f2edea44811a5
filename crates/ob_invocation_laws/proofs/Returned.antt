-- Which owners come back to their handles where a `new` or a `call` is done: one of an object at most, that of a use
-- whose entry and exit own.
use Rattle.std.proofs.Common.{◌≡◌, ◌∙◌, ◌⊎◌, inl, inr, ℕ, zero, suc, ◌+◌, ◌≤◌, ◌<◌, Bool, true, false, List, [], ◌∷◌, Some, refl, sym, ap, subst, arith}
use Rattle.std.specs.Prelude.{◌&&◌, nat_eq, slice_get, if◌then◌else◌}
use Rattle.ob_rest_spec.specs.Modes.{is_owned}
use Rattle.ob_invocation_spec.specs.Entries.{HandleUse}
use Rattle.ob_invocation_spec.specs.Entering.{put_after_use}
use Rattle.ob_invocation_laws.specs.Laws.{put_owners, returned_owners}
use Rattle.ob_invocation_laws.proofs.Used.{uses_of, NoneRepeated, more_uses}
use Rattle.ob_invocation_laws.proofs.Lent.{returned_use}

-- a use returns the owner of an object: its handle is Owned, entry and exit own, and the object is that one
pub record Returns (n : ℕ) (u : HandleUse) : Type 0 where
  pub handle : is_owned u.handle.mode ≡ true
  pub entry : is_owned u.entry.mode ≡ true
  pub exit : is_owned u.exit.mode ≡ true
  pub object : nat_eq u.handle.object n ≡ true

-- it does, or it returns none
returns_or_none : (n : ℕ) (u : HandleUse)
    → (Returns n u × (put_owners (put_after_use u) n ≡ 1)) ⊎ (put_owners (put_after_use u) n ≡ 0)
returns_or_none n u =
    go (is_owned u.handle.mode) (is_owned u.entry.mode) (nat_eq u.handle.object n) (is_owned u.exit.mode) refl refl refl
    refl (returned_use u n)
  where
    go : (a b c d : Bool) → is_owned u.handle.mode ≡ a → is_owned u.entry.mode ≡ b → nat_eq u.handle.object n ≡ c
        → is_owned u.exit.mode ≡ d
        → put_owners (put_after_use u) n ≡ (if a && b then if c && d then 1 else 0 else 0)
        → (Returns n u × (put_owners (put_after_use u) n ≡ 1)) ⊎ (put_owners (put_after_use u) n ≡ 0)
    go true true true true e f g h is = inl (record { handle = e; entry = f; exit = h; object = g }, is)
    go true true true false e f g h is = inr is
    go true true false d e f g h is = inr is
    go true false c d e f g h is = inr is
    go false b c d e f g h is = inr is

-- a use that returns an owner returns one
returns_one : (n : ℕ) (u : HandleUse) → Returns n u → put_owners (put_after_use u) n ≡ 1
returns_one n u r = returned_use u n ∙ rw (r.handle, r.entry, r.object, r.exit) refl

-- a use of an object counts
use_counts : (n : ℕ) (u : HandleUse) (uses : List HandleUse) → nat_eq u.handle.object n ≡ true
    → uses_of n (u ∷ uses) ≡ 1 + uses_of n uses
use_counts n u uses is = rw is refl

-- no more owners of an object come back than there are uses of it
pub returned_few : (n : ℕ) (uses : List HandleUse) → returned_owners uses n ≤ uses_of n uses
returned_few n [] = omega arith
returned_few n (u ∷ uses) =
    let rest = returned_few n uses in
    elim (returns_or_none n u) [
      | inl one ↦
          let r = one.0 in
          let count = use_counts n u uses r.object in omega (arith, rest, one.1, count)
      | inr none ↦ let more = more_uses n u uses in omega (arith, rest, none, more)
    ]

-- one owner of an object at most comes back
pub returned_once : (n : ℕ) (uses : List HandleUse) → NoneRepeated uses → returned_owners uses n ≤ 1
returned_once n [] once = omega arith
returned_once n (u ∷ uses) once =
    elim (returns_or_none n u) [
      | inl one ↦
          let r = one.0 in
          let same : u.handle.object ≡ n = grind arith in
          let none = ap (λ m. uses_of m uses) (sym same) ∙ once.0 r.entry in
          let few = returned_few n uses in
          omega (arith, one.1, none, few)
      | inr none ↦ let rest = returned_once n uses once.1 in omega (arith, none, rest)
    ]

-- where an owner comes back, some use returns it
pub returned_by_use : (n : ℕ) (uses : List HandleUse) → 0 < returned_owners uses n
    → (k : ℕ) × (u : HandleUse) × (slice_get uses k ≡ Some u) × Returns n u
returned_by_use n [] some = absurd (omega (arith, some))
returned_by_use n (u ∷ uses) some =
    elim (returns_or_none n u) [
      | inl one ↦ (0, u, refl, one.0)
      | inr none ↦
          let later = returned_by_use n uses (omega (arith, some, none)) in (suc later.0, later.1, later.2, later.3)
    ]

-- where a use returns an owner, it comes back
pub use_returns : (n : ℕ) (uses : List HandleUse) (k : ℕ) (u : HandleUse) → slice_get uses k ≡ Some u → Returns n u
    → 0 < returned_owners uses n
use_returns n [] k u there r = absurd cc
use_returns n (v ∷ uses) zero u there r =
    let same : v ≡ u = cc in
    let one = returns_one n v (subst (Returns n) (sym same) r) in omega (arith, one)
use_returns n (v ∷ uses) (suc k) u there r =
    let rest = use_returns n uses k u there r in omega (arith, rest)
