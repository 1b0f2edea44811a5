-- The first of several bodies.
use Rattle.std.proofs.Common.{◌≡◌, ◌≤◌, ℕ, zero, suc, List, [], ◌∷◌, length, map, take, drop, refl, ap, ◌∙◌, ◌-◌, length-drop, arith}
use Rattle.std.specs.Prelude.{min, option_map, slice_get}
use Rattle.ob_silica.specs.TermsView.{silica_body_of}
use Rattle.ob_silica.specs.declared.body.TermBody.{TermBody}

take-min : {A : Type 0} (xs : List A) (n k : ℕ) → k ≡ min n (length xs) → take k xs ≡ take n xs
take-min [] zero zero e = refl
take-min [] zero (suc k) e = refl
take-min [] (suc n) zero e = refl
take-min [] (suc n) (suc k) e = refl
take-min (x ∷ xs) zero zero e = refl
take-min (x ∷ xs) zero (suc k) e = absurd (omega (arith, e))
take-min (x ∷ xs) (suc n) zero e = absurd (omega (arith, e))
take-min (x ∷ xs) (suc n) (suc k) e = ap (λ l. x ∷ l) (take-min xs n k (omega (arith, e)))

drop-min : {A : Type 0} (xs : List A) (n k : ℕ) → k ≡ min n (length xs) → drop k xs ≡ drop n xs
drop-min [] zero zero e = refl
drop-min [] zero (suc k) e = refl
drop-min [] (suc n) zero e = refl
drop-min [] (suc n) (suc k) e = refl
drop-min (x ∷ xs) zero zero e = refl
drop-min (x ∷ xs) zero (suc k) e = absurd (omega (arith, e))
drop-min (x ∷ xs) (suc n) zero e = absurd (omega (arith, e))
drop-min (x ∷ xs) (suc n) (suc k) e = drop-min xs n k (omega (arith, e))

terms_taken : (bodies : List TermBody) (n : ℕ) → map silica_body_of (take n bodies) ≡ take n (map silica_body_of bodies)
terms_taken [] zero = refl
terms_taken [] (suc n) = refl
terms_taken (b ∷ bodies) zero = refl
terms_taken (b ∷ bodies) (suc n) = ap (λ l. silica_body_of b ∷ l) (terms_taken bodies n)

terms_dropped : (bodies : List TermBody) (n : ℕ) → map silica_body_of (drop n bodies) ≡ drop n (map silica_body_of bodies)
terms_dropped [] zero = refl
terms_dropped [] (suc n) = refl
terms_dropped (b ∷ bodies) zero = refl
terms_dropped (b ∷ bodies) (suc n) = terms_dropped bodies n

-- the terms of the first bodies, and of those after them
pub terms_first : (bodies : List TermBody) (n k : ℕ) → k ≡ min n (length bodies)
    → map silica_body_of (take k bodies) ≡ take n (map silica_body_of bodies)
terms_first bodies n k e = ap (λ l. map silica_body_of l) (take-min bodies n k e) ∙ terms_taken bodies n

take-all : {A : Type 0} (xs : List A) (n : ℕ) → length xs ≤ n → take n xs ≡ xs
take-all [] zero h = refl
take-all [] (suc n) h = refl
take-all (x ∷ xs) zero h = absurd (omega (arith, h))
take-all (x ∷ xs) (suc n) h = ap (λ l. x ∷ l) (take-all xs n (omega (arith, h)))

pub terms_rest : (bodies : List TermBody) (n k : ℕ) → k ≡ min n (length bodies)
    → map silica_body_of (take (length bodies - k) (drop k bodies)) ≡ drop n (map silica_body_of bodies)
terms_rest bodies n k e =
    let l = length-drop k bodies in
    ap (λ bs. map silica_body_of bs) (take-all (drop k bodies) (length bodies - k) (omega (arith, l)) ∙ drop-min bodies n k e)
    ∙ terms_dropped bodies n

pub ruleset parts = (terms_first, terms_rest)

-- the terms of the body of a number
pub body_got : (bodies : List TermBody) (n : ℕ)
    → slice_get (map silica_body_of bodies) n ≡ option_map silica_body_of (slice_get bodies n)
body_got [] n = refl
body_got (b ∷ bodies) zero = refl
body_got (b ∷ bodies) (suc n) = body_got bodies n
