-- Lists that begin with others.
use Rattle.std.proofs.Common.{◌≡◌, ℕ, ◌≤◌, List, [], ◌∷◌, ◌++◌, refl, ap, sym, ◌∙◌, subst, length, take, zero, suc, append_assoc, append-nil, length-append, arith}

abbrev pub Starts : {A : Type 0} → List A → List A → Type 0
Starts {A = A} xs ys = (more : List A) × (ys ≡ xs ++ more)

pub starts_self : {A : Type 0} (xs : List A) → Starts xs xs
starts_self xs = ([], sym (append-nil xs))

pub starts_trans : {A : Type 0} (xs ys zs : List A) → Starts xs ys → Starts ys zs → Starts xs zs
starts_trans xs ys zs p q = (p.0 ++ q.0, q.1 ∙ ap (λ l. l ++ q.0) p.1 ∙ append_assoc xs p.0 q.0)

-- the same length leaves nothing behind
nothing_more : {A : Type 0} (xs more : List A) → length (xs ++ more) ≤ length xs → more ≡ []
nothing_more xs [] h = refl
nothing_more xs (m ∷ ms) h = absurd (omega (arith, h, length-append xs (m ∷ ms)))

pub starts_full : {A : Type 0} (xs ys : List A) → Starts xs ys → length ys ≤ length xs → xs ≡ ys
starts_full {A = A} xs ys p h =
    sym (p.1 ∙ ap (λ l. xs ++ l) (nothing_more xs p.0 (subst (λ l. length l ≤ length xs) p.1 h)) ∙ append-nil xs)

pub starts_both : {A : Type 0} (xs ys : List A) → Starts xs ys → Starts ys xs → xs ≡ ys
starts_both xs ys p q = starts_full xs ys p (grind (arith, length-append ys q.0, ap length q.1))

pub starts_take : {A : Type 0} (n : ℕ) (xs ys : List A) → Starts xs ys → Starts (take n xs) (take n ys)
starts_take n xs ys p = subst (λ l. Starts (take n xs) (take n l)) (sym p.1) (by n xs p.0)
  where
    by : {A : Type 0} (n : ℕ) (xs more : List A) → Starts (take n xs) (take n (xs ++ more))
    by zero xs more = ([], refl)
    by (suc n) [] more = (take (suc n) more, refl)
    by (suc n) (x ∷ xs) more = let r = by n xs more in (r.0, ap (λ l. x ∷ l) r.1)
