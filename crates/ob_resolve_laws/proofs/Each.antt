-- What holds of each element of a list that is put together.
use Rattle.std.proofs.Common.{◌≡◌, ℕ, zero, suc, Bool, true, false, List, [], ◌∷◌, ◌++◌, map, Some, refl, subst, arith}
use Rattle.std.specs.List.{AllByRecursion, Contains, flat_map, filter}
use Rattle.std.specs.Prelude.{cond, slice_get}
use Rattle.ob_table_spec.specs.Names.{in_order_after}

abbrev pub Each : {A : Type 0} → (A → Type 0) → List A → Type 0
Each P xs = AllByRecursion P xs

pub each_left : {A : Type 0} (P : A → Type 0) (xs ys : List A) → Each P (xs ++ ys) → Each P xs
each_left P [] ys h = tt
each_left P (x ∷ xs) ys h = (h.0, each_left P xs ys h.1)

pub each_right : {A : Type 0} (P : A → Type 0) (xs ys : List A) → Each P (xs ++ ys) → Each P ys
each_right P [] ys h = h
each_right P (x ∷ xs) ys h = each_right P xs ys h.1

pub each_both : {A : Type 0} (P : A → Type 0) (xs ys : List A) → Each P xs → Each P ys → Each P (xs ++ ys)
each_both P [] ys a b = b
each_both P (x ∷ xs) ys a b = (a.0, each_both P xs ys a.1 b)

pub each_weaker : {A : Type 0} (P Q : A → Type 0) → ((x : A) → P x → Q x) → (xs : List A) → Each P xs → Each Q xs
each_weaker P Q f [] h = tt
each_weaker P Q f (x ∷ xs) h = (f x h.0, each_weaker P Q f xs h.1)

-- two facts together give a third
pub each_of_both : {A : Type 0} (P Q R : A → Type 0) → ((x : A) → P x → Q x → R x) → (xs : List A) → Each P xs
    → Each Q xs → Each R xs
each_of_both P Q R f [] a b = tt
each_of_both P Q R f (x ∷ xs) a b = (f x a.0 b.0, each_of_both P Q R f xs a.1 b.1)

pub each_of_map : {A B : Type 0} (P : B → Type 0) (f : A → B) (xs : List A) → Each P (map f xs) → Each (λ x. P (f x)) xs
each_of_map P f [] h = tt
each_of_map P f (x ∷ xs) h = (h.0, each_of_map P f xs h.1)

pub each_map : {A B : Type 0} (P : B → Type 0) (f : A → B) (xs : List A) → Each (λ x. P (f x)) xs → Each P (map f xs)
each_map P f [] h = tt
each_map P f (x ∷ xs) h = (h.0, each_map P f xs h.1)

pub each_of_flat_map : {A B : Type 0} (P : B → Type 0) (f : A → List B) (xs : List A) → Each P (flat_map f xs)
    → Each (λ x. Each P (f x)) xs
each_of_flat_map P f [] h = tt
each_of_flat_map P f (x ∷ xs) h = (
  each_left P (f x) (flat_map f xs) h,
  each_of_flat_map P f xs (each_right P (f x) (flat_map f xs) h),
)

pub each_flat_map : {A B : Type 0} (P : B → Type 0) (f : A → List B) (xs : List A) → Each (λ x. Each P (f x)) xs
    → Each P (flat_map f xs)
each_flat_map P f [] h = tt
each_flat_map P f (x ∷ xs) h = each_both P (f x) (flat_map f xs) h.0 (each_flat_map P f xs h.1)

-- of what is said of each thing and of those before it
pub each_of_after : {A B : Type 0} (P : B → Type 0) (f : List A → A → List B) (before xs : List A)
    → Each P (in_order_after f before xs) → Each (λ x. (b : List A) × Each P (f b x)) xs
each_of_after P f before [] h = tt
each_of_after P f before (x ∷ xs) h = (
  (before, each_left P (f before x) (in_order_after f (before ++ x ∷ []) xs) h),
  each_of_after P f (before ++ x ∷ []) xs (each_right P (f before x) (in_order_after f (before ++ x ∷ []) xs) h),
)

pub each_after : {A B : Type 0} (P : B → Type 0) (f : List A → A → List B) → ((b : List A) (x : A) → Each P (f b x))
    → (before xs : List A) → Each P (in_order_after f before xs)
each_after P f h before [] = tt
each_after P f h before (x ∷ xs) =
    each_both P (f before x) (in_order_after f (before ++ x ∷ []) xs) (h before x)
    (each_after P f h (before ++ x ∷ []) xs)

pub each_of_contains : {A : Type 0} (P : A → Type 0) (xs : List A) → ((x : A) → Contains xs x → P x) → Each P xs
each_of_contains P [] h = tt
each_of_contains P (x ∷ xs) h = (
  h x (0, omega arith, refl),
  each_of_contains P xs (λ y c. h y (suc c.0, omega (arith, c.1), c.2)),
)

pub each_filter : {A : Type 0} (P : A → Type 0) (test : A → Bool) (xs : List A) → Each P xs → Each P (filter test xs)
each_filter P test [] h = tt
each_filter P test (x ∷ xs) h =
    elim (test x) as (λ b. Each P (cond b (x ∷ filter test xs) (filter test xs)))
    [ true ↦ (h.0, each_filter P test xs h.1) | false ↦ each_filter P test xs h.1 ]

pub each_at : {A : Type 0} (P : A → Type 0) (xs : List A) (n : ℕ) (x : A) → Each P xs → slice_get xs n ≡ Some x → P x
each_at P [] n x h e = absurd cc
each_at P (y ∷ xs) zero x h e = let s : y ≡ x = cc in subst P s h.0
each_at P (y ∷ xs) (suc n) x h e = each_at P xs n x h.1 e
