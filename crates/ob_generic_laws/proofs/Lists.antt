-- Lists that are empty, and what holds of each element.
use Rattle.std.proofs.Common.{◌≡◌, ℕ, zero, suc, List, [], ◌∷◌, ◌++◌, IfSome, map, refl, ap, sym, ◌∙◌, append_assoc}
use Rattle.std.specs.Prelude.{slice_get}
use Rattle.std.specs.List.{flat_map}
use Rattle.ob_resolve_laws.proofs.Each.{Each}

pub no_front : {A : Type 0} (front back : List A) → front ++ back ≡ [] → front ≡ []
no_front [] back e = refl
no_front (x ∷ front) back e = absurd (cc e)

pub no_back : {A : Type 0} (front back : List A) → front ++ back ≡ [] → back ≡ []
no_back [] back e = e
no_back (x ∷ front) back e = absurd (cc e)

pub none_of_both : {A : Type 0} (front back : List A) → front ≡ [] → back ≡ [] → front ++ back ≡ []
none_of_both front back e f = ap (λ l. l ++ back) e ∙ f

-- nothing of a list exactly where nothing of each element
pub none_of_each : {A B : Type 0} (f : A → List B) (xs : List A) → flat_map f xs ≡ [] → Each (λ x. f x ≡ []) xs
none_of_each f [] e = tt
none_of_each f (x ∷ xs) e = (no_front (f x) (flat_map f xs) e, none_of_each f xs (no_back (f x) (flat_map f xs) e))

pub none_of_all : {A B : Type 0} (f : A → List B) (xs : List A) → Each (λ x. f x ≡ []) xs → flat_map f xs ≡ []
none_of_all f [] h = refl
none_of_all f (x ∷ xs) h = none_of_both (f x) (flat_map f xs) h.0 (none_of_all f xs h.1)

-- nothing of what is made of each element
pub none_of_map : {A B C : Type 0} (f : B → List C) (g : A → B) → ((x : A) → f (g x) ≡ []) → (xs : List A)
    → flat_map f (map g xs) ≡ []
none_of_map f g none [] = refl
none_of_map f g none (x ∷ xs) = none_of_both (f (g x)) (flat_map f (map g xs)) (none x) (none_of_map f g none xs)

pub each_anyway : {A : Type 0} (P : A → Type 0) → ((x : A) → P x) → (xs : List A) → Each P xs
each_anyway P all [] = tt
each_anyway P all (x ∷ xs) = (all x, each_anyway P all xs)

-- the element at a place, if there is one
pub each_found : {A : Type 0} (P : A → Type 0) (xs : List A) (n : ℕ) → Each P xs → IfSome (slice_get xs n) P
each_found P [] n h = tt
each_found P (x ∷ xs) zero h = h.0
each_found P (x ∷ xs) (suc n) h = each_found P xs n h.1

pub flat_map-append : {A B : Type 0} (f : A → List B) (xs ys : List A)
    → flat_map f (xs ++ ys) ≡ flat_map f xs ++ flat_map f ys
flat_map-append f [] ys = refl
flat_map-append f (x ∷ xs) ys =
    ap (λ l. f x ++ l) (flat_map-append f xs ys) ∙ sym (append_assoc (f x) (flat_map f xs) (flat_map f ys))

-- what is made of each element is that element
pub map_same : {A : Type 0} (P : A → Type 0) (f : A → A) → ((x : A) → P x → f x ≡ x) → (xs : List A) → Each P xs
    → map f xs ≡ xs
map_same P f same [] h = refl
map_same P f same (x ∷ xs) h =
    ap (λ y. y ∷ map f xs) (same x h.0) ∙ ap (λ ys. x ∷ ys) (map_same P f same xs h.1)
