-- Names that are gathered from things first: they have the sites of those things.
use Rattle.std.proofs.Common.{◌≡◌, ℕ, Bool, true, false, List, [], ◌∷◌, ◌++◌, if◌then◌else◌, map, length, refl, sym, ap, ◌∙◌}
use Rattle.std.proofs.lemmas.List.{map-append, length-map}
use Rattle.ob_tree.specs.declared.name.NamePart.{NamePart}
use Rattle.ob_table_spec.specs.Names.{Name, is_among, in_order_after, firsts}
use Rattle.ob_resolve_spec.specs.Sites.{Site, declares_name, counts_against_limit}
use Rattle.ob_resolve_spec.specs.TypeSites.{declared_sites, limit_sites}

-- a thing that gets a name, beside those before it and names that are taken
abbrev second_of : {A : Type 0} → (A → NamePart) → List Name → List A → A → List Site
second_of f names before x = declares_name (map (λ y. (f y).name) before ++ names) (f x) ∷ []

-- a thing whose name none before it has
abbrev first_of : {A : Type 0} → (A → NamePart) → List A → A → List A
first_of f before x = if is_among (f x).name (map (λ y. (f y).name) before) then [] else x ∷ []

-- a thing after so many others
abbrev count_of : {A : Type 0} → (A → NamePart) → ℕ → List A → A → List Site
count_of f most before x = counts_against_limit (length before) most (f x).span ∷ []

names-map : {A : Type 0} (f : A → NamePart) (xs : List A) → map (λ p. p.name) (map f xs) ≡ map (λ x. (f x).name) xs
names-map f [] = refl
names-map f (x ∷ xs) = ap (λ r. (f x).name ∷ r) (names-map f xs)

declared-after : {A : Type 0} (f : A → NamePart) (names : List Name) (before xs : List A)
    → in_order_after (second_of (λ p. p) names) (map f before) (map f xs)
    ≡ in_order_after (second_of f names) before xs
declared-after f names before [] = refl
declared-after f names before (x ∷ xs) =
    let site = declares_name (map (λ y. (f y).name) before ++ names) (f x) in
    ap (λ ns. declares_name (ns ++ names) (f x) ∷ in_order_after (second_of (λ p. p) names) (map f before ++ f x ∷ []) (map f xs))
    (names-map f before)
    ∙ ap (λ b. site ∷ in_order_after (second_of (λ p. p) names) b (map f xs)) (sym (map-append f before (x ∷ [])))
    ∙ ap (λ r. site ∷ r) (declared-after f names (before ++ x ∷ []) xs)

pub declared-map : {A : Type 0} (f : A → NamePart) (names : List Name) (xs : List A)
    → declared_sites (λ p. p) names (map f xs) ≡ declared_sites f names xs
declared-map f names xs = declared-after f names [] xs

firsts-after : {A : Type 0} (f : A → NamePart) (before xs : List A)
    → in_order_after (first_of (λ p. p)) (map f before) (map f xs) ≡ map f (in_order_after (first_of f) before xs)
firsts-after f before [] = refl
firsts-after f before (x ∷ xs) =
    let b = is_among (f x).name (map (λ y. (f y).name) before) in
    ap (λ ns. (if is_among (f x).name ns then [] else f x ∷ [])
    ++ in_order_after (first_of (λ p. p)) (map f before ++ f x ∷ []) (map f xs)) (names-map f before)
    ∙ ap (λ ys. (if b then [] else f x ∷ []) ++ in_order_after (first_of (λ p. p)) ys (map f xs))
    (sym (map-append f before (x ∷ [])))
    ∙ ap (λ r. (if b then [] else f x ∷ []) ++ r) (firsts-after f (before ++ x ∷ []) xs)
    ∙ one b (in_order_after (first_of f) (before ++ x ∷ []) xs)
  where
    one : (b : Bool) (rest : List _)
        → (if b then [] else f x ∷ []) ++ map f rest ≡ map f ((if b then [] else x ∷ []) ++ rest)
    one true rest = refl
    one false rest = refl

counts-after : {A : Type 0} (f : A → NamePart) (most : ℕ) (before xs : List A)
    → in_order_after (count_of (λ p. p) most) (map f before) (map f xs) ≡ in_order_after (count_of f most) before xs
counts-after f most before [] = refl
counts-after f most before (x ∷ xs) =
    let site = counts_against_limit (length before) most (f x).span in
    ap (λ n. counts_against_limit n most (f x).span ∷ in_order_after (count_of (λ p. p) most) (map f before ++ f x ∷ []) (map f xs))
    (length-map before f)
    ∙ ap (λ b. site ∷ in_order_after (count_of (λ p. p) most) b (map f xs)) (sym (map-append f before (x ∷ [])))
    ∙ ap (λ r. site ∷ r) (counts-after f most (before ++ x ∷ []) xs)

pub limit-map : {A : Type 0} (f : A → NamePart) (most : ℕ) (xs : List A)
    → limit_sites (λ p. p) most (map f xs) ≡ limit_sites f most xs
limit-map f most xs =
    ap (λ ys. in_order_after (count_of (λ p. p) most) [] ys) (firsts-after f [] xs)
    ∙ counts-after f most [] (firsts (λ x. (f x).name) xs)
