-- Names in lists: numbers, second things, limits.
use Rattle.std.proofs.Common.{◌≡◌, ◌≢◌, ℕ, zero, suc, ◌+◌, ◌<◌, ◌≤◌, Bool, true, false, List, [], ◌∷◌, ◌++◌, map, length, get_or, refl, sym, ap, subst, arith, ◌∙◌, append_assoc, length-append}
use Rattle.std.proofs.lemmas.List.{append-nil, map-append}
use Rattle.std.specs.Prelude.{◌||◌, if◌then◌else◌}
use Rattle.std.specs.List.{list_any}
use Rattle.std.specs.Cmp.Lexicographic.{same_text}
use Rattle.std.proofs.lemmas.Cmp.{nat_list_eq_equiv}
use Rattle.std.proofs.lemmas.List.Folds.{list_any-append}
use Rattle.std.proofs.lemmas.List.Quantifiers.{all_pairs_push}
use Rattle.ob_tree.specs.declared.name.NamePart.{NamePart}
use Rattle.ob_table_spec.specs.Names.{Name, same, is_among, in_order_after, in_order, firsts}
use Rattle.ob_resolve_spec.specs.Sites.{declares_name, counts_against_limit}
use Rattle.ob_resolve_spec.specs.TypeSites.{declared_sites, limit_sites}
use Rattle.ob_table_spec.specs.Conditions.{AreDistinct}
use Rattle.ob_resolve_laws.proofs.Each.{Each}
use Rattle.ob_resolve_laws.proofs.Clean.{Clean}

pub same-refl : (a : Name) → same a a ≡ true
same-refl a = nat_list_eq_equiv.refl a

pub same_is : (a b : Name) → same a b ≡ true → a ≡ b
same_is a b h = same_text a b (sym h)

or_false_left : (a b : Bool) → (a || b) ≡ false → a ≡ false
or_false_left true b h = h
or_false_left false b h = refl

or_false_right : (a b : Bool) → (a || b) ≡ false → b ≡ false
or_false_right true b h = absurd (cc)
or_false_right false b h = h

pub not_among_left : (name : Name) (xs ys : List Name) → is_among name (xs ++ ys) ≡ false → is_among name xs ≡ false
not_among_left name xs ys h = or_false_left _ (list_any (same name) ys) (sym (list_any-append (same name) xs ys) ∙ h)

pub not_among_right : (name : Name) (xs ys : List Name) → is_among name (xs ++ ys) ≡ false → is_among name ys ≡ false
not_among_right name xs ys h = or_false_right (list_any (same name) xs) _ (sym (list_any-append (same name) xs ys) ∙ h)

-- a name that isn't among others is none of them
pub not_among : (name : Name) (xs : List Name) → is_among name xs ≡ false → (k : ℕ) (d : Name) → k < length xs
    → get_or xs k d ≢ name
not_among name [] h k d l e = absurd (omega arith)
not_among name (x ∷ xs) h zero d l e =
    let t : same name x ≡ true = subst (λ (y : Name). same name y ≡ true) (sym e) (same-refl name) in
    let f = or_false_left (same name x) (is_among name xs) h in absurd (cc)
not_among name (x ∷ xs) h (suc k) d l e =
    not_among name xs (or_false_right (same name x) (is_among name xs) h) k d (omega arith) e

-- the names of things that are declared one after another are distinct
distinct_after : {A : Type 0} (name_of : A → NamePart) (taken : List Name) (before xs : List A)
    → AreDistinct (map (λ x. (name_of x).name) before)
    → Each Clean (in_order_after (λ before x. declares_name (map (λ y. (name_of y).name) before ++ taken) (name_of x) ∷ [])
    before xs)
    → AreDistinct (map (λ x. (name_of x).name) (before ++ xs))
distinct_after name_of taken before [] d h =
    subst (λ (ys : List _). AreDistinct (map (λ x. (name_of x).name) ys)) (sym (append-nil before)) d
distinct_after name_of taken before (x ∷ xs) d h =
    let fresh = not_among_left (name_of x).name (map (λ y. (name_of y).name) before) taken h.0.duplicate in
    let more = all_pairs_push (λ a b. a ≢ b) (map (λ y. (name_of y).name) before) (name_of x).name d
    (not_among (name_of x).name (map (λ y. (name_of y).name) before) fresh) in
    let more' = subst AreDistinct (sym (map-append (λ y. (name_of y).name) before (x ∷ []))) more in
    subst (λ (ys : List _). AreDistinct (map (λ y. (name_of y).name) ys)) (append_assoc before (x ∷ []) xs)
    (distinct_after name_of taken (before ++ x ∷ []) xs more' h.1)

no_pairs : AreDistinct []
no_pairs i j d a b = absurd (omega arith)

pub declared_distinct : {A : Type 0} (name_of : A → NamePart) (taken : List Name) (xs : List A)
    → Each Clean (declared_sites name_of taken xs) → AreDistinct (map (λ x. (name_of x).name) xs)
declared_distinct name_of taken xs h = distinct_after name_of taken [] xs no_pairs h

-- where no thing is a second one, all are the first
firsts_after_all : {A : Type 0} (name_of : A → NamePart) (taken : List Name) (before xs : List A)
    → Each Clean (in_order_after (λ before x. declares_name (map (λ y. (name_of y).name) before ++ taken) (name_of x) ∷ [])
    before xs)
    → in_order_after (λ before x. if is_among (name_of x).name (map (λ y. (name_of y).name) before) then [] else x ∷ [])
    before xs ≡ xs
firsts_after_all name_of taken before [] h = refl
firsts_after_all name_of taken before (x ∷ xs) h =
    let fresh = not_among_left (name_of x).name (map (λ y. (name_of y).name) before) taken h.0.duplicate in
    rw fresh (ap (λ (ys : List _). x ∷ ys) (firsts_after_all name_of taken (before ++ x ∷ []) xs h.1))

pub all_firsts : {A : Type 0} (name_of : A → NamePart) (taken : List Name) (xs : List A)
    → Each Clean (declared_sites name_of taken xs) → firsts (λ x. (name_of x).name) xs ≡ xs
all_firsts name_of taken xs h = firsts_after_all name_of taken [] xs h

-- there are no more things than the limit
within_after : {A : Type 0} (name_of : A → NamePart) (most : ℕ) (before xs : List A) → length before ≤ most
    → Each Clean (in_order_after (λ before x. counts_against_limit (length before) most (name_of x).span ∷ []) before xs)
    → length before + length xs ≤ most
within_after name_of most before [] l h = omega arith
within_after name_of most before (x ∷ xs) l h =
    let other : length before ≢ most = grind (arith, h.0.past_limit) in
    let more = within_after name_of most (before ++ x ∷ []) xs (omega (arith, length-append before (x ∷ []))) h.1 in
    omega (arith, length-append before (x ∷ []), more)

pub within_limit : {A : Type 0} (name_of : A → NamePart) (taken : List Name) (most : ℕ) (xs : List A)
    → Each Clean (declared_sites name_of taken xs) → Each Clean (limit_sites name_of most xs) → length xs ≤ most
within_limit name_of taken most xs a b =
    let b' = subst (λ (ys : List _). Each Clean
    (in_order (λ before x. counts_against_limit (length before) most (name_of x).span ∷ []) ys)) (all_firsts name_of taken xs a) b
    in
    let r = within_after name_of most [] xs (omega arith) b' in omega (arith, r)
