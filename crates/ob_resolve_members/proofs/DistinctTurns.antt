-- A loop's turn over names that things get: what is noted of the name at a place, and of those after it.
use Rattle.std.proofs.Common.{◌≡◌, ℕ, Bool, true, false, not, ◌||◌, ◌&&◌, List, [], ◌∷◌, ◌++◌, Option, is_some, if◌then◌else◌, map, length, take, drop, get_or, nat_eq, refl, sym, ap, ◌∙◌, ◌<◌, ◌≤◌, ◌+◌, length-append}
use Rattle.std.proofs.lemmas.List.{drop_all}
use Rattle.std.proofs.lemmas.List.Folds.{list_any-append}
use Rattle.ob_base.specs.declared.fault.ProgramFault.{ProgramFault}
use Rattle.ob_tree.specs.declared.name.NamePart.{NamePart}
use Rattle.ob_table_spec.specs.Names.{Name, same, is_among, in_order_after, firsts}
use Rattle.ob_resolve_spec.specs.Sites.{Site, declares_name, counts_against_limit}
use Rattle.ob_resolve_spec.specs.TypeSites.{limit_sites}
use Rattle.ob_resolve_scope.specs.Numbered.{find, added, numbered}
use Rattle.ob_resolve_sites.specs.Noted.{noted_if, noted}
use Rattle.ob_resolve_members.proofs.ListTurns.{turn, take_next}
use Rattle.ob_resolve_members.proofs.SeenLemmas.{found-numbered, seen_turn}
use Rattle.ob_base.specs.Faults as faults

-- what is asked of things in their order, those from a place on
abbrev pub rest_in_order : {A B : Type 0} → (List A → A → List B) → List A → ℕ → List B
rest_in_order f xs i = in_order_after f (take i xs) (drop i xs)

rest_turn : {A B : Type 0} (f : List A → A → List B) (xs : List A) (i : ℕ) (x : A) → i < length xs → x ≡ get_or xs i x
    → rest_in_order f xs i ≡ f (take i xs) x ++ rest_in_order f xs (i + 1)
rest_turn f xs i x h is =
    ap (in_order_after f (take i xs)) (turn xs i x h is)
    ∙ ap (λ before. f (take i xs) x ++ in_order_after f before (drop (i + 1) xs)) (sym (take_next xs i x h is))

-- a name beside those before it and those that are taken
abbrev pub second_site : List Name → List NamePart → NamePart → List Site
second_site names before x = declares_name (map (λ y. y.name) before ++ names) x ∷ []

pub declared_turn : (names : List Name) (seen : List (Name × ℕ)) (l : Option ProgramFault) (xs : List NamePart) (i : ℕ)
    (x : NamePart)
    → i < length xs → x ≡ get_or xs i x → seen ≡ numbered (map (λ p. p.name) (take i xs))
    → noted (noted_if l (is_some (find x.name seen) || is_among x.name names) faults.duplicate x.span)
    (rest_in_order (second_site names) xs (i + 1))
    ≡ noted l (rest_in_order (second_site names) xs i)
declared_turn names seen l xs i x h is e =
    let before = map (λ y. y.name) (take i xs) in
    let b : (is_some (find x.name seen) || is_among x.name names) ≡ is_among x.name (before ++ names) =
    ap (λ s. is_some (find x.name s) || is_among x.name names) e
    ∙ ap (λ b. b || is_among x.name names) (found-numbered x.name before)
    ∙ sym (list_any-append (same x.name) before names) in
    ap (λ b. noted (noted_if l b faults.duplicate x.span) (rest_in_order (second_site names) xs (i + 1))) b
    ∙ ap (noted l) (sym (rest_turn (second_site names) xs i x h is))

-- a name whose like none before it has
abbrev pub first_one : List NamePart → NamePart → List NamePart
first_one before x = if is_among x.name (map (λ y. y.name) before) then [] else x ∷ []

-- things one after another, of which so many stand before the first
abbrev pub counts_from : ℕ → ℕ → List NamePart → List Site
counts_from n most [] = []
counts_from n most (x ∷ xs) = counts_against_limit n most x.span ∷ counts_from (n + 1) most xs

counts-after : (most : ℕ) (before xs : List NamePart)
    → in_order_after (λ before x. counts_against_limit (length before) most x.span ∷ []) before xs
    ≡ counts_from (length before) most xs
counts-after most before [] = refl
counts-after most before (x ∷ xs) =
    ap (λ r. counts_against_limit (length before) most x.span ∷ r)
    (counts-after most (before ++ x ∷ []) xs ∙ ap (λ n. counts_from n most xs) (length-append before (x ∷ [])))

-- after the last name nothing is left
pub limit_end : (l m : Option ProgramFault) (n most : ℕ) (xs : List NamePart) (i : ℕ) → length xs ≤ i
    → noted l (counts_from n most (rest_in_order first_one xs i)) ≡ noted m (counts_from 0 most (firsts (λ p. p.name) xs))
    → l ≡ noted m (limit_sites (λ p. p) most xs)
limit_end l m n most xs i h e =
    ap (λ r. noted l (counts_from n most (in_order_after first_one (take i xs) r))) (sym (drop_all i xs h))
    ∙ e
    ∙ ap (noted m) (sym (counts-after most [] (firsts (λ p. p.name) xs)))

pub counted_turn : (seen : List (Name × ℕ)) (l : Option ProgramFault) (most : ℕ) (xs : List NamePart) (i : ℕ)
    (x : NamePart)
    → i < length xs → x ≡ get_or xs i x → seen ≡ numbered (map (λ p. p.name) (take i xs))
    → noted (noted_if l (not (is_some (find x.name seen)) && nat_eq (length seen) most) faults.limit x.span)
    (counts_from (length (added seen x.name i)) most (rest_in_order first_one xs (i + 1)))
    ≡ noted l (counts_from (length seen) most (rest_in_order first_one xs i))
counted_turn seen l most xs i x h is e =
    let b : is_some (find x.name seen) ≡ is_among x.name (map (λ y. y.name) (take i xs)) =
    ap (λ s. is_some (find x.name s)) e ∙ found-numbered x.name (map (λ p. p.name) (take i xs)) in
    let rest = rest_in_order first_one xs (i + 1) in
    by (is_some (find x.name seen)) rest
    ∙ ap (λ c. noted l (counts_from (length seen) most ((if c then [] else x ∷ []) ++ rest))) b
    ∙ ap (λ r. noted l (counts_from (length seen) most r)) (sym (rest_turn first_one xs i x h is))
  where
    by : (b : Bool) (rest : List NamePart)
        → noted (noted_if l (not b && nat_eq (length seen) most) faults.limit x.span)
        (counts_from (length (if b then seen else seen ++ (x.name, i) ∷ [])) most rest)
        ≡ noted l (counts_from (length seen) most ((if b then [] else x ∷ []) ++ rest))
    by true rest = refl
    by false rest =
        ap (λ n. noted (noted_if l (nat_eq (length seen) most) faults.limit x.span) (counts_from n most rest))
        (length-append seen ((x.name, i) ∷ []))

pub ruleset distinct_turns = (declared_turn, counted_turn, seen_turn)
