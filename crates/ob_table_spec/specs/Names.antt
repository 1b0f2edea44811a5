-- Names, and what a name denotes among several things: the first that has it (this project's own).
use Rattle.std.specs.Prelude.{ℕ, suc, Bool, List, [], ◌∷◌, ◌++◌, map, find, nat_eq, Option, Some, None, option_map, if◌then◌else◌}
use Rattle.std.specs.List.{list_any}
use Rattle.std.specs.Cmp.Lexicographic.{pointwise}

-- the bytes of a name
abbrev pub Name : Type 0
Name = List ℕ

-- whether two names are the same
abbrev pub same : Name → Name → Bool
same = pointwise nat_eq

-- whether a name is one of these
abbrev pub is_among : Name → List Name → Bool
is_among name names = list_any (same name) names

-- the number of a name: how many stand before the first that is the same
abbrev pub number_of : Name → List Name → Option ℕ
number_of name [] = None
number_of name (x ∷ xs) = if same name x then Some 0 else option_map suc (number_of name xs)

-- the first thing that has this name
abbrev pub first_named : {A : Type 0} → (A → Name) → Name → List A → Option A
first_named name_of name xs = find (λ x. same name (name_of x)) xs

-- what f says of each thing and of those before it, one after another
abbrev pub in_order_after : {A B : Type 0} → (List A → A → List B) → List A → List A → List B
in_order_after f before [] = []
in_order_after f before (x ∷ xs) = f before x ++ in_order_after f (before ++ x ∷ []) xs

-- the same from the first thing on
abbrev pub in_order : {A B : Type 0} → (List A → A → List B) → List A → List B
in_order f xs = in_order_after f [] xs

-- the things whose name none before them has: a second thing of one name is left out
abbrev pub firsts : {A : Type 0} → (A → Name) → List A → List A
firsts name_of xs = in_order (λ before x. if is_among (name_of x) (map name_of before) then [] else x ∷ []) xs
