-- Names with a number each: a name that is there already keeps its number (this project's own).
use Rattle.std.specs.Prelude.{ℕ, ◌+◌, Bool, List, [], ◌∷◌, ◌++◌, map, Option, Some, None, is_some, if◌then◌else◌}
use Rattle.std.specs.Global.{Vec}
use Rattle.ob_table_spec.specs.Names.{Name, same}

-- the number of a name
abbrev pub find : Name → List (Name × ℕ) → Option ℕ
find name [] = None
find name (e ∷ es) = if same name e.0 then Some e.1 else find name es

-- whether the name of an entry is one of the others
abbrev pub is_found : List (Name × ℕ) → Name × ℕ → Bool
is_found others e = is_some (find e.0 others)

-- with one more name, unless it is there
abbrev pub added : List (Name × ℕ) → Name → ℕ → List (Name × ℕ)
added names name number = if is_some (find name names) then names else names ++ (name, number) ∷ []

-- names after those that are there, numbered from this number on
abbrev pub numbered_from : List (Name × ℕ) → ℕ → List Name → List (Name × ℕ)
numbered_from names n [] = names
numbered_from names n (x ∷ xs) = numbered_from (added names x n) (n + 1) xs

-- names with their places in a list: of two that are the same the first has it
abbrev pub numbered : List Name → List (Name × ℕ)
numbered xs = numbered_from [] 0 xs

-- the entries of a map, with the bytes of their keys
abbrev pub plain : List (Vec ℕ × ℕ) → List (Name × ℕ)
plain = map (λ e. (e.0.items, e.1))
