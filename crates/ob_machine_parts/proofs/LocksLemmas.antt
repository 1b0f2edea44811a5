-- Lists with the newest last, from the newest on.
use Rattle.std.proofs.Common.{◌≡◌, List, [], ◌∷◌, ◌++◌, map, reverse, Option, ap, ◌∙◌}
use Rattle.std.specs.Prelude.{option_map}
use Rattle.std.proofs.lemmas.List.{map-append, reverse-append}
use Rattle.ob_base.specs.declared.id.ObjectId.{ObjectId}
use Rattle.ob_machine_parts.specs.Shown.{number_of, tests_of}

pub newest_first : {A B : Type 0} (f : A → B) (xs : List A) (x : A) → reverse (map f (xs ++ x ∷ [])) ≡ f x ∷ reverse (map f xs)
newest_first f xs x = ap reverse (map-append f xs (x ∷ [])) ∙ reverse-append (map f xs) (f x ∷ [])

pub tests_newest : (xs : List (Option ObjectId)) (x : Option ObjectId) → tests_of (xs ++ x ∷ []) ≡ option_map number_of x ∷ tests_of xs
tests_newest xs x = newest_first (option_map number_of) xs x
