-- There and back again, through a list and through what may be missing.
use Rattle.std.proofs.Common.{◌≡◌, List, [], ◌∷◌, Option, Some, None, map, option_map, ap, ◌∙◌, refl}

pub map_back : {A B : Type 0} (f : A → B) (g : B → A) → ((a : A) → g (f a) ≡ a) → (items : List A) → map g (map f items) ≡ items
map_back f g back [] = refl
map_back f g back (a ∷ items) = ap (λ x. x ∷ map g (map f items)) (back a) ∙ ap (λ xs. a ∷ xs) (map_back f g back items)

pub option_back : {A B : Type 0} (f : A → B) (g : B → A) → ((a : A) → g (f a) ≡ a) → (item : Option A) → option_map g (option_map f item) ≡ item
option_back f g back None = refl
option_back f g back (Some a) = ap Some (back a)
