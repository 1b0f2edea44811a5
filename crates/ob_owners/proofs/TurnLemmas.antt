-- What is left of a list, gone over from its front.
use Rattle.std.proofs.Common.{◌≡◌, ℕ, ◌+◌, ◌<◌, ◌≤◌, List, [], ◌∷◌, length, get_or, drop, sym, ap, ◌∙◌}
use Rattle.std.proofs.lemmas.List.{drop_more, drop_all}

-- what is left of a list at a place: the thing there, and what is after it
pub rest_turn : {A : Type 0} (items own : List A) (place : ℕ) (x : A) → items ≡ own → place < length items → x ≡ get_or items place x
    → drop place own ≡ x ∷ drop (place + 1) own
rest_turn {A} items own place x e l at =
    ap (drop place) (sym e) ∙ drop_more items place x l ∙ ap (λ y. y ∷ drop (place + 1) items) (sym at) ∙ ap (λ ys. x ∷ drop (place + 1) ys) e

-- nothing is left of a list past its end
pub rest_end : {A : Type 0} (items own : List A) (place : ℕ) → items ≡ own → length items ≤ place → drop place own ≡ []
rest_end items own place e l = ap (drop place) (sym e) ∙ drop_all place items l
