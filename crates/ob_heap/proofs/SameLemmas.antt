-- Fields that are the same.
use Rattle.std.proofs.Common.{◌≡◌, ◌≢◌, ℕ, suc, ◌+◌, ◌<◌, ◌≤◌, Bool, true, false, List, [], ◌∷◌, length, refl, sym, ap, ◌∙◌, get_or, drop}
use Rattle.std.specs.Prelude.{nat_eq, ◌&&◌}
use Rattle.std.proofs.lemmas.List.{drop_more, drop_all}
use Rattle.ob_base.specs.declared.id.FieldId.{FieldId}
use Rattle.ob_heap.specs.declared.value.Value.{Value}
use Rattle.ob_heap.specs.Differences.{same_value, same_fields}

and_false : (b : Bool) → (b && false) ≡ false
and_false true = refl
and_false false = refl

pub same_length : (xs ys : List (FieldId × Value)) → length xs ≢ length ys → same_fields xs ys ≡ false
same_length [] [] h = absurd (h refl)
same_length [] (y ∷ ys) h = refl
same_length (x ∷ xs) [] h = refl
same_length (x ∷ xs) (y ∷ ys) h = ap (λ b. (nat_eq x.0.0 y.0.0 && same_value x.1 y.1) && b) (same_length xs ys (λ e. h (ap suc e)))
    ∙ and_false (nat_eq x.0.0 y.0.0 && same_value x.1 y.1)

pub same_turn : (xs ys : List (FieldId × Value)) (i : ℕ) (x y : FieldId × Value) → i < length xs → i < length ys → x ≡ get_or xs i x → y ≡ get_or ys i y
    → same_fields (drop i xs) (drop i ys) ≡ ((nat_eq x.0.0 y.0.0 && same_value x.1 y.1) && same_fields (drop (i + 1) xs) (drop (i + 1) ys))
same_turn xs ys i x y h k e f =
    ap (λ zs. same_fields zs (drop i ys)) (drop_more xs i x h ∙ ap (λ z. z ∷ drop (i + 1) xs) (sym e))
    ∙ ap (λ zs. same_fields (x ∷ drop (i + 1) xs) zs) (drop_more ys i y k ∙ ap (λ z. z ∷ drop (i + 1) ys) (sym f))

pub same_end : (xs ys : List (FieldId × Value)) (i : ℕ) → length xs ≤ i → length ys ≤ i → same_fields (drop i xs) (drop i ys) ≡ true
same_end xs ys i h k = ap (λ zs. same_fields zs (drop i ys)) (drop_all i xs h) ∙ ap (same_fields []) (drop_all i ys k)

pub ruleset sames = (same_length, same_turn, same_end)
