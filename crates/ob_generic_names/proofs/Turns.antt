-- A loop's turn, in each list that is put after another.
use Rattle.std.proofs.Common.{◌≡◌, ℕ, ◌+◌, ◌<◌, List, [], ◌∷◌, ◌++◌, codes, length, take, get_or, refl, sym, ap, ◌∙◌, append_assoc, append-nil}
use Rattle.std.specs.List.{flat_map}
use Rattle.std.proofs.lemmas.List.{take_more, map-append}
use Rattle.ob_base.specs.declared.fault.Span.{Span}
use Rattle.ob_tree.specs.declared.name.NamePart.{NamePart}
use Rattle.ob_generic_spec.specs.Substitution.{Own, states_at, state_in, printed_more}

flat_map-append : {A B : Type 0} (f : A → List B) (xs ys : List A)
    → flat_map f (xs ++ ys) ≡ flat_map f xs ++ flat_map f ys
flat_map-append f [] ys = refl
flat_map-append f (x ∷ xs) ys =
    ap (λ l. f x ++ l) (flat_map-append f xs ys) ∙ sym (append_assoc (f x) (flat_map f xs) (flat_map f ys))

abbrev part_at : Span → NamePart → NamePart
part_at span n = record { name = n.name; span = span }

pub at_turn : (span : Span) (xs : List NamePart) (i : ℕ) (x : NamePart) → i < length xs → x ≡ get_or xs i x
    → states_at span (take (i + 1) xs) ≡ states_at span (take i xs) ++ part_at span x ∷ []
at_turn span xs i x h is =
    ap (states_at span) (take_more xs i x h) ∙ map-append (part_at span) (take i xs) (get_or xs i x ∷ [])
    ∙ ap (λ y. states_at span (take i xs) ++ part_at span y ∷ []) (sym is)

pub states_turn : (o : Own) (xs : List NamePart) (i : ℕ) (x : NamePart) → i < length xs → x ≡ get_or xs i x
    → flat_map (state_in o) (take (i + 1) xs) ≡ flat_map (state_in o) (take i xs) ++ state_in o x
states_turn o xs i x h is =
    ap (flat_map (state_in o)) (take_more xs i x h) ∙ flat_map-append (state_in o) (take i xs) (get_or xs i x ∷ [])
    ∙ ap (λ l. flat_map (state_in o) (take i xs) ++ l)
    (append-nil (state_in o (get_or xs i x)) ∙ ap (state_in o) (sym is))

more-append : (xs ys : List NamePart) → printed_more (xs ++ ys) ≡ printed_more xs ++ printed_more ys
more-append [] ys = refl
more-append (x ∷ xs) ys =
    ap (λ l. codes "|" ++ x.name ++ l) (more-append xs ys)
    ∙ sym (append_assoc (codes "|" ++ x.name) (printed_more xs) (printed_more ys))

pub more_turn : (xs : List NamePart) (i : ℕ) (x : NamePart) → i < length xs → x ≡ get_or xs i x
    → printed_more (take (i + 1) xs) ≡ printed_more (take i xs) ++ (codes "|" ++ x.name)
more_turn xs i x h is =
    ap printed_more (take_more xs i x h) ∙ more-append (take i xs) (get_or xs i x ∷ [])
    ∙ ap (λ l. printed_more (take i xs) ++ l)
    (append-nil (codes "|" ++ (get_or xs i x).name) ∙ ap (λ y. codes "|" ++ y.name) (sym is))

pub ruleset turns = (at_turn, states_turn, more_turn, append_assoc)
