-- Names that were seen so far, in a map.
use Rattle.std.proofs.Common.{◌≡◌, ℕ, List, is_some, map, length, take, get_or, sym, ap, ◌∙◌, ◌<◌, ◌+◌, arith}
use Rattle.std.proofs.lemmas.List.{length-map, length-take-le}
use Rattle.ob_tree.specs.declared.name.NamePart.{NamePart}
use Rattle.ob_table_spec.specs.Names.{Name, is_among}
use Rattle.ob_resolve_scope.specs.Numbered.{find, added, numbered}
use Rattle.ob_resolve_scope.proofs.NumberedLemmas.{find-numbered, number_of-is_some, numbered-push}
use Rattle.ob_resolve_scope.proofs.BuildLemmas.{taken}

-- a name is found where it is one of them
pub found-numbered : (name : Name) (xs : List Name) → is_some (find name (numbered xs)) ≡ is_among name xs
found-numbered name xs = ap is_some (find-numbered name xs) ∙ number_of-is_some name xs

-- one more name after those before a place
pub seen-turn : {A : Type 0} (f : A → Name) (xs : List A) (i : ℕ) (x : A) → i < length xs → x ≡ get_or xs i x
    → added (numbered (map f (take i xs))) (f x) i ≡ numbered (map f (take (i + 1) xs))
seen-turn f xs i x h is =
    let n : length (map f (take i xs)) ≡ i = length-map (take i xs) f ∙ length-take-le i xs (omega arith) in
    sym
    (ap numbered (taken f xs i x h is)
    ∙ numbered-push (map f (take i xs)) (f x)
    ∙ ap (added (numbered (map f (take i xs))) (f x)) n)

pub seen_turn : (xs : List NamePart) (i : ℕ) (x : NamePart) → i < length xs → x ≡ get_or xs i x
    → added (numbered (map (λ p. p.name) (take i xs))) x.name i ≡ numbered (map (λ p. p.name) (take (i + 1) xs))
seen_turn xs i x h is = seen-turn (λ p. p.name) xs i x h is
