-- A loop's turn over a list: what stands before the next place, what is left after it, and what is noted on the way.
use Rattle.std.proofs.Common.{◌≡◌, ℕ, List, [], ◌∷◌, ◌++◌, Option, map, flat_map, sym, ap, ◌∙◌, length, take, drop, get_or, suc, ◌<◌, ◌+◌, add-one, drop-cons}
use Rattle.std.proofs.lemmas.List.{take_more, map-append}
use Rattle.std.proofs.lemmas.List.Concat.{flat_map-append}
use Rattle.ob_base.specs.declared.fault.ProgramFault.{ProgramFault}
use Rattle.ob_tree.specs.MembersView.{formal_of, listed_of}
use Rattle.ob_tree.specs.declared.member.FormalNode.{FormalNode}
use Rattle.ob_tree.specs.declared.member.ListedNode.{ListedNode}
use Rattle.ob_resolve_spec.specs.Declarations.{param_named, params_of}
use Rattle.ob_resolve_spec.specs.Sites.{Site}
use Rattle.ob_resolve_scope.proofs.BuildLemmas.{taken}
use Rattle.ob_resolve_sites.specs.Noted.{noted, noted-append}

-- what is left from a place on is the thing there, and what is left after it
pub turn : {X : Type 0} (xs : List X) (i : ℕ) (x : X) → i < length xs → x ≡ get_or xs i x
    → drop i xs ≡ x ∷ drop (i + 1) xs
turn xs i x h is = rw (add-one, drop-cons xs i x) (ap (λ y. y ∷ drop (suc i) xs) (sym is))

-- what stands before the next place is what stands before this one, and the thing there
pub take_next : {X : Type 0} (xs : List X) (i : ℕ) (x : X) → i < length xs → x ≡ get_or xs i x
    → take (i + 1) xs ≡ take i xs ++ x ∷ []
take_next xs i x h is = take_more xs i x h ∙ ap (λ y. take i xs ++ y ∷ []) (sym is)

-- sites noted of the thing at a place, and then of those after it
pub flat_map-turn : {X Y : Type 0} (g : Y → List Site) (f : X → Y) (l : Option ProgramFault) (xs : List X) (i : ℕ) (x : X)
    → i < length xs → x ≡ get_or xs i x
    → noted (noted l (g (f x))) (flat_map g (map f (drop (i + 1) xs))) ≡ noted l (flat_map g (map f (drop i xs)))
flat_map-turn g f l xs i x h is =
    sym (noted-append l (g (f x)) (flat_map g (map f (drop (i + 1) xs))))
    ∙ ap (λ r. noted l (flat_map g (map f r))) (sym (turn xs i x h is))

-- Names that are gathered.

pub params_turn : (xs : List FormalNode) (i : ℕ) (x : FormalNode) → i < length xs → x ≡ get_or xs i x
    → map (λ p. p.name) (params_of (map formal_of (take i xs))) ++ map (λ p. p.name) (params_of (formal_of x ∷ []))
    ≡ map (λ p. p.name) (params_of (map formal_of (take (i + 1) xs)))
params_turn xs i x h is =
    let before = map formal_of (take i xs) in
    sym
    (ap (λ fs. map (λ p. p.name) (params_of fs)) (taken formal_of xs i x h is)
    ∙ ap (map (λ p. p.name)) (flat_map-append (λ f. param_named f.of f.exit f.name) before (formal_of x ∷ []))
    ∙ map-append (λ p. p.name) (params_of before) (params_of (formal_of x ∷ [])))

pub listed_turn : (xs : List ListedNode) (i : ℕ) (x : ListedNode) → i < length xs → x ≡ get_or xs i x
    → map (λ l. l.name) (map listed_of (take i xs)) ++ x.name ∷ [] ≡ map (λ l. l.name) (map listed_of (take (i + 1) xs))
listed_turn xs i x h is =
    sym
    (ap (map (λ l. l.name)) (taken listed_of xs i x h is)
    ∙ map-append (λ l. l.name) (map listed_of (take i xs)) (listed_of x ∷ []))

pub ruleset list_turns = (params_turn, listed_turn)
