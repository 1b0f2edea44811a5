-- A pair taken out of lists, with the place of its key.
use Rattle.std.proofs.Common.{◌≡◌, ℕ, suc, Bool, true, false, List, [], ◌∷◌, ◌++◌, map, length, Some, None, refl, sym, ap, subst, ◌∙◌, true≢false}
use Rattle.std.specs.Prelude.{nat_eq, ◌||◌, not, IsSome, if◌then◌else◌}
use Rattle.std.proofs.lemmas.Bool.Decides.{Decides-eqb}
use Rattle.std.proofs.lemmas.Option.{same_Some}
use Rattle.slab.specs.Slab.{Slab, get, Updates}
use Rattle.ob_links.specs.declared.node.NodeId.{NodeId}
use Rattle.ob_links.specs.Lists.{Pair, joined, AreApart, has_node, item_of, without_node}
use Rattle.ob_links.proofs.Nodes.{same_node, without_absent}
use Rattle.ob_owners.specs.declared.spot.Spot.{Spot}
use Rattle.ob_owners.specs.Places.{spots_of, has_key, AreKeyed}
use Rattle.ob_owners.proofs.PlacesLemmas.{key_first, key_later, key_both, keyed_kept, lists_kept}

-- Pairs without a node.

without_append : (n : NodeId) (xs ys : List Pair) → without_node n (xs ++ ys) ≡ without_node n xs ++ without_node n ys
without_append n [] ys = refl
without_append n (x ∷ xs) ys = by (nat_eq x.0.0 n.0) (without_append n xs ys)
  where
    by : (b : Bool) → without_node n (xs ++ ys) ≡ without_node n xs ++ without_node n ys
        → (if not b then x ∷ without_node n (xs ++ ys) else without_node n (xs ++ ys)) ≡ (if not b then x ∷ without_node n xs else without_node n xs) ++ without_node n ys
    by true e = e
    by false e = ap (λ zs. x ∷ zs) e

pub joined_without : (n : NodeId) (lists : List (List Pair)) → joined (map (without_node n) lists) ≡ without_node n (joined lists)
joined_without n [] = refl
joined_without n (xs ∷ ls) = ap (λ ys. without_node n xs ++ ys) (joined_without n ls) ∙ sym (without_append n xs (joined ls))

key_less : (n : NodeId) (key : ℕ) (xs : List Pair) → has_key key xs ≡ false → has_key key (without_node n xs) ≡ false
key_less n key [] h = refl
key_less n key (x ∷ xs) h = by (nat_eq x.0.0 n.0) (key_less n key xs (key_later key x xs h))
  where
    by : (b : Bool) → has_key key (without_node n xs) ≡ false → has_key key (if not b then x ∷ without_node n xs else without_node n xs) ≡ false
    by true e = e
    by false e = key_both key x (without_node n xs) (key_first key x xs h) e

keyed_less : (spots : Slab Spot) (n : NodeId) (xs : List Pair) → AreKeyed spots xs → AreKeyed spots (without_node n xs)
keyed_less spots n [] k = tt
keyed_less spots n (x ∷ xs) k = by (nat_eq x.0.0 n.0) (keyed_less spots n xs k.2)
  where
    by : (b : Bool) → AreKeyed spots (without_node n xs) → AreKeyed spots (if not b then x ∷ without_node n xs else without_node n xs)
    by true e = e
    by false e = (k.0, key_less n x.1 xs k.1, e)

item_key : (n : NodeId) (key : ℕ) (xs : List Pair) → item_of n xs ≡ Some key → has_key key xs ≡ true
item_key n key [] e = cc
item_key n key (x ∷ xs) e = by (nat_eq x.0.0 n.0) e (item_key n key xs)
  where
    later : (b : Bool) → has_key key xs ≡ true → (b || has_key key xs) ≡ true
    later true h = refl
    later false h = h

    by : (b : Bool) → (if b then Some x.1 else item_of n xs) ≡ Some key → (item_of n xs ≡ Some key → has_key key xs ≡ true) → (nat_eq x.1 key || has_key key xs) ≡ true
    by true is rest = ap (λ b. b || has_key key xs) ((Decides-eqb x.1 key).1 (same_Some x.1 key is))
    by false is rest = later (nat_eq x.1 key) (rest is)

-- the key of a node is that of a place
pub item_filled : (spots : Slab Spot) (n : NodeId) (key : ℕ) (xs : List Pair) → AreKeyed spots xs → item_of n xs ≡ Some key → IsSome (get spots key)
item_filled spots n key [] k e = cc
item_filled spots n key (x ∷ xs) k e = by (nat_eq x.0.0 n.0) e (item_filled spots n key xs k.2)
  where
    by : (b : Bool) → (if b then Some x.1 else item_of n xs) ≡ Some key → (item_of n xs ≡ Some key → IsSome (get spots key)) → IsSome (get spots key)
    by true is rest = subst (λ j. IsSome (get spots j)) (same_Some x.1 key is) k.0
    by false is rest = rest is

-- the key of a node is that of no other pair
key_gone : (spots : Slab Spot) (n : NodeId) (key : ℕ) (xs : List Pair) → AreKeyed spots xs → item_of n xs ≡ Some key → has_key key (without_node n xs) ≡ false
key_gone spots n key [] k e = refl
key_gone spots n key (x ∷ xs) k e = by (nat_eq x.0.0 n.0) e (key_gone spots n key xs k.2)
  where
    other : (b : Bool) → nat_eq x.1 key ≡ b → has_key key xs ≡ true → nat_eq x.1 key ≡ false
    other true is h = absurd (true≢false (sym h ∙ ap (λ j. has_key j xs) (sym ((Decides-eqb x.1 key).0 is)) ∙ k.1))
    other false is h = is

    by : (b : Bool) → (if b then Some x.1 else item_of n xs) ≡ Some key → (item_of n xs ≡ Some key → has_key key (without_node n xs) ≡ false) → has_key key (if not b then x ∷ without_node n xs else without_node n xs) ≡ false
    by true is rest = key_less n key xs (subst (λ j. has_key j xs ≡ false) (same_Some x.1 key is) k.1)
    by false is rest = key_both key x (without_node n xs) (other (nat_eq x.1 key) refl (item_key n key xs is)) (rest is)

pub keyed_gone : (old new : Slab Spot) (n : NodeId) (key : ℕ) (lists : List (List Pair)) → AreKeyed old (joined lists) → item_of n (joined lists) ≡ Some key
    → Updates old new key None → AreKeyed new (joined (map (without_node n) lists))
keyed_gone old new n key lists k e u =
    subst (AreKeyed new) (sym (joined_without n lists))
    (keyed_kept old new key None (without_node n (joined lists)) u (key_gone old n key (joined lists) k e) (keyed_less old n (joined lists) k))

mapped_twice : (spots : Slab Spot) (n : NodeId) (lists : List (List Pair)) → map (spots_of spots) (map (without_node n) lists) ≡ map (λ xs. spots_of spots (without_node n xs)) lists
mapped_twice spots n [] = refl
mapped_twice spots n (xs ∷ ls) = ap (λ ys. spots_of spots (without_node n xs) ∷ ys) (mapped_twice spots n ls)

pub listed_gone : (old new : Slab Spot) (n : NodeId) (key : ℕ) (lists : List (List Pair)) → AreKeyed old (joined lists) → item_of n (joined lists) ≡ Some key
    → Updates old new key None → map (spots_of new) (map (without_node n) lists) ≡ map (λ xs. spots_of old (without_node n xs)) lists
listed_gone old new n key lists k e u =
    lists_kept old new key None (map (without_node n) lists) u (ap (has_key key) (joined_without n lists) ∙ key_gone old n key (joined lists) k e)
    ∙ mapped_twice old n lists

one_gone : (n : NodeId) (xs : List Pair) → AreApart xs → has_node n xs ≡ true → suc (length (without_node n xs)) ≡ length xs
one_gone n [] a h = absurd (true≢false (sym h))
one_gone n (x ∷ xs) a h = by (nat_eq x.0.0 n.0) refl (one_gone n xs a.1)
  where
    by : (b : Bool) → nat_eq x.0.0 n.0 ≡ b → (has_node n xs ≡ true → suc (length (without_node n xs)) ≡ length xs)
        → suc (length (if not b then x ∷ without_node n xs else without_node n xs)) ≡ suc (length xs)
    by true is rest = ap (λ ys. suc (length ys)) (without_absent n xs (subst (λ m. has_node m xs ≡ false) (same_node x.0 n is) a.0))
    by false is rest = ap suc (rest (sym (ap (λ b. b || has_node n xs) is) ∙ h))

pub count_gone : (n : NodeId) (lists : List (List Pair)) → AreApart (joined lists) → has_node n (joined lists) ≡ true
    → suc (length (joined (map (without_node n) lists))) ≡ length (joined lists)
count_gone n lists a h = ap (λ xs. suc (length xs)) (joined_without n lists) ∙ one_gone n (joined lists) a h
