-- Lists in a vector of nodes, as a node goes out of a list or into one.
use Rattle.std.proofs.Common.{◌≡◌, ◌≢◌, ◌⊎◌, inl, inr, ℕ, ◌<◌, Bool, true, false, List, [], ◌∷◌, ◌++◌, map, length, set, Option, Some, None, refl, sym, ap, subst, ◌∙◌, true≢false}
use Rattle.std.specs.Prelude.{nat_eq, ◌||◌, slice_get}
use Rattle.std.proofs.lemmas.Bool.Decides.{Decides-eqb}
use Rattle.std.proofs.lemmas.List.{map-set}
use Rattle.std.proofs.lemmas.Option.{slice_get_within, same_Some}
use Rattle.ob_links.specs.declared.node.NodeId.{NodeId}
use Rattle.ob_links.specs.declared.node.Node.{Node}
use Rattle.ob_links.specs.declared.node.Ends.{Ends}
use Rattle.ob_links.specs.Lists.{Pair, has_node, AreApart}
use Rattle.ob_links.specs.Chains.{first_or, last_or, AreLinked, ends_of, AreChains, edited, with_next, with_previous, with_first, with_last}
use Rattle.ob_links.proofs.Nodes.{same_node, other_node, has_first, has_later, not_first, not_later, apart_nodes, has_left, has_right, none_left, none_right, apart_left, apart_right, apart_parts, apart_parts_back, first_append, last_append, last_in, Outside, outside_last, outside_first, get_set_same, get_set_other, edited_same, edited_other}

-- the node of a pair of a list
abbrev pub node_of : ℕ → Option NodeId → Pair → Option NodeId → Node
node_of l p x q = record { list = l; item = x.1; previous = p; next = q }

-- A list stays in a vector whose other nodes change.

pub linked_along : (nodes others : List Node) (l : ℕ) (p : Option NodeId) (xs : List Pair) (q : Option NodeId)
    → ((n : NodeId) → has_node n xs ≡ true → slice_get others n.0 ≡ slice_get nodes n.0) → AreLinked nodes l p xs q → AreLinked others l p xs q
linked_along nodes others l p [] q k h = tt
linked_along nodes others l p (x ∷ xs) q k h = (
  k x.0 (has_first x xs) ∙ h.0,
  linked_along nodes others l (Some x.0) xs q (λ n m. k n (has_later n x xs m)) h.1,
)

pub linked_edited : (n : NodeId) (f : Node → Node) (nodes : List Node) (l : ℕ) (p : Option NodeId) (xs : List Pair) (q : Option NodeId)
    → has_node n xs ≡ false → AreLinked nodes l p xs q → AreLinked (edited n f nodes) l p xs q
linked_edited n f nodes l p xs q out h =
    linked_along nodes (edited n f nodes) l p xs q (λ m has. edited_other n f nodes m.0 (apart_nodes m n xs has out)) h

pub linked_set : (n : NodeId) (v : Node) (nodes : List Node) (l : ℕ) (p : Option NodeId) (xs : List Pair) (q : Option NodeId)
    → has_node n xs ≡ false → AreLinked nodes l p xs q → AreLinked (set nodes n.0 v) l p xs q
linked_set n v nodes l p xs q out h =
    linked_along nodes (set nodes n.0 v) l p xs q (λ m has. get_set_other nodes n.0 m.0 v (apart_nodes m n xs has out)) h

pub linked_next : (place r : Option NodeId) (nodes : List Node) (l : ℕ) (p : Option NodeId) (xs : List Pair) (q : Option NodeId)
    → Outside place xs → AreLinked nodes l p xs q → AreLinked (with_next place r nodes) l p xs q
linked_next None r nodes l p xs q out h = h
linked_next (Some n) r nodes l p xs q out h = linked_edited n (λ v. record v { next = r }) nodes l p xs q out h

pub linked_previous : (place r : Option NodeId) (nodes : List Node) (l : ℕ) (p : Option NodeId) (xs : List Pair) (q : Option NodeId)
    → Outside place xs → AreLinked nodes l p xs q → AreLinked (with_previous place r nodes) l p xs q
linked_previous None r nodes l p xs q out h = h
linked_previous (Some n) r nodes l p xs q out h = linked_edited n (λ v. record v { previous = r }) nodes l p xs q out h

-- Parts of lists.

pub linked_both : (nodes : List Node) (l : ℕ) (p : Option NodeId) (xs ys : List Pair) (q : Option NodeId)
    → AreLinked nodes l p xs (first_or ys q) → AreLinked nodes l (last_or p xs) ys q → AreLinked nodes l p (xs ++ ys) q
linked_both nodes l p [] ys q a b = b
linked_both nodes l p (x ∷ xs) ys q a b = (
  a.0 ∙ ap (λ r. Some (node_of l p x r)) (first_append xs ys q),
  linked_both nodes l (Some x.0) xs ys q a.1 b,
)

pub linked_left : (nodes : List Node) (l : ℕ) (p : Option NodeId) (xs ys : List Pair) (q : Option NodeId)
    → AreLinked nodes l p (xs ++ ys) q → AreLinked nodes l p xs (first_or ys q)
linked_left nodes l p [] ys q h = tt
linked_left nodes l p (x ∷ xs) ys q h = (
  h.0 ∙ ap (λ r. Some (node_of l p x r)) (sym (first_append xs ys q)),
  linked_left nodes l (Some x.0) xs ys q h.1,
)

pub linked_right : (nodes : List Node) (l : ℕ) (p : Option NodeId) (xs ys : List Pair) (q : Option NodeId)
    → AreLinked nodes l p (xs ++ ys) q → AreLinked nodes l (last_or p xs) ys q
linked_right nodes l p [] ys q h = h
linked_right nodes l p (x ∷ xs) ys q h = linked_right nodes l (Some x.0) xs ys q h.1

-- What the nodes of a list say.

-- a node says its list
pub list_told : (nodes : List Node) (l : ℕ) (p : Option NodeId) (xs : List Pair) (q : Option NodeId) (n : NodeId)
    → has_node n xs ≡ true → AreLinked nodes l p xs q → (v : Node) × (slice_get nodes n.0 ≡ Some v) × (v.list ≡ l)
list_told nodes l p [] q n m h = absurd (true≢false (sym m))
list_told nodes l p (x ∷ xs) q n m h = by (nat_eq x.0.0 n.0) (λ k. list_told nodes l (Some x.0) xs q n k h.1) refl
  where
    by : (b : Bool) → (has_node n xs ≡ true → (v : Node) × (slice_get nodes n.0 ≡ Some v) × (v.list ≡ l)) → nat_eq x.0.0 n.0 ≡ b → (v : Node) × (slice_get nodes n.0 ≡ Some v) × (v.list ≡ l)
    by true rest is = (node_of l p x (first_or xs q), ap (λ (k : NodeId). slice_get nodes k.0) (sym (same_node x.0 n is)) ∙ h.0, refl)
    by false rest is = rest (sym (ap (λ b. b || has_node n xs) is) ∙ m)

-- a node of one list is in no other one
pub in_one_list : (nodes : List Node) (l k : ℕ) (p r : Option NodeId) (xs ys : List Pair) (q s : Option NodeId)
    → k ≢ l → AreLinked nodes l p xs q → AreLinked nodes k r ys s → (n : NodeId) → has_node n xs ≡ true → has_node n ys ≡ false
in_one_list nodes l k p r xs ys q s ne h g n m = by (has_node n ys) refl
  where
    by : (b : Bool) → has_node n ys ≡ b → has_node n ys ≡ false
    by true is =
        let a = list_told nodes l p xs q n m h in
        let b = list_told nodes k r ys s n is g in
        let v : a.0 ≡ b.0 = same_Some a.0 b.0 (sym a.1 ∙ b.1) in
        absurd (ne (sym b.2 ∙ ap (λ (w : Node). w.list) (sym v) ∙ a.2))
    by false is = is

-- the node before one of a list is the one before the list, or one of the list
pub previous_told : (nodes : List Node) (l : ℕ) (p : Option NodeId) (xs : List Pair) (q : Option NodeId) (n : NodeId)
    → has_node n xs ≡ true → AreLinked nodes l p xs q
    → (v : Node) × (slice_get nodes n.0 ≡ Some v) × ((v.previous ≡ p) ⊎ ((z : NodeId) × (v.previous ≡ Some z) × (has_node z xs ≡ true)))
previous_told nodes l p [] q n m h = absurd (true≢false (sym m))
previous_told nodes l p (x ∷ xs) q n m h = by (nat_eq x.0.0 n.0) (λ k. previous_told nodes l (Some x.0) xs q n k h.1) refl
  where
    later : (v : Node) → slice_get nodes n.0 ≡ Some v → (v.previous ≡ Some x.0) ⊎ ((z : NodeId) × (v.previous ≡ Some z) × (has_node z xs ≡ true))
        → (v : Node) × (slice_get nodes n.0 ≡ Some v) × ((v.previous ≡ p) ⊎ ((z : NodeId) × (v.previous ≡ Some z) × (has_node z (x ∷ xs) ≡ true)))
    later v e (inl is) = (v, e, inr (x.0, is, has_first x xs))
    later v e (inr z) = (v, e, inr (z.0, z.1, has_later z.0 x xs z.2))

    by : (b : Bool)
        → (has_node n xs ≡ true → (v : Node) × (slice_get nodes n.0 ≡ Some v) × ((v.previous ≡ Some x.0) ⊎ ((z : NodeId) × (v.previous ≡ Some z) × (has_node z xs ≡ true))))
        → nat_eq x.0.0 n.0 ≡ b
        → (v : Node) × (slice_get nodes n.0 ≡ Some v) × ((v.previous ≡ p) ⊎ ((z : NodeId) × (v.previous ≡ Some z) × (has_node z (x ∷ xs) ≡ true)))
    by true rest is = (node_of l p x (first_or xs q), ap (λ (k : NodeId). slice_get nodes k.0) (sym (same_node x.0 n is)) ∙ h.0, inl refl)
    by false rest is = let t = rest (sym (ap (λ b. b || has_node n xs) is) ∙ m) in later t.0 t.1 t.2

-- so no node is in two pairs of a list
pub linked_apart : (nodes : List Node) (l : ℕ) (p : Option NodeId) (xs : List Pair) (q : Option NodeId)
    → Outside p xs → AreLinked nodes l p xs q → AreApart xs
linked_apart nodes l p [] q out h = tt
linked_apart nodes l p (x ∷ xs) q out h = (once, linked_apart nodes l (Some x.0) xs q once h.1)
  where
    never : (o : Option NodeId) (z : NodeId) → Outside o (x ∷ xs) → o ≡ Some z → has_node z (x ∷ xs) ≡ true → ⊥
    never None z out e m = cc
    never (Some w) z out e m = apart_nodes z w (x ∷ xs) m out (ap (λ (k : NodeId). k.0) (sym (same_Some w z e)))

    before : (v : Node) → slice_get nodes x.0.0 ≡ Some v → (v.previous ≡ Some x.0) ⊎ ((z : NodeId) × (v.previous ≡ Some z) × (has_node z xs ≡ true)) → ⊥
    before v e t =
        let same : v ≡ node_of l p x (first_or xs q) = same_Some v (node_of l p x (first_or xs q)) (sym e ∙ h.0) in
        let was : v.previous ≡ p = ap (λ (w : Node). w.previous) same in
        elim t [ inl is ↦ never p x.0 out (sym was ∙ is) (has_first x xs) | inr z ↦ never p z.0 out (sym was ∙ z.1) (has_later z.0 x xs z.2) ]

    by : (b : Bool) → has_node x.0 xs ≡ b → has_node x.0 xs ≡ false
    by true is = let t = previous_told nodes l (Some x.0) xs q x.0 is h.1 in absurd (before t.0 t.1 t.2)
    by false is = is

    once : has_node x.0 xs ≡ false
    once = by (has_node x.0 xs) refl

-- The node behind the last of a list is another, or that before the first.

pub linked_behind : (nodes : List Node) (l : ℕ) (p : Option NodeId) (xs : List Pair) (q r : Option NodeId)
    → AreApart xs → AreLinked nodes l p xs q → AreLinked (with_next (last_or None xs) r nodes) l p xs r
linked_behind nodes l p [] q r a h = tt
linked_behind nodes l p (x ∷ []) q r a h = (edited_same x.0 (λ v. record v { next = r }) nodes (node_of l p x q) h.0, tt)
linked_behind nodes l p (x ∷ y ∷ ys) q r a h = (
  head,
  linked_behind nodes l (Some x.0) (y ∷ ys) q r a.1 h.1,
)
  where
    head : slice_get (with_next (last_or None (y ∷ ys)) r nodes) x.0.0 ≡ Some (node_of l p x (Some y.0))
    head =
        let z = last_in None y ys in
        ap (λ o. slice_get (with_next o r nodes) x.0.0) z.1
        ∙ edited_other z.0 (λ v. record v { next = r }) nodes x.0.0 (λ e. apart_nodes z.0 x.0 (y ∷ ys) z.2 a.0 (sym e))
        ∙ h.0

pub linked_before : (nodes : List Node) (l : ℕ) (p : Option NodeId) (xs : List Pair) (q r : Option NodeId)
    → AreApart xs → AreLinked nodes l p xs q → AreLinked (with_previous (first_or xs None) r nodes) l r xs q
linked_before nodes l p [] q r a h = tt
linked_before nodes l p (x ∷ xs) q r a h = (
  edited_same x.0 (λ v. record v { previous = r }) nodes (node_of l p x (first_or xs q)) h.0,
  linked_edited x.0 (λ v. record v { previous = r }) nodes l (Some x.0) xs q a.0 h.1,
)

-- Lists of which one changes.

pub chains_with : (nodes others : List Node) (ends : List Ends) (chains : List (List Pair)) (l : ℕ) (e : Ends) (ys : List Pair)
    → l < length chains → AreChains nodes ends chains → e ≡ ends_of ys → AreLinked others l None ys None
    → ((k : ℕ) (xs : List Pair) → k ≢ l → slice_get chains k ≡ Some xs → AreLinked nodes k None xs None → AreLinked others k None xs None)
    → AreChains others (set ends l e) (set chains l ys)
chains_with nodes others ends chains l e ys within h is one rest = record {
  borders = ap (λ es. set es l e) h.borders ∙ ap (λ f. set (map ends_of chains) l f) is ∙ sym (map-set ends_of chains l ys);
  linked = λ k xs at. by k xs at (nat_eq k l) refl;
}
  where
    by : (k : ℕ) (xs : List Pair) → slice_get (set chains l ys) k ≡ Some xs → (b : Bool) → nat_eq k l ≡ b → AreLinked others k None xs None
    by k xs at true is =
        let same : k ≡ l = (Decides-eqb k l).0 is in
        let there : slice_get (set chains l ys) k ≡ Some ys = ap (slice_get (set chains l ys)) same ∙ get_set_same chains l ys within in
        let this : ys ≡ xs = same_Some ys xs (sym there ∙ at) in
        subst (λ zs. AreLinked others k None zs None) this (subst (λ j. AreLinked others j None ys None) (sym same) one)
    by k xs at false is =
        let ne : k ≢ l = λ e. true≢false (sym ((Decides-eqb k l).1 e) ∙ is) in
        let there : slice_get chains k ≡ Some xs = sym (get_set_other chains l k ys ne) ∙ at in
        rest k xs ne there (h.linked k xs there)

-- A node goes out of a list.

-- the nodes and the ends after that
abbrev pub unlinked_nodes : List Pair → List Pair → List Node → List Node
unlinked_nodes us bs nodes = with_previous (first_or bs None) (last_or None us) (with_next (last_or None us) (first_or bs None) nodes)

abbrev pub unlinked_ends : List Pair → List Pair → Ends → Ends
unlinked_ends us bs e = with_last (first_or bs None) (last_or None us) (with_first (last_or None us) (first_or bs None) e)

unlinked_first : (us : List Pair) (x : Pair) (bs : List Pair)
    → with_first (last_or None us) (first_or bs None) (ends_of (us ++ x ∷ bs)) ≡ record { first = first_or (us ++ bs) None; last = last_or None (us ++ x ∷ bs) }
unlinked_first [] x bs = refl
unlinked_first (a ∷ us) x bs =
    let z = last_in None a us in
    ap (λ o. with_first o (first_or bs None) (ends_of (a ∷ (us ++ x ∷ bs)))) z.1

unlinked_last : (us : List Pair) (x : Pair) (bs : List Pair) (f : Option NodeId)
    → with_last (first_or bs None) (last_or None us) (record { first = f; last = last_or None (us ++ x ∷ bs) }) ≡ record { first = f; last = last_or None (us ++ bs) }
unlinked_last us x [] f =
    let of : Option NodeId → Ends = λ o. record { first = f; last = o } in ap of (last_append us [] None)
unlinked_last us x (b ∷ bs) f =
    let of : Option NodeId → Ends = λ o. record { first = f; last = o } in
    ap of (sym (last_append us (x ∷ b ∷ bs) None) ∙ last_append us (b ∷ bs) None)

pub ends_unlinked : (us : List Pair) (x : Pair) (bs : List Pair) → unlinked_ends us bs (ends_of (us ++ x ∷ bs)) ≡ ends_of (us ++ bs)
ends_unlinked us x bs =
    ap (with_last (first_or bs None) (last_or None us)) (unlinked_first us x bs) ∙ unlinked_last us x bs (first_or (us ++ bs) None)

pub linked_unlinked : (nodes : List Node) (l : ℕ) (us : List Pair) (x : Pair) (bs : List Pair)
    → AreLinked nodes l None (us ++ x ∷ bs) None → AreLinked (unlinked_nodes us bs nodes) l None (us ++ bs) None
linked_unlinked nodes l us x bs h =
    let all : AreApart (us ++ x ∷ bs) = linked_apart nodes l None (us ++ x ∷ bs) None tt h in
    let left : AreApart us = apart_left us (x ∷ bs) all in
    let right : AreApart bs = (apart_right us (x ∷ bs) all).1 in
    let forth : (n : NodeId) → has_node n us ≡ true → has_node n bs ≡ false = λ n m. not_later n x bs (apart_parts n us (x ∷ bs) all m) in
    let back : (n : NodeId) → has_node n bs ≡ true → has_node n us ≡ false = λ n m. apart_parts_back n us (x ∷ bs) all (has_later n x bs m) in
    let p = last_or None us in
    let q = first_or bs None in
    let other = with_next p q nodes in
    let a : AreLinked nodes l None us (Some x.0) = linked_left nodes l None us (x ∷ bs) None h in
    let b : AreLinked nodes l (Some x.0) bs None = (linked_right nodes l None us (x ∷ bs) None h).1 in
    let a1 : AreLinked other l None us q = linked_behind nodes l None us (Some x.0) q left a in
    let b1 : AreLinked other l (Some x.0) bs None = linked_next p q nodes l (Some x.0) bs None (outside_last us bs forth) b in
    linked_both (unlinked_nodes us bs nodes) l None us bs None
    (linked_previous q p other l None us q (outside_first bs us back) a1)
    (linked_before other l (Some x.0) bs None p right b1)

pub chains_unlinked : (nodes : List Node) (ends : List Ends) (chains : List (List Pair)) (l : ℕ) (us : List Pair) (x : Pair) (bs : List Pair)
    → AreChains nodes ends chains → slice_get chains l ≡ Some (us ++ x ∷ bs)
    → AreChains (unlinked_nodes us bs nodes) (set ends l (unlinked_ends us bs (ends_of (us ++ x ∷ bs)))) (set chains l (us ++ bs))
chains_unlinked nodes ends chains l us x bs h at =
    let here : AreLinked nodes l None (us ++ x ∷ bs) None = h.linked l (us ++ x ∷ bs) at in
    let p = last_or None us in
    let q = first_or bs None in
    chains_with nodes (unlinked_nodes us bs nodes) ends chains l (unlinked_ends us bs (ends_of (us ++ x ∷ bs))) (us ++ bs)
    (slice_get_within chains l (us ++ x ∷ bs) at) h (ends_unlinked us x bs) (linked_unlinked nodes l us x bs here)
    (λ k xs ne there g.
    let out : (n : NodeId) → has_node n (us ++ x ∷ bs) ≡ true → has_node n xs ≡ false = in_one_list nodes l k None None (us ++ x ∷ bs) xs None None ne here g in
    linked_previous q p (with_next p q nodes) k None xs None
    (outside_first bs xs (λ n m. out n (has_right n us (x ∷ bs) (has_later n x bs m))))
    (linked_next p q nodes k None xs None (outside_last us xs (λ n m. out n (has_left n us (x ∷ bs) m))) g))

-- A node goes into a list.

-- the nodes and the ends after that
abbrev pub linked_nodes : ℕ → List Pair → Pair → List Pair → List Node → List Node
linked_nodes l us x bs nodes =
    with_previous (first_or bs None) (Some x.0)
    (with_next (last_or None us) (Some x.0) (set nodes x.0.0 (node_of l (last_or None us) x (first_or bs None))))

abbrev pub linked_ends : List Pair → Pair → List Pair → Ends → Ends
linked_ends us x bs e = with_last (first_or bs None) (Some x.0) (with_first (last_or None us) (Some x.0) e)

linked_first : (us : List Pair) (x : Pair) (bs : List Pair)
    → with_first (last_or None us) (Some x.0) (ends_of (us ++ bs)) ≡ record { first = first_or (us ++ x ∷ bs) None; last = last_or None (us ++ bs) }
linked_first [] x bs = refl
linked_first (a ∷ us) x bs = let z = last_in None a us in ap (λ o. with_first o (Some x.0) (ends_of (a ∷ (us ++ bs)))) z.1

linked_last : (us : List Pair) (x : Pair) (bs : List Pair) (f : Option NodeId)
    → with_last (first_or bs None) (Some x.0) (record { first = f; last = last_or None (us ++ bs) }) ≡ record { first = f; last = last_or None (us ++ x ∷ bs) }
linked_last us x [] f =
    let of : Option NodeId → Ends = λ o. record { first = f; last = o } in ap of (last_append us (x ∷ []) None)
linked_last us x (b ∷ bs) f =
    let of : Option NodeId → Ends = λ o. record { first = f; last = o } in
    ap of (sym (last_append us (b ∷ bs) None) ∙ last_append us (x ∷ b ∷ bs) None)

pub ends_linked : (us : List Pair) (x : Pair) (bs : List Pair) → linked_ends us x bs (ends_of (us ++ bs)) ≡ ends_of (us ++ x ∷ bs)
ends_linked us x bs =
    ap (with_last (first_or bs None) (Some x.0)) (linked_first us x bs) ∙ linked_last us x bs (first_or (us ++ x ∷ bs) None)

-- a node that isn't the one at a place
next_elsewhere : (place r : Option NodeId) (nodes : List Node) (x : Pair) → Outside place (x ∷ []) → slice_get (with_next place r nodes) x.0.0 ≡ slice_get nodes x.0.0
next_elsewhere None r nodes x out = refl
next_elsewhere (Some n) r nodes x out = edited_other n (λ v. record v { next = r }) nodes x.0.0 (other_node x.0 n (not_first n x [] out))

previous_elsewhere : (place r : Option NodeId) (nodes : List Node) (x : Pair) → Outside place (x ∷ []) → slice_get (with_previous place r nodes) x.0.0 ≡ slice_get nodes x.0.0
previous_elsewhere None r nodes x out = refl
previous_elsewhere (Some n) r nodes x out = edited_other n (λ v. record v { previous = r }) nodes x.0.0 (other_node x.0 n (not_first n x [] out))

-- a list without a node: its nodes are others
others_of : (x : Pair) (xs : List Pair) → has_node x.0 xs ≡ false → (n : NodeId) → has_node n xs ≡ true → has_node n (x ∷ []) ≡ false
others_of x xs out n m = by (nat_eq x.0.0 n.0) refl
  where
    by : (b : Bool) → nat_eq x.0.0 n.0 ≡ b → (nat_eq x.0.0 n.0 || false) ≡ false
    by true is = absurd (true≢false (sym m ∙ ap (λ k. has_node k xs) (sym (same_node x.0 n is)) ∙ out))
    by false is = ap (λ b. b || false) is

pub linked_linked : (nodes : List Node) (l : ℕ) (us : List Pair) (x : Pair) (bs : List Pair)
    → x.0.0 < length nodes → has_node x.0 (us ++ bs) ≡ false → AreLinked nodes l None (us ++ bs) None
    → AreLinked (linked_nodes l us x bs nodes) l None (us ++ x ∷ bs) None
linked_linked nodes l us x bs within alone h =
    let all : AreApart (us ++ bs) = linked_apart nodes l None (us ++ bs) None tt h in
    let left : AreApart us = apart_left us bs all in
    let right : AreApart bs = apart_right us bs all in
    let not_us : has_node x.0 us ≡ false = none_left x.0 us bs alone in
    let not_bs : has_node x.0 bs ≡ false = none_right x.0 us bs alone in
    let p = last_or None us in
    let q = first_or bs None in
    let here = node_of l p x q in
    let first = set nodes x.0.0 here in
    let second = with_next p (Some x.0) first in
    let a : AreLinked first l None us q = linked_set x.0 here nodes l None us q not_us (linked_left nodes l None us bs None h) in
    let b : AreLinked first l p bs None = linked_set x.0 here nodes l p bs None not_bs (linked_right nodes l None us bs None h) in
    let a1 : AreLinked second l None us (Some x.0) = linked_behind first l None us q (Some x.0) left a in
    let b1 : AreLinked second l p bs None = linked_next p (Some x.0) first l p bs None (outside_last us bs (λ n m. apart_parts n us bs all m)) b in
    let there : slice_get (linked_nodes l us x bs nodes) x.0.0 ≡ Some here =
    previous_elsewhere q (Some x.0) second x (outside_first bs (x ∷ []) (others_of x bs not_bs))
    ∙ next_elsewhere p (Some x.0) first x (outside_last us (x ∷ []) (others_of x us not_us))
    ∙ get_set_same nodes x.0.0 here within in
    linked_both (linked_nodes l us x bs nodes) l None us (x ∷ bs) None
    (linked_previous q (Some x.0) second l None us (Some x.0) (outside_first bs us (λ n m. apart_parts_back n us bs all m)) a1)
    (there, linked_before second l p bs None (Some x.0) right b1)

pub chains_linked : (nodes : List Node) (ends : List Ends) (chains : List (List Pair)) (l : ℕ) (us : List Pair) (x : Pair) (bs : List Pair)
    → AreChains nodes ends chains → slice_get chains l ≡ Some (us ++ bs) → x.0.0 < length nodes
    → ((k : ℕ) (xs : List Pair) → slice_get chains k ≡ Some xs → has_node x.0 xs ≡ false)
    → AreChains (linked_nodes l us x bs nodes) (set ends l (linked_ends us x bs (ends_of (us ++ bs)))) (set chains l (us ++ x ∷ bs))
chains_linked nodes ends chains l us x bs h at within alone =
    let here : AreLinked nodes l None (us ++ bs) None = h.linked l (us ++ bs) at in
    let p = last_or None us in
    let q = first_or bs None in
    let v = node_of l p x q in
    let first = set nodes x.0.0 v in
    chains_with nodes (linked_nodes l us x bs nodes) ends chains l (linked_ends us x bs (ends_of (us ++ bs))) (us ++ x ∷ bs)
    (slice_get_within chains l (us ++ bs) at) h (ends_linked us x bs) (linked_linked nodes l us x bs within (alone l (us ++ bs) at) here)
    (λ k xs ne there g.
    let out : (n : NodeId) → has_node n (us ++ bs) ≡ true → has_node n xs ≡ false = in_one_list nodes l k None None (us ++ bs) xs None None ne here g in
    linked_previous q (Some x.0) (with_next p (Some x.0) first) k None xs None
    (outside_first bs xs (λ n m. out n (has_right n us bs m)))
    (linked_next p (Some x.0) first k None xs None (outside_last us xs (λ n m. out n (has_left n us bs m)))
    (linked_set x.0 v nodes k None xs None (alone k xs there) g)))
