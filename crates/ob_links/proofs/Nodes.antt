-- Nodes in lists, and nodes in a vector.
use Rattle.std.proofs.Common.{◌≡◌, ◌≢◌, ◌⊎◌, inl, inr, ℕ, zero, suc, ◌<◌, Bool, true, false, List, [], ◌∷◌, ◌++◌, length, set, Option, Some, None, refl, sym, ap, subst, ◌∙◌, true≢false, arith}
use Rattle.std.specs.Prelude.{⊤, nat_eq, not, ◌||◌, slice_get, if◌then◌else◌}
use Rattle.std.specs.Option.{option_map_or}
use Rattle.std.proofs.lemmas.Bool.Decides.{Decides-eqb}
use Rattle.std.proofs.lemmas.Option.{slice_get_within}
use Rattle.ob_links.specs.declared.node.NodeId.{NodeId}
use Rattle.ob_links.specs.declared.node.Node.{Node}
use Rattle.ob_links.specs.Lists.{Pair, has_node, without_node, AreApart}
use Rattle.ob_links.specs.Chains.{edited, first_or, last_or}

-- Numbers of nodes.

pub same_node : (a b : NodeId) → nat_eq a.0 b.0 ≡ true → a ≡ b
same_node a b is = let of : ℕ → NodeId = λ k. record { 0 = k } in ap of ((Decides-eqb a.0 b.0).0 is)

pub own_node : (a : NodeId) → nat_eq a.0 a.0 ≡ true
own_node a = (Decides-eqb a.0 a.0).1 refl

pub other_node : (a b : NodeId) → nat_eq a.0 b.0 ≡ false → a.0 ≢ b.0
other_node a b is = λ e. true≢false (sym ((Decides-eqb a.0 b.0).1 e) ∙ is)

-- Nodes of lists.

pub has_first : (x : Pair) (xs : List Pair) → has_node x.0 (x ∷ xs) ≡ true
has_first x xs = ap (λ b. b || has_node x.0 xs) (own_node x.0)

or_true : (b c : Bool) → c ≡ true → (b || c) ≡ true
or_true true c h = refl
or_true false c h = h

or_false : (b c : Bool) → (b || c) ≡ false → (b ≡ false) × (c ≡ false)
or_false true c h = absurd (true≢false h)
or_false false c h = (refl, h)

pub has_later : (n : NodeId) (x : Pair) (xs : List Pair) → has_node n xs ≡ true → has_node n (x ∷ xs) ≡ true
has_later n x xs h = or_true (nat_eq x.0.0 n.0) (has_node n xs) h

pub not_first : (n : NodeId) (x : Pair) (xs : List Pair) → has_node n (x ∷ xs) ≡ false → nat_eq x.0.0 n.0 ≡ false
not_first n x xs h = (or_false (nat_eq x.0.0 n.0) (has_node n xs) h).0

pub not_later : (n : NodeId) (x : Pair) (xs : List Pair) → has_node n (x ∷ xs) ≡ false → has_node n xs ≡ false
not_later n x xs h = (or_false (nat_eq x.0.0 n.0) (has_node n xs) h).1

-- a node of one list is none of another
pub apart_nodes : (a b : NodeId) (xs : List Pair) → has_node a xs ≡ true → has_node b xs ≡ false → a.0 ≢ b.0
apart_nodes a b xs h k e =
    let of : ℕ → NodeId = λ i. record { 0 = i } in
    true≢false (sym h ∙ ap (λ i. has_node (of i) xs) e ∙ k)

pub has_left : (n : NodeId) (xs ys : List Pair) → has_node n xs ≡ true → has_node n (xs ++ ys) ≡ true
has_left n [] ys h = absurd (true≢false (sym h))
has_left n (x ∷ xs) ys h = by (nat_eq x.0.0 n.0) (has_left n xs ys) h
  where
    by : (b : Bool) → (has_node n xs ≡ true → has_node n (xs ++ ys) ≡ true) → (b || has_node n xs) ≡ true → (b || has_node n (xs ++ ys)) ≡ true
    by true rest h = refl
    by false rest h = rest h

pub has_right : (n : NodeId) (xs ys : List Pair) → has_node n ys ≡ true → has_node n (xs ++ ys) ≡ true
has_right n [] ys h = h
has_right n (x ∷ xs) ys h = has_later n x (xs ++ ys) (has_right n xs ys h)

pub none_left : (n : NodeId) (xs ys : List Pair) → has_node n (xs ++ ys) ≡ false → has_node n xs ≡ false
none_left n [] ys h = refl
none_left n (x ∷ xs) ys h =
    ap (λ b. b || has_node n xs) (not_first n x (xs ++ ys) h) ∙ none_left n xs ys (not_later n x (xs ++ ys) h)

pub none_right : (n : NodeId) (xs ys : List Pair) → has_node n (xs ++ ys) ≡ false → has_node n ys ≡ false
none_right n [] ys h = h
none_right n (x ∷ xs) ys h = none_right n xs ys (not_later n x (xs ++ ys) h)

pub none_both : (n : NodeId) (xs ys : List Pair) → has_node n xs ≡ false → has_node n ys ≡ false → has_node n (xs ++ ys) ≡ false
none_both n [] ys h k = k
none_both n (x ∷ xs) ys h k =
    ap (λ b. b || has_node n (xs ++ ys)) (not_first n x xs h) ∙ none_both n xs ys (not_later n x xs h) k

pub in_either : (n : NodeId) (xs ys : List Pair) → has_node n (xs ++ ys) ≡ true → (has_node n xs ≡ true) ⊎ (has_node n ys ≡ true)
in_either n [] ys h = inr h
in_either n (x ∷ xs) ys h = by (nat_eq x.0.0 n.0) (in_either n xs ys) h
  where
    by : (b : Bool) → (has_node n (xs ++ ys) ≡ true → (has_node n xs ≡ true) ⊎ (has_node n ys ≡ true))
        → (b || has_node n (xs ++ ys)) ≡ true → ((b || has_node n xs) ≡ true) ⊎ (has_node n ys ≡ true)
    by true rest h = inl refl
    by false rest h = rest h

-- Lists in which no node is in two pairs.

pub apart_left : (xs ys : List Pair) → AreApart (xs ++ ys) → AreApart xs
apart_left [] ys a = tt
apart_left (x ∷ xs) ys a = (none_left x.0 xs ys a.0, apart_left xs ys a.1)

pub apart_right : (xs ys : List Pair) → AreApart (xs ++ ys) → AreApart ys
apart_right [] ys a = a
apart_right (x ∷ xs) ys a = apart_right xs ys a.1

-- a node of the first part is none of the second one
pub apart_parts : (n : NodeId) (xs ys : List Pair) → AreApart (xs ++ ys) → has_node n xs ≡ true → has_node n ys ≡ false
apart_parts n [] ys a h = absurd (true≢false (sym h))
apart_parts n (x ∷ xs) ys a h = by (nat_eq x.0.0 n.0) (apart_parts n xs ys a.1) refl
  where
    by : (b : Bool) → (has_node n xs ≡ true → has_node n ys ≡ false) → nat_eq x.0.0 n.0 ≡ b → has_node n ys ≡ false
    by true rest is = ap (λ m. has_node m ys) (sym (same_node x.0 n is)) ∙ none_right x.0 xs ys a.0
    by false rest is = rest (sym (ap (λ b. b || has_node n xs) is) ∙ h)

pub apart_parts_back : (n : NodeId) (xs ys : List Pair) → AreApart (xs ++ ys) → has_node n ys ≡ true → has_node n xs ≡ false
apart_parts_back n xs ys a h = by (has_node n xs) refl
  where
    by : (b : Bool) → has_node n xs ≡ b → has_node n xs ≡ false
    by true is = absurd (true≢false (sym h ∙ apart_parts n xs ys a is))
    by false is = is

pub apart_both : (xs ys : List Pair) → AreApart xs → AreApart ys → ((n : NodeId) → has_node n xs ≡ true → has_node n ys ≡ false) → AreApart (xs ++ ys)
apart_both [] ys a b h = b
apart_both (x ∷ xs) ys a b h = (
  none_both x.0 xs ys a.0 (h x.0 (has_first x xs)),
  apart_both xs ys a.1 b (λ n k. h n (has_later n x xs k)),
)

-- Lists without a node.

pub without_absent : (n : NodeId) (xs : List Pair) → has_node n xs ≡ false → without_node n xs ≡ xs
without_absent n [] h = refl
without_absent n (x ∷ xs) h =
    ap (λ b. if not b then x ∷ without_node n xs else without_node n xs) (not_first n x xs h)
    ∙ ap (λ r. x ∷ r) (without_absent n xs (not_later n x xs h))

pub without_at : (n : NodeId) (xs : List Pair) (x : Pair) (ys : List Pair) → x.0 ≡ n → has_node n xs ≡ false → has_node n ys ≡ false
    → without_node n (xs ++ x ∷ ys) ≡ xs ++ ys
without_at n [] x ys e h k =
    ap (λ b. if not b then x ∷ without_node n ys else without_node n ys) (ap (λ (m : NodeId). nat_eq m.0 n.0) e ∙ own_node n)
    ∙ without_absent n ys k
without_at n (y ∷ xs) x ys e h k =
    ap (λ b. if not b then y ∷ without_node n (xs ++ x ∷ ys) else without_node n (xs ++ x ∷ ys)) (not_first n y xs h)
    ∙ ap (λ r. y ∷ r) (without_at n xs x ys e (not_later n y xs h) k)

-- A list in which a node is: what stands before it, its pair, and what stands behind it.
pub record SplitAt (n : NodeId) (xs : List Pair) : Type 0 where
  pub before : List Pair
  pub pair : Pair
  pub behind : List Pair
  pub is : xs ≡ before ++ pair ∷ behind
  pub node : pair.0 ≡ n
  pub first : has_node n before ≡ false

pub split_at : (n : NodeId) (xs : List Pair) → has_node n xs ≡ true → SplitAt n xs
split_at n [] h = absurd (true≢false (sym h))
split_at n (x ∷ xs) h = by (nat_eq x.0.0 n.0) (split_at n xs) refl
  where
    by : (b : Bool) → (has_node n xs ≡ true → SplitAt n xs) → nat_eq x.0.0 n.0 ≡ b → SplitAt n (x ∷ xs)
    by true rest is = record { before = []; pair = x; behind = xs; is = refl; node = same_node x.0 n is; first = refl }
    by false rest is =
        let s = rest (sym (ap (λ b. b || has_node n xs) is) ∙ h) in
        record {
          before = x ∷ s.before;
          pair = s.pair;
          behind = s.behind;
          is = ap (λ r. x ∷ r) s.is;
          node = s.node;
          first = ap (λ b. b || has_node n s.before) is ∙ s.first;
        }

-- The ends of lists.

pub first_append : (xs ys : List Pair) (q : Option NodeId) → first_or xs (first_or ys q) ≡ first_or (xs ++ ys) q
first_append [] ys q = refl
first_append (x ∷ xs) ys q = refl

pub last_append : (xs ys : List Pair) (p : Option NodeId) → last_or (last_or p xs) ys ≡ last_or p (xs ++ ys)
last_append [] ys p = refl
last_append (x ∷ xs) ys p = last_append xs ys (Some x.0)

-- the last node is one of the list
pub last_in : (p : Option NodeId) (x : Pair) (xs : List Pair) → (z : NodeId) × (last_or p (x ∷ xs) ≡ Some z) × (has_node z (x ∷ xs) ≡ true)
last_in p x [] = (x.0, refl, has_first x [])
last_in p x (y ∷ ys) = let l = last_in (Some x.0) y ys in (l.0, l.1, has_later l.0 x (y ∷ ys) l.2)

-- a place, if it is one, isn't in a list
abbrev pub Outside : Option NodeId → List Pair → Type 0
Outside None xs = ⊤
Outside (Some n) xs = has_node n xs ≡ false

pub outside_last : (xs ys : List Pair) → ((n : NodeId) → has_node n xs ≡ true → has_node n ys ≡ false) → Outside (last_or None xs) ys
outside_last [] ys h = tt
outside_last (x ∷ xs) ys h = let l = last_in None x xs in sub l.1 (h l.0 l.2)
  where
    sub : {p : Option NodeId} {z : NodeId} → p ≡ Some z → has_node z ys ≡ false → Outside p ys
    sub {p} {z} e k = let P : Option NodeId → Type 0 = λ q. Outside q ys in subst P (sym e) k

pub outside_first : (xs ys : List Pair) → ((n : NodeId) → has_node n xs ≡ true → has_node n ys ≡ false) → Outside (first_or xs None) ys
outside_first [] ys h = tt
outside_first (x ∷ xs) ys h = h x.0 (has_first x xs)

-- Vectors of which one element is another.

pub get_set_same : {A : Type 0} (xs : List A) (n : ℕ) (v : A) → n < length xs → slice_get (set xs n v) n ≡ Some v
get_set_same [] n v h = absurd (omega arith)
get_set_same (x ∷ xs) zero v h = refl
get_set_same (x ∷ xs) (suc n) v h = get_set_same xs n v (omega arith)

pub get_set_other : {A : Type 0} (xs : List A) (n k : ℕ) (v : A) → k ≢ n → slice_get (set xs n v) k ≡ slice_get xs k
get_set_other [] n k v ne = refl
get_set_other (x ∷ xs) zero zero v ne = absurd (ne refl)
get_set_other (x ∷ xs) zero (suc k) v ne = refl
get_set_other (x ∷ xs) (suc n) zero v ne = refl
get_set_other (x ∷ xs) (suc n) (suc k) v ne = get_set_other xs n k v (λ e. ne (ap suc e))

pub edited_same : (n : NodeId) (f : Node → Node) (nodes : List Node) (v : Node) → slice_get nodes n.0 ≡ Some v → slice_get (edited n f nodes) n.0 ≡ Some (f v)
edited_same n f nodes v e =
    ap (λ o. slice_get (option_map_or (λ w. set nodes n.0 (f w)) o nodes) n.0) e
    ∙ get_set_same nodes n.0 (f v) (slice_get_within nodes n.0 v e)

pub edited_other : (n : NodeId) (f : Node → Node) (nodes : List Node) (k : ℕ) → k ≢ n.0 → slice_get (edited n f nodes) k ≡ slice_get nodes k
edited_other n f nodes k ne = by (slice_get nodes n.0)
  where
    by : (o : Option Node) → slice_get (option_map_or (λ w. set nodes n.0 (f w)) o nodes) k ≡ slice_get nodes k
    by None = refl
    by (Some w) = get_set_other nodes n.0 k (f w) ne
