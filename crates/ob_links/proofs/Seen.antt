-- Lists as callers see them.
use Rattle.std.proofs.Common.{◌≡◌, ◌≢◌, ℕ, zero, suc, ◌+◌, ◌-◌, ◌<◌, ◌≤◌, ◌^◌, Bool, true, false, List, [], ◌∷◌, ◌++◌, map, length, get_or, take, replicate, Option, Some, None, refl, sym, ap, subst, ◌∙◌, true≢false, arith, add-one, lit<}
use Rattle.std.specs.Prelude.{nat_eq, ◌||◌, slice_get, if◌then◌else◌}
use Rattle.std.proofs.lemmas.List.{length-append, map-append, length-replicate, take_all}
use Rattle.std.proofs.lemmas.Option.{same_Some}
use Rattle.ob_links.specs.declared.node.NodeId.{NodeId}
use Rattle.ob_links.specs.declared.node.Node.{Node}
use Rattle.ob_links.specs.declared.node.Ends.{Ends}
use Rattle.ob_links.specs.Lists.{Pair, Linked, joined, has_node, list_of, item_of, first_node, node_after, with_pair, without_node, AreApart}
use Rattle.ob_links.specs.Chains.{first_or, last_or, AreLinked, ends_of, no_ends, AreChains, chain_from, chains_of, linked_of, with_pair_in, first_free, IsSound}
use Rattle.ob_links.proofs.Nodes.{same_node, own_node, without_at, without_absent, none_left, none_right, none_both, has_right, apart_parts_back, apart_right, not_first, not_later}
use Rattle.ob_links.proofs.Linking.{node_of}
use Rattle.ob_links.proofs.Walking.{told, within, same_count}
use Rattle.ob_links.proofs.Counting.{without_none, AllLinked, all_linked, all_later, all_apart}

-- The free nodes, and the lists.
pub record Parts (chains : List (List Pair)) (v : Linked) : Type 0 where
  pub free : List Pair
  pub is : chains ≡ free ∷ v.lists
  pub spare : length free ≡ v.spare

pub parts : (chains : List (List Pair)) (v : Linked) → 0 < length chains → linked_of chains ≡ v → Parts chains v
parts [] v h e = absurd (omega arith)
parts (free ∷ lists) v h e = record { free = free; is = ap (λ (w : Linked). free ∷ w.lists) e; spare = ap (λ (w : Linked). w.spare) e }

pub parts_of : (nodes : List Node) (ends : List Ends) (spare : ℕ) (v : Linked) → IsSound nodes ends spare → linked_of (chains_of nodes ends) ≡ v → Parts (chains_of nodes ends) v
parts_of nodes ends spare v s e = parts (chains_of nodes ends) v (omega (arith, s.some, same_count nodes ends (chains_of nodes ends) s.chains)) e

-- no node is in two pairs, the free ones among them
pub sound_apart : (nodes : List Node) (ends : List Ends) (spare : ℕ) (v : Linked) → IsSound nodes ends spare → (p : Parts (chains_of nodes ends) v) → AreApart (p.free ++ joined v.lists)
sound_apart nodes ends spare v s p =
    subst (λ cs. AreApart (joined cs)) p.is (all_apart nodes 0 (chains_of nodes ends) (all_linked nodes ends (chains_of nodes ends) s.chains))

pub lists_apart : (nodes : List Node) (ends : List Ends) (spare : ℕ) (v : Linked) → IsSound nodes ends spare → linked_of (chains_of nodes ends) ≡ v → AreApart (joined v.lists)
lists_apart nodes ends spare v s e = let p = parts_of nodes ends spare v s e in apart_right p.free (joined v.lists) (sound_apart nodes ends spare v s p)

-- a node of the lists is one of all
pub in_all : (nodes : List Node) (ends : List Ends) (spare : ℕ) (v : Linked) (n : NodeId) → IsSound nodes ends spare → linked_of (chains_of nodes ends) ≡ v
    → has_node n (joined v.lists) ≡ true → has_node n (joined (chains_of nodes ends)) ≡ true
in_all nodes ends spare v n s e h =
    let p = parts_of nodes ends spare v s e in
    ap (λ cs. has_node n (joined cs)) p.is ∙ has_right n p.free (joined v.lists) h

-- and none of the free ones
pub not_free : (nodes : List Node) (ends : List Ends) (spare : ℕ) (v : Linked) (n : NodeId) → (s : IsSound nodes ends spare) → (p : Parts (chains_of nodes ends) v)
    → has_node n (joined v.lists) ≡ true → has_node n p.free ≡ false
not_free nodes ends spare v n s p h = apart_parts_back n p.free (joined v.lists) (sound_apart nodes ends spare v s p) h

-- The first free node, which a pair gets.
pub record Inserting (chains : List (List Pair)) (v : Linked) (n : NodeId) : Type 0 where
  pub rest : List Pair
  pub has : has_node n (joined chains) ≡ true
  pub alone : has_node n (joined v.lists) ≡ false
  pub left : map (without_node n) chains ≡ rest ∷ v.lists
  pub spare : suc (length rest) ≡ v.spare

pub inserting : (nodes : List Node) (ends : List Ends) (spare : ℕ) (v : Linked) (n : NodeId) → IsSound nodes ends spare → linked_of (chains_of nodes ends) ≡ v → first_free ends ≡ Some n
    → Inserting (chains_of nodes ends) v n
inserting nodes ends spare v n s e f = by p.free refl
  where
    p : Parts (chains_of nodes ends) v
    p = parts_of nodes ends spare v s e

    first : first_or p.free None ≡ Some n
    first = sym (ap first_free s.chains.borders ∙ ap (λ cs. first_free (map ends_of cs)) p.is) ∙ f

    by : (free : List Pair) → p.free ≡ free → Inserting (chains_of nodes ends) v n
    by [] is = let none : first_or [] None ≡ Some n = sym (ap (λ xs. first_or xs None) is) ∙ first in cc
    by (x ∷ rest) is =
        let this : x.0 ≡ n = same_Some x.0 n (sym (ap (λ xs. first_or xs None) is) ∙ first) in
        let all : chains_of nodes ends ≡ (x ∷ rest) ∷ v.lists = p.is ∙ ap (λ xs. xs ∷ v.lists) is in
        let once : has_node x.0 (rest ++ joined v.lists) ≡ false = (subst (λ xs. AreApart (xs ++ joined v.lists)) is (sound_apart nodes ends spare v s p)).0 in
        let out : has_node n (rest ++ joined v.lists) ≡ false = subst (λ m. has_node m (rest ++ joined v.lists) ≡ false) this once in
        let alone = none_right n rest (joined v.lists) out in
        record {
          rest = rest;
          has = ap (λ cs. has_node n (joined cs)) all ∙ ap (λ b. b || has_node n (rest ++ joined v.lists)) (ap (λ (m : NodeId). nat_eq m.0 n.0) this ∙ own_node n);
          alone = alone;
          left = ap (map (without_node n)) all ∙ ap (λ xs. xs ∷ map (without_node n) v.lists) (without_at n [] x rest this refl (none_left n rest (joined v.lists) out))
              ∙ ap (λ ls. rest ∷ ls) (without_none n v.lists alone);
          spare = sym (ap length is) ∙ p.spare;
        }

pub later_list : (l : ℕ) (place : Option NodeId) (x : Pair) (rest : List Pair) (lists : List (List Pair)) → with_pair_in (l + 1) place x (rest ∷ lists) ≡ rest ∷ with_pair_in l place x lists
later_list l place x rest lists = ap (λ k. with_pair_in k place x (rest ∷ lists)) (add-one l)

pub later_place : (l : ℕ) (rest : List Pair) (lists : List (List Pair)) → get_or (rest ∷ lists) (l + 1) [] ≡ get_or lists l []
later_place l rest lists = ap (λ k. get_or (rest ∷ lists) k []) (add-one l)

-- the lists once the pair is there
pub inserted_is : (after chains : List (List Pair)) (v : Linked) (n : NodeId) (l : ℕ) (place : Option NodeId) (item : ℕ) → (i : Inserting chains v n)
    → after ≡ with_pair_in (l + 1) place (n, item) (map (without_node n) chains) → after ≡ i.rest ∷ with_pair_in l place (n, item) v.lists
inserted_is after chains v n l place item i is = is ∙ ap (with_pair_in (l + 1) place (n, item)) i.left ∙ later_list l place (n, item) i.rest v.lists

-- A pair whose node becomes free.
pub removed_is : (nodes : List Node) (ends : List Ends) (spare : ℕ) (v : Linked) (n : NodeId) (after : List (List Pair)) → (s : IsSound nodes ends spare) → (p : Parts (chains_of nodes ends) v)
    → has_node n (joined v.lists) ≡ true → after ≡ with_pair_in 0 None (n, 0) (map (without_node n) (chains_of nodes ends))
    → after ≡ with_pair None (n, 0) p.free ∷ map (without_node n) v.lists
removed_is nodes ends spare v n after s p h is =
    is ∙ ap (λ cs. with_pair_in 0 None (n, 0) (map (without_node n) cs)) p.is
    ∙ ap (λ xs. with_pair None (n, 0) xs ∷ map (without_node n) v.lists) (without_absent n p.free (not_free nodes ends spare v n s p h))

-- Vectors that are sound after a move.
pub sound_after : (nodes others : List Node) (ends after : List Ends) (spare now : ℕ) → IsSound nodes ends spare → AreChains others after (chains_of others after)
    → length (joined (chains_of others after)) ≡ length others → now ≡ (linked_of (chains_of others after)).spare → length others ≡ length nodes → length after ≡ length ends
    → IsSound others after now
sound_after nodes others ends after spare now s h all free ns es = record {
  chains = h;
  all = all;
  free = free;
  some = omega (arith, s.some, es);
  few_nodes = subst (λ k. k < 2 ^ 32) (sym ns) s.few_nodes;
  few_lists = subst (λ k. k ≤ 2 ^ 32) (sym es) s.few_lists;
}

-- The item of a node, and the node after it.

item_in : (nodes : List Node) (l : ℕ) (p : Option NodeId) (xs : List Pair) (q : Option NodeId) (n : NodeId) (v : Node) → AreLinked nodes l p xs q
    → has_node n xs ≡ true → slice_get nodes n.0 ≡ Some v → item_of n xs ≡ Some v.item
item_in nodes l p [] q n v h m at = absurd (true≢false (sym m))
item_in nodes l p (x ∷ xs) q n v h m at = by (nat_eq x.0.0 n.0) refl (λ k. item_in nodes l (Some x.0) xs q n v h.1 k at)
  where
    by : (b : Bool) → nat_eq x.0.0 n.0 ≡ b → (has_node n xs ≡ true → item_of n xs ≡ Some v.item) → (if nat_eq x.0.0 n.0 then Some x.1 else item_of n xs) ≡ Some v.item
    by true is rest =
        let this : x.0 ≡ n = same_node x.0 n is in
        let w : node_of l p x (first_or xs q) ≡ v = same_Some (node_of l p x (first_or xs q)) v (sym h.0 ∙ ap (λ (k : NodeId). slice_get nodes k.0) this ∙ at) in
        ap (λ b. if b then Some x.1 else item_of n xs) is ∙ ap (λ (u : Node). Some u.item) w
    by false is rest = ap (λ b. if b then Some x.1 else item_of n xs) is ∙ rest (sym (ap (λ b. b || has_node n xs) is) ∙ m)

item_left : (n : NodeId) (xs ys : List Pair) → has_node n xs ≡ true → item_of n (xs ++ ys) ≡ item_of n xs
item_left n [] ys m = absurd (true≢false (sym m))
item_left n (x ∷ xs) ys m = by (nat_eq x.0.0 n.0) refl (item_left n xs ys)
  where
    by : (b : Bool) → nat_eq x.0.0 n.0 ≡ b → (has_node n xs ≡ true → item_of n (xs ++ ys) ≡ item_of n xs)
        → (if nat_eq x.0.0 n.0 then Some x.1 else item_of n (xs ++ ys)) ≡ (if nat_eq x.0.0 n.0 then Some x.1 else item_of n xs)
    by true is rest = ap (λ b. if b then Some x.1 else item_of n (xs ++ ys)) is ∙ sym (ap (λ b. if b then Some x.1 else item_of n xs) is)
    by false is rest = ap (λ r. if nat_eq x.0.0 n.0 then Some x.1 else r) (rest (sym (ap (λ b. b || has_node n xs) is) ∙ m))

item_right : (n : NodeId) (xs ys : List Pair) → has_node n xs ≡ false → item_of n (xs ++ ys) ≡ item_of n ys
item_right n [] ys m = refl
item_right n (x ∷ xs) ys m = ap (λ b. if b then Some x.1 else item_of n (xs ++ ys)) (not_first n x xs m) ∙ item_right n xs ys (not_later n x xs m)

pub item_told : (nodes : List Node) (from : ℕ) (chains : List (List Pair)) (n : NodeId) (v : Node) → AllLinked nodes from chains → has_node n (joined chains) ≡ true
    → slice_get nodes n.0 ≡ Some v → item_of n (joined chains) ≡ Some v.item
item_told nodes from [] n v h m at = absurd (true≢false (sym m))
item_told nodes from (xs ∷ cs) n v h m at = by (has_node n xs) refl (λ k. item_told nodes (suc from) cs n v (all_later nodes from xs cs h) k at)
  where
    other : (b : Bool) → has_node n (joined cs) ≡ b → has_node n xs ≡ false → has_node n (joined cs) ≡ true
    other true is out = is
    other false is out = absurd (true≢false (sym m ∙ none_both n xs (joined cs) out is))

    by : (b : Bool) → has_node n xs ≡ b → (has_node n (joined cs) ≡ true → item_of n (joined cs) ≡ Some v.item) → item_of n (xs ++ joined cs) ≡ Some v.item
    by true is rest = item_left n xs (joined cs) is ∙ item_in nodes (0 + from) None xs None n v (h 0 xs refl) is at
    by false is rest = item_right n xs (joined cs) is ∙ rest (other (has_node n (joined cs)) refl is)

pub item_seen : (nodes : List Node) (ends : List Ends) (spare : ℕ) (v : Linked) (n : NodeId) (u : Node) → IsSound nodes ends spare → linked_of (chains_of nodes ends) ≡ v
    → has_node n (joined v.lists) ≡ true → slice_get nodes n.0 ≡ Some u → item_of n (joined v.lists) ≡ Some u.item
item_seen nodes ends spare v n u s e m at =
    let p = parts_of nodes ends spare v s e in
    let all : AllLinked nodes 0 (p.free ∷ v.lists) = subst (AllLinked nodes 0) p.is (all_linked nodes ends (chains_of nodes ends) s.chains) in
    item_told nodes 1 v.lists n u (all_later nodes 0 p.free v.lists all) m at

after_split : (n : NodeId) (us : List Pair) (x : Pair) (ws : List Pair) → x.0 ≡ n → has_node n us ≡ false → node_after n (us ++ x ∷ ws) ≡ first_node ws
after_split n [] x ws e out = ap (λ b. if b then first_node ws else node_after n ws) (ap (λ (m : NodeId). nat_eq m.0 n.0) e ∙ own_node n)
after_split n (y ∷ us) x ws e out =
    ap (λ b. if b then first_node (us ++ x ∷ ws) else node_after n (us ++ x ∷ ws)) (not_first n y us out) ∙ after_split n us x ws e (not_later n y us out)

first_same : (ws : List Pair) → first_or ws None ≡ first_node ws
first_same [] = refl
first_same (w ∷ ws) = refl

pub after_seen : (nodes : List Node) (ends : List Ends) (spare : ℕ) (v : Linked) (n : NodeId) (u : Node) → IsSound nodes ends spare → linked_of (chains_of nodes ends) ≡ v
    → has_node n (joined v.lists) ≡ true → slice_get nodes n.0 ≡ Some u → u.next ≡ node_after n (list_of n v.lists)
after_seen nodes ends spare v n u s e m at =
    let p = parts_of nodes ends spare v s e in
    let t = told nodes ends (chains_of nodes ends) n s.chains (in_all nodes ends spare v n s e m) in
    let w : u ≡ node_of t.list (last_or None t.before) t.pair (first_or t.behind None) = same_Some u (node_of t.list (last_or None t.before) t.pair (first_or t.behind None)) (sym at ∙ t.there) in
    let here : list_of n v.lists ≡ t.before ++ t.pair ∷ t.behind =
    sym (ap (list_of n) p.is ∙ ap (λ b. if b then p.free else list_of n v.lists) (not_free nodes ends spare v n s p m)) ∙ t.is in
    ap (λ (k : Node). k.next) w ∙ first_same t.behind ∙ sym (ap (node_after n) here ∙ after_split n t.before t.pair t.behind t.node t.first)

pub node_within : (nodes : List Node) (ends : List Ends) (spare : ℕ) (v : Linked) (n : NodeId) → IsSound nodes ends spare → linked_of (chains_of nodes ends) ≡ v
    → has_node n (joined v.lists) ≡ true → n.0 < length nodes
node_within nodes ends spare v n s e m = within nodes ends (chains_of nodes ends) n s.chains (in_all nodes ends spare v n s e m)

-- Lists without pairs.

none_from : (nodes : List Node) (most : ℕ) → chain_from nodes most None ≡ []
none_from nodes zero = refl
none_from nodes (suc most) = refl

empty_chains : (nodes : List Node) (k : ℕ) → chains_of nodes (replicate k no_ends) ≡ replicate k []
empty_chains nodes zero = refl
empty_chains nodes (suc k) = ap (λ xs. xs ∷ chains_of nodes (replicate k no_ends)) (none_from nodes (length nodes)) ∙ ap (λ cs. [] ∷ cs) (empty_chains nodes k)

pub more_chains : (nodes : List Node) (ends : List Ends) (k : ℕ) → chains_of nodes (ends ++ replicate k no_ends) ≡ chains_of nodes ends ++ replicate k []
more_chains nodes ends k =
    map-append (λ (e : Ends). chain_from nodes (length nodes) e.first) ends (replicate k no_ends) ∙ ap (λ cs. chains_of nodes ends ++ cs) (empty_chains nodes k)

empty_ends : (k : ℕ) → replicate k no_ends ≡ map ends_of (replicate k [])
empty_ends zero = refl
empty_ends (suc k) = ap (λ es. no_ends ∷ es) (empty_ends k)

empty_linked : (nodes : List Node) (list k l : ℕ) (xs : List Pair) → slice_get (replicate k []) l ≡ Some xs → AreLinked nodes list None xs None
empty_linked nodes list zero l xs at = cc
empty_linked nodes list (suc k) zero xs at = subst (λ ys. AreLinked nodes list None ys None) (same_Some [] xs at) tt
empty_linked nodes list (suc k) (suc l) xs at = empty_linked nodes list k l xs at

more_linked : (nodes : List Node) (list : ℕ) (chains : List (List Pair)) (k l : ℕ) (xs : List Pair) → (slice_get chains l ≡ Some xs → AreLinked nodes list None xs None)
    → slice_get (chains ++ replicate k []) l ≡ Some xs → AreLinked nodes list None xs None
more_linked nodes list [] k l xs h at = empty_linked nodes list k l xs at
more_linked nodes list (ys ∷ cs) k zero xs h at = h at
more_linked nodes list (ys ∷ cs) k (suc l) xs h at = more_linked nodes list cs k l xs h at

pub are_more : (nodes : List Node) (ends : List Ends) (chains : List (List Pair)) (k : ℕ) → AreChains nodes ends chains → AreChains nodes (ends ++ replicate k no_ends) (chains ++ replicate k [])
are_more nodes ends chains k h = record {
  borders = ap (λ es. es ++ replicate k no_ends) h.borders ∙ ap (λ es. map ends_of chains ++ es) (empty_ends k) ∙ sym (map-append ends_of chains (replicate k []));
  linked = λ l xs at. more_linked nodes l chains k l xs (h.linked l xs) at;
}

no_pairs : (k : ℕ) → joined (replicate k []) ≡ []
no_pairs zero = refl
no_pairs (suc k) = no_pairs k

joined_more : (chains : List (List Pair)) (k : ℕ) → length (joined (chains ++ replicate k [])) ≡ length (joined chains)
joined_more [] k = ap length (no_pairs k)
joined_more (xs ∷ cs) k = omega (arith, length-append xs (joined (cs ++ replicate k [])), length-append xs (joined cs), joined_more cs k)

pub more_lists : (chains : List (List Pair)) (k : ℕ) → 0 < length chains → linked_of (chains ++ replicate k []) ≡ record { lists = (linked_of chains).lists ++ replicate k []; spare = (linked_of chains).spare }
more_lists [] k h = absurd (omega arith)
more_lists (free ∷ lists) k h = refl

pub more_sound : (nodes : List Node) (ends : List Ends) (spare k : ℕ) → IsSound nodes ends spare → length ends + k ≤ 2 ^ 32 → IsSound nodes (ends ++ replicate k no_ends) spare
more_sound nodes ends spare k s few =
    let chains = chains_of nodes ends in
    let is = more_chains nodes ends k in
    let some : 0 < length chains = omega (arith, s.some, same_count nodes ends chains s.chains) in
    let len = length-append ends (replicate k no_ends) in
    let count = length-replicate k no_ends in
    record {
      chains = subst (AreChains nodes (ends ++ replicate k no_ends)) (sym is) (are_more nodes ends chains k s.chains);
      all = ap (λ cs. length (joined cs)) is ∙ joined_more chains k ∙ s.all;
      free = s.free ∙ sym (ap (λ (w : Linked). w.spare) (ap linked_of is ∙ more_lists chains k some));
      some = omega (arith, s.some, len);
      few_nodes = s.few_nodes;
      few_lists = subst (λ m. m ≤ 2 ^ 32) (sym (len ∙ ap (λ m. length ends + m) count)) few;
    }

-- Lists at the start.
pub start_sound : (k : ℕ) → 0 < k → k ≤ 2 ^ 32 → IsSound [] (replicate k no_ends) 0
start_sound k h few =
    let is = empty_chains [] k in
    let count = length-replicate k no_ends in
    record {
      chains = subst (AreChains [] (replicate k no_ends)) (sym is) (record { borders = empty_ends k; linked = λ l xs at. empty_linked [] l k l xs at });
      all = ap (λ cs. length (joined cs)) is ∙ ap length (no_pairs k);
      free = sym (ap (λ cs. (linked_of cs).spare) is ∙ free k);
      some = omega (arith, h, count);
      few_nodes = lit< tt;
      few_lists = subst (λ m. m ≤ 2 ^ 32) (sym count) few;
    }
  where
    free : (m : ℕ) → (linked_of (replicate m [])).spare ≡ 0
    free zero = refl
    free (suc m) = refl

pub start_lists : (nodes : List Node) (ends : List Ends) (k : ℕ) → ends ≡ replicate (k + 1) no_ends → (linked_of (chains_of nodes ends)).lists ≡ replicate k []
start_lists nodes ends k e =
    ap (λ (es : List Ends). (linked_of (chains_of nodes es)).lists) e ∙ ap (λ cs. (linked_of cs).lists) (empty_chains nodes (k + 1))
    ∙ ap (λ m. (linked_of (replicate m [])).lists) (add-one k)

-- how many nodes there are
pub all_nodes : (nodes : List Node) (ends : List Ends) (spare : ℕ) (v : Linked) → IsSound nodes ends spare → linked_of (chains_of nodes ends) ≡ v → length nodes ≡ length (joined v.lists) + v.spare
all_nodes nodes ends spare v s e =
    let p = parts_of nodes ends spare v s e in
    let count : length (p.free ++ joined v.lists) ≡ length nodes = sym (ap (λ cs. length (joined cs)) p.is) ∙ s.all in
    omega (arith, count, length-append p.free (joined v.lists), p.spare)

-- a vector that is made longer
pub resized : {A : Type 0} (xs : List A) (n m k : ℕ) (x : A) → n ≡ length xs + k → m ≡ length xs → take n xs ++ replicate (n - m) x ≡ xs ++ replicate k x
resized xs n m k x a b =
    let all : length xs ≤ n = omega (arith, a) in
    let rest : n - m ≡ k = omega (arith, a, b) in
    ap (λ ys. ys ++ replicate (n - m) x) (take_all n xs all) ∙ ap (λ j. xs ++ replicate j x) rest
