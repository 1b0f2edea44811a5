-- Lists that stand in a vector of nodes: where a node is, how many pairs there are, and that the lists are those that the nodes say.
use Rattle.std.proofs.Common.{◌≡◌, ◌≢◌, ◌⊎◌, inl, inr, ℕ, zero, suc, ◌+◌, ◌<◌, Bool, true, false, List, [], ◌∷◌, ◌++◌, map, length, get_or, set, Option, Some, None, refl, sym, ap, subst, ◌∙◌, true≢false, arith}
use Rattle.std.specs.Prelude.{slice_get, if◌then◌else◌, IfSome, option_map}
use Rattle.std.proofs.lemmas.List.{length-map}
use Rattle.std.proofs.lemmas.Option.{slice_get_within, slice_get-map, same_Some, get_or_from_slice_get}
use Rattle.ob_links.specs.declared.node.NodeId.{NodeId}
use Rattle.ob_links.specs.declared.node.Node.{Node}
use Rattle.ob_links.specs.declared.node.Ends.{Ends}
use Rattle.ob_links.specs.Lists.{Pair, joined, has_node, list_of, without_node}
use Rattle.ob_links.specs.Chains.{first_or, last_or, AreLinked, ends_of, AreChains, with_next, with_previous, with_first, with_last}
use Rattle.ob_links.proofs.Nodes.{has_first, has_left, has_right, none_both, in_either, apart_right, last_in, without_absent, without_at, split_at}
use Rattle.ob_links.proofs.Linking.{node_of, list_told, in_one_list, linked_left, linked_right, linked_apart, unlinked_nodes, unlinked_ends, chains_unlinked}

-- Where a node is.

pub record Found (n : NodeId) (chains : List (List Pair)) : Type 0 where
  pub list : ℕ
  pub at : slice_get chains list ≡ Some (list_of n chains)
  pub has : has_node n (list_of n chains) ≡ true

pub found : (n : NodeId) (chains : List (List Pair)) → has_node n (joined chains) ≡ true → Found n chains
found n [] h = absurd (true≢false (sym h))
found n (xs ∷ cs) h = by (has_node n xs) (found n cs) refl
  where
    other : (has_node n xs ≡ true) ⊎ (has_node n (joined cs) ≡ true) → has_node n xs ≡ false → has_node n (joined cs) ≡ true
    other (inl a) is = absurd (true≢false (sym a ∙ is))
    other (inr b) is = b

    by : (b : Bool) → (has_node n (joined cs) ≡ true → Found n cs) → has_node n xs ≡ b → Found n (xs ∷ cs)
    by true rest is =
        let this : list_of n (xs ∷ cs) ≡ xs = ap (λ b. if b then xs else list_of n cs) is in
        record { list = 0; at = ap Some (sym this); has = ap (has_node n) this ∙ is }
    by false rest is =
        let later : list_of n (xs ∷ cs) ≡ list_of n cs = ap (λ b. if b then xs else list_of n cs) is in
        let f = rest (other (in_either n xs (joined cs) h) is) in
        record { list = suc f.list; at = f.at ∙ ap Some (sym later); has = ap (has_node n) later ∙ f.has }

pub in_joined : (n : NodeId) (chains : List (List Pair)) (l : ℕ) (xs : List Pair) → slice_get chains l ≡ Some xs → has_node n xs ≡ true → has_node n (joined chains) ≡ true
in_joined n [] l xs at h = cc
in_joined n (ys ∷ cs) zero xs at h = has_left n ys (joined cs) (ap (has_node n) (same_Some ys xs at) ∙ h)
in_joined n (ys ∷ cs) (suc l) xs at h = has_right n ys (joined cs) (in_joined n cs l xs at h)

pub none_in : (n : NodeId) (chains : List (List Pair)) → has_node n (joined chains) ≡ false → (l : ℕ) (xs : List Pair) → slice_get chains l ≡ Some xs → has_node n xs ≡ false
none_in n chains out l xs at = by (has_node n xs) refl
  where
    by : (b : Bool) → has_node n xs ≡ b → has_node n xs ≡ false
    by true is = absurd (true≢false (sym (in_joined n chains l xs at is) ∙ out))
    by false is = is

pub none_joined : (n : NodeId) (chains : List (List Pair)) → ((l : ℕ) (xs : List Pair) → slice_get chains l ≡ Some xs → has_node n xs ≡ false) → has_node n (joined chains) ≡ false
none_joined n [] h = refl
none_joined n (xs ∷ cs) h = none_both n xs (joined cs) (h 0 xs refl) (none_joined n cs (λ l ys at. h (suc l) ys at))

-- a node in lists that stand in a vector: its list around its pair, and what the vector says of it
pub record Told (nodes : List Node) (chains : List (List Pair)) (n : NodeId) : Type 0 where
  pub list : ℕ
  pub before : List Pair
  pub pair : Pair
  pub behind : List Pair
  pub at : slice_get chains list ≡ Some (before ++ pair ∷ behind)
  pub is : list_of n chains ≡ before ++ pair ∷ behind
  pub node : pair.0 ≡ n
  pub there : slice_get nodes n.0 ≡ Some (node_of list (last_or None before) pair (first_or behind None))
  pub first : has_node n before ≡ false

pub told : (nodes : List Node) (ends : List Ends) (chains : List (List Pair)) (n : NodeId) → AreChains nodes ends chains → has_node n (joined chains) ≡ true → Told nodes chains n
told nodes ends chains n h m =
    let f = found n chains m in
    let s = split_at n (list_of n chains) f.has in
    let at : slice_get chains f.list ≡ Some (s.before ++ s.pair ∷ s.behind) = f.at ∙ ap Some s.is in
    let linked = h.linked f.list (s.before ++ s.pair ∷ s.behind) at in
    let here = (linked_right nodes f.list None s.before (s.pair ∷ s.behind) None linked).0 in
    record {
      list = f.list;
      before = s.before;
      pair = s.pair;
      behind = s.behind;
      at = at;
      is = s.is;
      node = s.node;
      there = ap (λ (k : NodeId). slice_get nodes k.0) (sym s.node) ∙ here;
      first = s.first;
    }

-- the ends of a list
pub ends_told : (nodes : List Node) (ends : List Ends) (chains : List (List Pair)) (l : ℕ) (xs : List Pair) → AreChains nodes ends chains → slice_get chains l ≡ Some xs → slice_get ends l ≡ Some (ends_of xs)
ends_told nodes ends chains l xs h at = ap (λ es. slice_get es l) h.borders ∙ slice_get-map ends_of chains l ∙ ap (option_map ends_of) at

pub ends_within : (nodes : List Node) (ends : List Ends) (chains : List (List Pair)) (l : ℕ) (xs : List Pair) → AreChains nodes ends chains → slice_get chains l ≡ Some xs → l < length ends
ends_within nodes ends chains l xs h at = slice_get_within ends l (ends_of xs) (ends_told nodes ends chains l xs h at)

pub same_count : (nodes : List Node) (ends : List Ends) (chains : List (List Pair)) → AreChains nodes ends chains → length ends ≡ length chains
same_count nodes ends chains h = ap length h.borders ∙ length-map chains ends_of

-- places beside a pair of a list are in the vector
pub last_within : (nodes : List Node) (l : ℕ) (xs : List Pair) (q : Option NodeId) → AreLinked nodes l None xs q → IfSome (last_or None xs) (λ n. n.0 < length nodes)
last_within nodes l [] q h = tt
last_within nodes l (x ∷ xs) q h =
    let z = last_in None x xs in
    let v = list_told nodes l None (x ∷ xs) q z.0 z.2 h in
    subst (λ o. IfSome o (λ n. n.0 < length nodes)) (sym z.1) (slice_get_within nodes z.0.0 v.0 v.1)

pub first_within : (nodes : List Node) (l : ℕ) (p : Option NodeId) (xs : List Pair) (q : Option NodeId) → AreLinked nodes l p xs q → IfSome (first_or xs None) (λ n. n.0 < length nodes)
first_within nodes l p [] q h = tt
first_within nodes l p (x ∷ xs) q h = slice_get_within nodes x.0.0 (node_of l p x (first_or xs q)) h.0

-- A node goes out of its list.

without_here : (n : NodeId) (chains : List (List Pair)) (l : ℕ) (xs ys : List Pair) → slice_get chains l ≡ Some xs → without_node n xs ≡ ys
    → ((k : ℕ) (zs : List Pair) → k ≢ l → slice_get chains k ≡ Some zs → has_node n zs ≡ false) → map (without_node n) chains ≡ set chains l ys
without_here n [] l xs ys at is out = refl
without_here n (zs ∷ cs) zero xs ys at is out =
    ap (λ h. h ∷ map (without_node n) cs) (ap (without_node n) (same_Some zs xs at) ∙ is)
    ∙ ap (λ r. ys ∷ r) (none cs (λ k ws there. out (suc k) ws (λ e. absurd (omega (arith, e))) there))
  where
    none : (ds : List (List Pair)) → ((k : ℕ) (ws : List Pair) → slice_get ds k ≡ Some ws → has_node n ws ≡ false) → map (without_node n) ds ≡ ds
    none [] k = refl
    none (ws ∷ ds) k = ap (λ h. h ∷ map (without_node n) ds) (without_absent n ws (k 0 ws refl)) ∙ ap (λ r. ws ∷ r) (none ds (λ j vs there. k (suc j) vs there))
without_here n (zs ∷ cs) (suc l) xs ys at is out =
    ap (λ h. h ∷ map (without_node n) cs) (without_absent n zs (out 0 zs (λ e. absurd (omega (arith, e))) refl))
    ∙ ap (λ r. zs ∷ r) (without_here n cs l xs ys at is (λ k ws ne there. out (suc k) ws (λ e. ne (omega (arith, e))) there))

pub without_all : (nodes : List Node) (ends : List Ends) (chains : List (List Pair)) (n : NodeId) → AreChains nodes ends chains → (t : Told nodes chains n)
    → map (without_node n) chains ≡ set chains t.list (t.before ++ t.behind)
without_all nodes ends chains n h t =
    let xs = t.before ++ t.pair ∷ t.behind in
    let linked = h.linked t.list xs t.at in
    let all = linked_apart nodes t.list None xs None tt linked in
    let later : has_node n t.behind ≡ false = subst (λ m. has_node m t.behind ≡ false) t.node (apart_right t.before (t.pair ∷ t.behind) all).0 in
    let there : has_node n xs ≡ true = has_right n t.before (t.pair ∷ t.behind) (subst (λ m. has_node m (t.pair ∷ t.behind) ≡ true) t.node (has_first t.pair t.behind)) in
    without_here n chains t.list xs (t.before ++ t.behind) t.at (without_at n t.before t.pair t.behind t.node t.first later)
    (λ k zs ne other. in_one_list nodes t.list k None None xs zs None None ne linked (h.linked k zs other) n there)

-- the nodes and the ends once the node that says this is taken out
abbrev pub AreWithout : List Node → List Ends → List (List Pair) → NodeId → Ends → Node → Type 0
AreWithout nodes ends chains n e v =
    AreChains (with_previous v.next v.previous (with_next v.previous v.next nodes)) (set ends v.list (with_last v.next v.previous (with_first v.previous v.next e))) (map (without_node n) chains)

pub unlinked : (nodes : List Node) (ends : List Ends) (chains : List (List Pair)) (n : NodeId) (d : Ends) (v : Node) → AreChains nodes ends chains → (t : Told nodes chains n)
    → v ≡ node_of t.list (last_or None t.before) t.pair (first_or t.behind None) → AreWithout nodes ends chains n (get_or ends v.list d) v
unlinked nodes ends chains n d v h t is =
    let xs = t.before ++ t.pair ∷ t.behind in
    let here = node_of t.list (last_or None t.before) t.pair (first_or t.behind None) in
    let around : get_or ends t.list d ≡ ends_of xs = get_or_from_slice_get ends t.list (ends_of xs) d (ends_told nodes ends chains t.list xs h t.at) in
    let done = chains_unlinked nodes ends chains t.list t.before t.pair t.behind h t.at in
    let end : AreWithout nodes ends chains n (ends_of xs) here =
    subst (λ cs. AreChains (unlinked_nodes t.before t.behind nodes) (set ends t.list (unlinked_ends t.before t.behind (ends_of xs))) cs) (sym (without_all nodes ends chains n h t)) done in
    subst (λ w. AreWithout nodes ends chains n (get_or ends w.list d) w) (sym is) (subst (λ e. AreWithout nodes ends chains n e here) (sym around) end)

-- what is read at the place of a node
abbrev pub no_node : Node
no_node = record { list = 0; item = 0; previous = None; next = None }

pub read : (nodes : List Node) (chains : List (List Pair)) (n : NodeId) → (t : Told nodes chains n)
    → get_or nodes n.0 no_node ≡ node_of t.list (last_or None t.before) t.pair (first_or t.behind None)
read nodes chains n t = get_or_from_slice_get nodes n.0 (node_of t.list (last_or None t.before) t.pair (first_or t.behind None)) no_node t.there

-- What the vectors say of a node that is in one of the lists.
pub record Beside (nodes : List Node) (ends : List Ends) (v : Node) : Type 0 where
  pub list_within : v.list < length ends
  pub previous_within : IfSome v.previous (λ n. n.0 < length nodes)
  pub next_within : IfSome v.next (λ n. n.0 < length nodes)

pub beside : (nodes : List Node) (ends : List Ends) (chains : List (List Pair)) (n : NodeId) → AreChains nodes ends chains → has_node n (joined chains) ≡ true
    → Beside nodes ends (get_or nodes n.0 no_node)
beside nodes ends chains n h m =
    let t = told nodes ends chains n h m in
    let xs = t.before ++ t.pair ∷ t.behind in
    let linked = h.linked t.list xs t.at in
    subst (Beside nodes ends) (sym (read nodes chains n t)) (record {
      list_within = ends_within nodes ends chains t.list xs h t.at;
      previous_within = last_within nodes t.list t.before (Some t.pair.0) (linked_left nodes t.list None t.before (t.pair ∷ t.behind) None linked);
      next_within = first_within nodes t.list (Some t.pair.0) t.behind None (linked_right nodes t.list None t.before (t.pair ∷ t.behind) None linked).1;
    })

pub within : (nodes : List Node) (ends : List Ends) (chains : List (List Pair)) (n : NodeId) → AreChains nodes ends chains → has_node n (joined chains) ≡ true → n.0 < length nodes
within nodes ends chains n h m =
    let t = told nodes ends chains n h m in
    slice_get_within nodes n.0 (node_of t.list (last_or None t.before) t.pair (first_or t.behind None)) t.there
