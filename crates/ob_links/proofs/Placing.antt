-- A place in a list, and a node that goes there.
use Rattle.std.proofs.Common.{◌≡◌, ◌≢◌, ℕ, ◌+◌, ◌<◌, Bool, true, false, List, [], ◌∷◌, ◌++◌, length, get_or, set, Option, Some, None, refl, sym, ap, subst, ◌∙◌, true≢false}
use Rattle.std.specs.Prelude.{nat_eq, ◌||◌, slice_get, if◌then◌else◌, IfSome}
use Rattle.std.specs.Option.{option_map_or}
use Rattle.std.proofs.lemmas.List.{append-nil}
use Rattle.std.proofs.lemmas.Option.{slice_get_within, get_or_from_slice_get, slice_get-get_or}
use Rattle.ob_links.specs.declared.node.NodeId.{NodeId}
use Rattle.ob_links.specs.declared.node.Node.{Node}
use Rattle.ob_links.specs.declared.node.Ends.{Ends}
use Rattle.ob_links.specs.Lists.{Pair, joined, has_node, with_pair}
use Rattle.ob_links.specs.Chains.{first_or, last_or, AreLinked, ends_of, no_ends, AreChains, with_next, with_previous, with_first, with_last, previous_of, with_pair_in}
use Rattle.ob_links.proofs.Nodes.{same_node, last_append}
use Rattle.ob_links.proofs.Linking.{node_of, list_told, linked_left, linked_right, linked_nodes, linked_ends, chains_linked}
use Rattle.ob_links.proofs.Walking.{ends_told, last_within, none_in, same_count}

-- A list around the place before a node, or around its end.
pub record SplitBefore (place : Option NodeId) (xs : List Pair) : Type 0 where
  pub before : List Pair
  pub behind : List Pair
  pub is : xs ≡ before ++ behind
  pub there : place ≡ first_or behind None
  pub filled : (x : Pair) → with_pair place x xs ≡ before ++ x ∷ behind

at_end : (x : Pair) (xs : List Pair) → with_pair None x xs ≡ xs ++ x ∷ []
at_end x [] = refl
at_end x (y ∷ ys) = ap (λ r. y ∷ r) (at_end x ys)

pub split_before : (place : Option NodeId) (xs : List Pair) → IfSome place (λ n. has_node n xs ≡ true) → SplitBefore place xs
split_before None xs h = record { before = xs; behind = []; is = sym (append-nil xs); there = refl; filled = λ x. at_end x xs }
split_before (Some n) [] h = absurd (true≢false (sym h))
split_before (Some n) (y ∷ ys) h = by (nat_eq y.0.0 n.0) (split_before (Some n) ys) refl
  where
    by : (b : Bool) → (has_node n ys ≡ true → SplitBefore (Some n) ys) → nat_eq y.0.0 n.0 ≡ b → SplitBefore (Some n) (y ∷ ys)
    by true rest is = record {
      before = [];
      behind = y ∷ ys;
      is = refl;
      there = ap Some (sym (same_node y.0 n is));
      filled = λ x. ap (λ b. if b then x ∷ y ∷ ys else y ∷ with_pair (Some n) x ys) is;
    }
    by false rest is =
        let s = rest (sym (ap (λ b. b || has_node n ys) is) ∙ h) in
        record {
          before = y ∷ s.before;
          behind = s.behind;
          is = ap (λ r. y ∷ r) s.is;
          there = s.there;
          filled = λ x. ap (λ b. if b then x ∷ y ∷ ys else y ∷ with_pair (Some n) x ys) is ∙ ap (λ r. y ∷ r) (s.filled x);
        }

-- what stands before the place
previous_is : (nodes : List Node) (l : ℕ) (us ws : List Pair) → AreLinked nodes l None (us ++ ws) None
    → previous_of nodes (ends_of (us ++ ws)) (first_or ws None) ≡ last_or None us
previous_is nodes l us [] h = sym (last_append us [] None)
previous_is nodes l us (w ∷ ws) h =
    ap (λ o. option_map_or (λ (v : Node). v.previous) o None) (linked_right nodes l None us (w ∷ ws) None h).0

-- the list of a number
pub list_at : (chains : List (List Pair)) (l : ℕ) → l < length chains → slice_get chains l ≡ Some (get_or chains l [])
list_at chains l h = slice_get-get_or chains l [] h

-- What is known of a place in a list that stands in vectors.
pub record Place (nodes : List Node) (ends : List Ends) (chains : List (List Pair)) (l : ℕ) (place : Option NodeId) : Type 0 where
  pub split : SplitBefore place (get_or chains l [])
  pub around : get_or ends l no_ends ≡ ends_of (get_or chains l [])
  pub previous : previous_of nodes (get_or ends l no_ends) place ≡ last_or None split.before
  pub previous_within : IfSome (previous_of nodes (get_or ends l no_ends) place) (λ n. n.0 < length nodes)
  pub place_within : IfSome place (λ n. n.0 < length nodes)

place_in : (nodes : List Node) (l : ℕ) (xs : List Pair) (place : Option NodeId) → AreLinked nodes l None xs None → IfSome place (λ n. has_node n xs ≡ true) → IfSome place (λ n. n.0 < length nodes)
place_in nodes l xs None h m = tt
place_in nodes l xs (Some n) h m = let v = list_told nodes l None xs None n m h in slice_get_within nodes n.0 v.0 v.1

pub place_told : (nodes : List Node) (ends : List Ends) (chains : List (List Pair)) (l : ℕ) (place : Option NodeId)
    → AreChains nodes ends chains → l < length ends → IfSome place (λ n. has_node n (get_or chains l []) ≡ true) → Place nodes ends chains l place
place_told nodes ends chains l place h within m =
    let xs = get_or chains l [] in
    let count : l < length chains = subst (λ k. l < k) (same_count nodes ends chains h) within in
    let at = list_at chains l count in
    let s = split_before place xs m in
    let linked : AreLinked nodes l None xs None = h.linked l xs at in
    let parted : AreLinked nodes l None (s.before ++ s.behind) None = subst (λ zs. AreLinked nodes l None zs None) s.is linked in
    let around : get_or ends l no_ends ≡ ends_of xs = get_or_from_slice_get ends l (ends_of xs) no_ends (ends_told nodes ends chains l xs h at) in
    let previous : previous_of nodes (get_or ends l no_ends) place ≡ last_or None s.before =
    ap (λ e. previous_of nodes e place) (around ∙ ap ends_of s.is) ∙ ap (previous_of nodes (ends_of (s.before ++ s.behind))) s.there
    ∙ previous_is nodes l s.before s.behind parted in
    record {
      split = s;
      around = around;
      previous = previous;
      previous_within = subst (λ o. IfSome o (λ n. n.0 < length nodes)) (sym previous)
          (last_within nodes l s.before (first_or s.behind None) (linked_left nodes l None s.before s.behind None parted));
      place_within = place_in nodes l xs place linked m;
    }

-- the nodes and the ends once a node has gone to the place
abbrev pub AreWith : List Node → List Ends → List (List Pair) → ℕ → Pair → Option NodeId → Option NodeId → Ends → Type 0
AreWith nodes ends chains l x place previous e =
    AreChains (with_previous place (Some x.0) (with_next previous (Some x.0) (set nodes x.0.0 (node_of l previous x place))))
    (set ends l (with_last place (Some x.0) (with_first previous (Some x.0) e))) (with_pair_in l place x chains)

pub linked_in : (nodes : List Node) (ends : List Ends) (chains : List (List Pair)) (l : ℕ) (place : Option NodeId) (x : Pair)
    → AreChains nodes ends chains → l < length ends → (p : Place nodes ends chains l place) → x.0.0 < length nodes → has_node x.0 (joined chains) ≡ false
    → AreWith nodes ends chains l x place (previous_of nodes (get_or ends l no_ends) place) (get_or ends l no_ends)
linked_in nodes ends chains l place x h within p node alone =
    let s = p.split in
    let count : l < length chains = subst (λ k. l < k) (same_count nodes ends chains h) within in
    let at : slice_get chains l ≡ Some (s.before ++ s.behind) = list_at chains l count ∙ ap Some s.is in
    let us = s.before in
    let ws = s.behind in
    let done = chains_linked nodes ends chains l us x ws h at node (none_in x.0 chains alone) in
    let filled : AreWith nodes ends chains l x (first_or ws None) (last_or None us) (ends_of (us ++ ws)) =
    subst (λ zs. AreChains (linked_nodes l us x ws nodes) (set ends l (linked_ends us x ws (ends_of (us ++ ws)))) (set chains l zs))
    (sym (s.filled x) ∙ ap (λ o. with_pair o x (get_or chains l [])) s.there) done in
    let there : AreWith nodes ends chains l x place (last_or None us) (ends_of (us ++ ws)) =
    subst (λ o. AreWith nodes ends chains l x o (last_or None us) (ends_of (us ++ ws))) (sym s.there) filled in
    subst (λ r. AreWith nodes ends chains l x place r (get_or ends l no_ends)) (sym p.previous)
    (subst (λ e. AreWith nodes ends chains l x place (last_or None us) e) (sym (p.around ∙ ap ends_of s.is)) there)
