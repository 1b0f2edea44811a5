-- Lists of places from a node on, with a place more and with one less.
use Rattle.std.proofs.Common.{◌≡◌, ◌≢◌, ℕ, zero, suc, ◌<◌, Bool, true, false, List, [], ◌∷◌, ◌++◌, map, length, get_or, set, Option, Some, None, refl, sym, ap, subst, ◌∙◌, true≢false, arith}
use Rattle.std.specs.Prelude.{nat_eq, ◌||◌, not, IfSome, if◌then◌else◌}
use Rattle.std.specs.Option.{option_map_or}
use Rattle.std.specs.List.{cons_option}
use Rattle.std.specs.Ordering.{is_lt, is_eq}
use Rattle.std.proofs.lemmas.Bool.Decides.{Decides-eqb}
use Rattle.std.proofs.lemmas.List.{map-set}
use Rattle.std.proofs.lemmas.Option.{same_Some, slice_get-get_or}
use Rattle.slab.specs.Slab.{Slab, get}
use Rattle.ob_links.specs.declared.node.NodeId.{NodeId}
use Rattle.ob_links.specs.Lists.{Pair, Linked, joined, AreApart, has_node, list_of, item_of, first_node, node_after, is_node, without_node}
use Rattle.ob_links.proofs.Nodes.{own_node, same_node, has_first, has_later, not_first, apart_nodes, apart_left, apart_right, apart_parts, apart_parts_back, without_absent}
use Rattle.ob_links.proofs.Counting.{without_none}
use Rattle.ob_links.proofs.Walking.{in_joined}
use Rattle.ob_rest_spec.specs.Incoming.{StorePlace}
use Rattle.ob_owners.specs.declared.spot.Spot.{Spot}
use Rattle.ob_owners.specs.Order.{place_order, with_place, without_place, node_by, spots_with}
use Rattle.ob_owners.specs.Places.{spots_of, listed_of, places_of}
use Rattle.ob_owners.specs.Spots.{place_of}
use Rattle.ob_owners.proofs.PlacesLemmas.{get_listed}

-- Nodes that differ.

differ : (a b : NodeId) → a.0 ≢ b.0 → nat_eq a.0 b.0 ≡ false
differ a b ne = by (nat_eq a.0 b.0) refl
  where
    by : (c : Bool) → nat_eq a.0 b.0 ≡ c → nat_eq a.0 b.0 ≡ false
    by true is = absurd (ne ((Decides-eqb a.0 b.0).0 is))
    by false is = is

not_among : (x : Pair) (xs : List Pair) (m : NodeId) → has_node x.0 xs ≡ false → has_node m xs ≡ true → nat_eq x.0.0 m.0 ≡ false
not_among x xs m out has = differ x.0 m (λ e. apart_nodes m x.0 xs has out (sym e))

-- A list from a node on.

abbrev pub from_node : Option NodeId → List Pair → List Pair
from_node None xs = []
from_node (Some n) [] = []
from_node (Some n) (x ∷ xs) = if nat_eq x.0.0 n.0 then x ∷ xs else from_node (Some n) xs

pub from_first : (xs : List Pair) → from_node (first_node xs) xs ≡ xs
from_first [] = refl
from_first (x ∷ xs) = ap (λ b. if b then x ∷ xs else from_node (Some x.0) xs) (own_node x.0)

pub first_inside : (xs : List Pair) → IfSome (first_node xs) (λ n. has_node n xs ≡ true)
first_inside [] = tt
first_inside (x ∷ xs) = has_first x xs

skip : (o : Option NodeId) (x : Pair) (xs : List Pair) → IfSome o (λ m. has_node m xs ≡ true) → has_node x.0 xs ≡ false → from_node o (x ∷ xs) ≡ from_node o xs
skip None x xs h out = refl
skip (Some m) x xs h out = ap (λ b. if b then x ∷ xs else from_node (Some m) xs) (not_among x xs m out h)

inside_later : (o : Option NodeId) (x : Pair) (xs : List Pair) → IfSome o (λ m. has_node m xs ≡ true) → IfSome o (λ m. has_node m (x ∷ xs) ≡ true)
inside_later None x xs h = tt
inside_later (Some m) x xs h = has_later m x xs h

-- what a list has from a node on: its pair, and then what it has from the node after it on
pub record FromNode (n : NodeId) (xs : List Pair) : Type 0 where
  pub pair : Pair
  pub rest : List Pair
  pub is : from_node (Some n) xs ≡ pair ∷ rest
  pub item : item_of n xs ≡ Some pair.1
  pub node : pair.0 ≡ n
  pub later : from_node (node_after n xs) xs ≡ rest
  pub inside : IfSome (node_after n xs) (λ m. has_node m xs ≡ true)

pub from_told : (n : NodeId) (xs : List Pair) → AreApart xs → has_node n xs ≡ true → FromNode n xs
from_told n [] a h = absurd (true≢false (sym h))
from_told n (x ∷ xs) a h = by (nat_eq x.0.0 n.0) (from_told n xs a.1) refl
  where
    by : (b : Bool) → (has_node n xs ≡ true → FromNode n xs) → nat_eq x.0.0 n.0 ≡ b → FromNode n (x ∷ xs)
    by true rest is =
        let after : node_after n (x ∷ xs) ≡ first_node xs = ap (λ b. if b then first_node xs else node_after n xs) is in
        record {
          pair = x;
          rest = xs;
          is = ap (λ b. if b then x ∷ xs else from_node (Some n) xs) is;
          item = ap (λ b. if b then Some x.1 else item_of n xs) is;
          node = same_node x.0 n is;
          later = ap (λ o. from_node o (x ∷ xs)) after ∙ skip (first_node xs) x xs (first_inside xs) a.0 ∙ from_first xs;
          inside = subst (λ o. IfSome o (λ m. has_node m (x ∷ xs) ≡ true)) (sym after) (inside_later (first_node xs) x xs (first_inside xs));
        }
    by false rest is =
        let r = rest (sym (ap (λ b. b || has_node n xs) is) ∙ h) in
        let after : node_after n (x ∷ xs) ≡ node_after n xs = ap (λ b. if b then first_node xs else node_after n xs) is in
        record {
          pair = r.pair;
          rest = r.rest;
          is = ap (λ b. if b then x ∷ xs else from_node (Some n) xs) is ∙ r.is;
          item = ap (λ b. if b then Some x.1 else item_of n xs) is ∙ r.item;
          node = r.node;
          later = ap (λ o. from_node o (x ∷ xs)) after ∙ skip (node_after n xs) x xs r.inside a.0 ∙ r.later;
          inside = subst (λ o. IfSome o (λ m. has_node m (x ∷ xs) ≡ true)) (sym after) (inside_later (node_after n xs) x xs r.inside);
        }

-- The list of a number, among all of them.

pub apart_at : (lists : List (List Pair)) (l : ℕ) → AreApart (joined lists) → AreApart (get_or lists l [])
apart_at [] l a = tt
apart_at (xs ∷ ls) zero a = apart_left xs (joined ls) a
apart_at (xs ∷ ls) (suc l) a = apart_at ls l (apart_right xs (joined ls) a)

pub has_at : (lists : List (List Pair)) (l : ℕ) (n : NodeId) → l < length lists → has_node n (get_or lists l []) ≡ true → has_node n (joined lists) ≡ true
has_at lists l n within h = in_joined n lists l (get_or lists l []) (slice_get-get_or lists l [] within) h

pub list_there : (lists : List (List Pair)) (l : ℕ) (n : NodeId) → AreApart (joined lists) → l < length lists → has_node n (get_or lists l []) ≡ true → list_of n lists ≡ get_or lists l []
list_there [] l n a within h = absurd (omega arith)
list_there (xs ∷ ls) zero n a within h = ap (λ b. if b then xs else list_of n ls) h
list_there (xs ∷ ls) (suc l) n a within h =
    let there : has_node n (joined ls) ≡ true = has_at ls l n (omega arith) h in
    ap (λ b. if b then xs else list_of n ls) (apart_parts_back n xs (joined ls) a there)
    ∙ list_there ls l n (apart_right xs (joined ls) a) (omega arith) h

pub item_there : (lists : List (List Pair)) (l : ℕ) (n : NodeId) → AreApart (joined lists) → l < length lists → has_node n (get_or lists l []) ≡ true
    → item_of n (joined lists) ≡ item_of n (get_or lists l [])
item_there [] l n a within h = absurd (omega arith)
item_there (xs ∷ ls) zero n a within h = item_left xs h
  where
    item_left : (ys : List Pair) → has_node n ys ≡ true → item_of n (ys ++ joined ls) ≡ item_of n ys
    item_left [] k = absurd (true≢false (sym k))
    item_left (y ∷ ys) k = by (nat_eq y.0.0 n.0) refl (item_left ys)
      where
        by : (b : Bool) → nat_eq y.0.0 n.0 ≡ b → (has_node n ys ≡ true → item_of n (ys ++ joined ls) ≡ item_of n ys) → (if b then Some y.1 else item_of n (ys ++ joined ls)) ≡ (if b then Some y.1 else item_of n ys)
        by true is rest = refl
        by false is rest = rest (sym (ap (λ b. b || has_node n ys) is) ∙ k)
item_there (xs ∷ ls) (suc l) n a within h =
    let there : has_node n (joined ls) ≡ true = has_at ls l n (omega arith) h in
    item_right xs (apart_parts_back n xs (joined ls) a there) ∙ item_there ls l n (apart_right xs (joined ls) a) (omega arith) h
  where
    item_right : (ys : List Pair) → has_node n ys ≡ false → item_of n (ys ++ joined ls) ≡ item_of n (joined ls)
    item_right [] k = refl
    item_right (y ∷ ys) k =
        ap (λ b. if b then Some y.1 else item_of n (ys ++ joined ls)) (not_first n y ys k)
        ∙ item_right ys (by (nat_eq y.0.0 n.0) k)
      where
        by : (b : Bool) → (b || has_node n ys) ≡ false → has_node n ys ≡ false
        by true e = absurd (true≢false e)
        by false e = e

-- One turn of a walk along a list: the node isn't the one that is looked for, or it is.

pub node_turn : (test : Spot → Bool) (spots : Slab Spot) (xs : List Pair) (n : NodeId) (f : FromNode n xs) (key : ℕ) → key ≡ f.pair.1
    → option_map_or test (get spots key) false ≡ false → node_by test spots (from_node (node_after n xs) xs) ≡ node_by test spots (from_node (Some n) xs)
node_turn test spots xs n f key e out =
    ap (node_by test spots) f.later
    ∙ sym (ap (λ b. if b then Some f.pair.0 else node_by test spots f.rest) (sym (ap (λ k. option_map_or test (get spots k) false) e) ∙ out))
    ∙ sym (ap (node_by test spots) f.is)

pub node_here : (test : Spot → Bool) (spots : Slab Spot) (xs : List Pair) (n : NodeId) (f : FromNode n xs) (key : ℕ) → key ≡ f.pair.1
    → option_map_or test (get spots key) false ≡ true → node_by test spots (from_node (Some n) xs) ≡ Some n
node_here test spots xs n f key e here =
    ap (node_by test spots) f.is
    ∙ ap (λ b. if b then Some f.pair.0 else node_by test spots f.rest) (sym (ap (λ k. option_map_or test (get spots k) false) e) ∙ here)
    ∙ ap Some f.node

pub shorter : (xs : List Pair) (n : NodeId) → (f : FromNode n xs) → length (from_node (node_after n xs) xs) < length (from_node (Some n) xs)
shorter xs n f = let a = ap length f.later in let b = ap length f.is in omega (arith, a, b)

-- A place more.

node_in : (test : Spot → Bool) (spots : Slab Spot) (xs : List Pair) (n : NodeId) → node_by test spots xs ≡ Some n → has_node n xs ≡ true
node_in test spots [] n e = cc
node_in test spots (x ∷ xs) n e = by (option_map_or test (get spots x.1) false) e (node_in test spots xs n)
  where
    by : (b : Bool) → (if b then Some x.0 else node_by test spots xs) ≡ Some n → (node_by test spots xs ≡ Some n → has_node n xs ≡ true) → has_node n (x ∷ xs) ≡ true
    by true is rest = subst (λ m. has_node m (x ∷ xs) ≡ true) (same_Some x.0 n is) (has_first x xs)
    by false is rest = has_later n x xs (rest is)

pub node_inside : (test : Spot → Bool) (spots : Slab Spot) (xs : List Pair) (o : Option NodeId) → o ≡ node_by test spots xs → IfSome o (λ n. has_node n xs ≡ true)
node_inside test spots xs None e = tt
node_inside test spots xs (Some n) e = node_in test spots xs n (sym e)

not_node : (test : Spot → Bool) (spots : Slab Spot) (x : Pair) (xs : List Pair) (o : Option NodeId) → node_by test spots xs ≡ o → IfSome o (λ n. AreApart (x ∷ xs)) → is_node o x.0 ≡ false
not_node test spots x xs None e a = refl
not_node test spots x xs (Some n) e a = not_among x xs n a.0 (node_in test spots xs n e)

apart_less : (o : Option NodeId) (x : Pair) (xs : List Pair) → IfSome o (λ n. AreApart (x ∷ xs)) → IfSome o (λ n. AreApart xs)
apart_less None x xs a = tt
apart_less (Some n) x xs a = a.1

abbrev pub past : Spot → Spot → Bool
past s q = is_lt (place_order (place_of s) (place_of q))

pub spots_put : (spots : Slab Spot) (s : Spot) (o : Option NodeId) (xs : List Pair) → node_by (past s) spots xs ≡ o → IfSome o (λ n. AreApart xs)
    → map place_of (spots_with spots o s xs) ≡ with_place (place_of s) (map place_of (spots_of spots xs))
spots_put spots s o [] e a = refl
spots_put spots s o (x ∷ xs) e a = by (get spots x.1) refl (λ later. spots_put spots s o xs later (apart_less o x xs a))
  where
    onward : (r : Option Spot) → get spots x.1 ≡ r → option_map_or (past s) r false ≡ false
        → map place_of (spots_with spots o s (x ∷ xs)) ≡ map place_of (cons_option r (spots_with spots o s xs))
    onward r at out =
        let later : node_by (past s) spots xs ≡ o = sym (ap (λ b. if b then Some x.0 else node_by (past s) spots xs) (ap (λ g. option_map_or (past s) g false) at ∙ out)) ∙ e in
        ap (λ b. map place_of (if b then s ∷ spots_of spots (x ∷ xs) else cons_option (get spots x.1) (spots_with spots o s xs))) (not_node (past s) spots x xs o later a)
        ∙ ap (λ g. map place_of (cons_option g (spots_with spots o s xs))) at

    rest : (r : Option Spot) → get spots x.1 ≡ r → option_map_or (past s) r false ≡ false → (node_by (past s) spots xs ≡ o → map place_of (spots_with spots o s xs) ≡ with_place (place_of s) (map place_of (spots_of spots xs)))
        → map place_of (spots_with spots o s xs) ≡ with_place (place_of s) (map place_of (spots_of spots xs))
    rest r at out later = later (sym (ap (λ b. if b then Some x.0 else node_by (past s) spots xs) (ap (λ g. option_map_or (past s) g false) at ∙ out)) ∙ e)

    among : (q : Spot) (b : Bool) → past s q ≡ b → get spots x.1 ≡ Some q → (node_by (past s) spots xs ≡ o → map place_of (spots_with spots o s xs) ≡ with_place (place_of s) (map place_of (spots_of spots xs)))
        → map place_of (spots_with spots o s (x ∷ xs)) ≡ (if b then place_of s ∷ place_of q ∷ map place_of (spots_of spots xs) else place_of q ∷ with_place (place_of s) (map place_of (spots_of spots xs)))
    among q true is at later =
        let here : Some x.0 ≡ o = sym (ap (λ b. if b then Some x.0 else node_by (past s) spots xs) (ap (λ g. option_map_or (past s) g false) at ∙ is)) ∙ e in
        sym (ap (λ m. map place_of (spots_with spots m s (x ∷ xs))) here)
        ∙ ap (λ b. map place_of (if b then s ∷ spots_of spots (x ∷ xs) else cons_option (get spots x.1) (spots_with spots (Some x.0) s xs))) (own_node x.0)
        ∙ ap (λ g. place_of s ∷ map place_of (cons_option g (spots_of spots xs))) at
    among q false is at later = onward (Some q) at is ∙ ap (λ ps. place_of q ∷ ps) (rest (Some q) at is later)

    by : (r : Option Spot) → get spots x.1 ≡ r → (node_by (past s) spots xs ≡ o → map place_of (spots_with spots o s xs) ≡ with_place (place_of s) (map place_of (spots_of spots xs))) → map place_of (spots_with spots o s (x ∷ xs)) ≡ with_place (place_of s) (map place_of (spots_of spots (x ∷ xs)))
    by None at later = onward None at refl ∙ rest None at refl later ∙ sym (ap (λ g. with_place (place_of s) (map place_of (cons_option g (spots_of spots xs)))) at)
    by (Some q) at later = among q (past s q) refl at later ∙ sym (ap (λ g. with_place (place_of s) (map place_of (cons_option g (spots_of spots xs)))) at)

pub spots_first : (spots : Slab Spot) (s : Spot) (xs : List Pair) → spots_with spots (first_node xs) s xs ≡ s ∷ spots_of spots xs
spots_first spots s [] = refl
spots_first spots s (x ∷ xs) = ap (λ b. if b then s ∷ spots_of spots (x ∷ xs) else cons_option (get spots x.1) (spots_with spots (Some x.0) s xs)) (own_node x.0)

-- A place less.

abbrev pub same : Spot → Spot → Bool
same s q = is_eq (place_order (place_of s) (place_of q))

spots_taken : (spots : Slab Spot) (s : Spot) (n : NodeId) (xs : List Pair) → node_by (same s) spots xs ≡ Some n → AreApart xs
    → map place_of (spots_of spots (without_node n xs)) ≡ without_place (place_of s) (map place_of (spots_of spots xs))
spots_taken spots s n [] e a = cc
spots_taken spots s n (x ∷ xs) e a = by (get spots x.1) refl (λ later. spots_taken spots s n xs later a.1)
  where
    onward : (r : Option Spot) → get spots x.1 ≡ r → option_map_or (same s) r false ≡ false
        → map place_of (spots_of spots (without_node n (x ∷ xs))) ≡ map place_of (cons_option r (spots_of spots (without_node n xs)))
    onward r at out =
        let later : node_by (same s) spots xs ≡ Some n = sym (ap (λ b. if b then Some x.0 else node_by (same s) spots xs) (ap (λ g. option_map_or (same s) g false) at ∙ out)) ∙ e in
        ap (λ b. map place_of (spots_of spots (if not b then x ∷ without_node n xs else without_node n xs))) (not_among x xs n a.0 (node_in (same s) spots xs n later))
        ∙ ap (λ g. map place_of (cons_option g (spots_of spots (without_node n xs)))) at

    rest : (r : Option Spot) → get spots x.1 ≡ r → option_map_or (same s) r false ≡ false → (node_by (same s) spots xs ≡ Some n → map place_of (spots_of spots (without_node n xs)) ≡ without_place (place_of s) (map place_of (spots_of spots xs)))
        → map place_of (spots_of spots (without_node n xs)) ≡ without_place (place_of s) (map place_of (spots_of spots xs))
    rest r at out later = later (sym (ap (λ b. if b then Some x.0 else node_by (same s) spots xs) (ap (λ g. option_map_or (same s) g false) at ∙ out)) ∙ e)

    among : (q : Spot) (b : Bool) → same s q ≡ b → get spots x.1 ≡ Some q → (node_by (same s) spots xs ≡ Some n → map place_of (spots_of spots (without_node n xs)) ≡ without_place (place_of s) (map place_of (spots_of spots xs)))
        → map place_of (spots_of spots (without_node n (x ∷ xs))) ≡ (if b then map place_of (spots_of spots xs) else place_of q ∷ without_place (place_of s) (map place_of (spots_of spots xs)))
    among q true is at later =
        let here : x.0 ≡ n = same_Some x.0 n (sym (ap (λ b. if b then Some x.0 else node_by (same s) spots xs) (ap (λ g. option_map_or (same s) g false) at ∙ is)) ∙ e) in
        ap (λ b. map place_of (spots_of spots (if not b then x ∷ without_node n xs else without_node n xs))) (ap (λ (m : NodeId). nat_eq x.0.0 m.0) (sym here) ∙ own_node x.0)
        ∙ ap (λ ys. map place_of (spots_of spots ys)) (without_absent n xs (subst (λ m. has_node m xs ≡ false) here a.0))
    among q false is at later = onward (Some q) at is ∙ ap (λ ps. place_of q ∷ ps) (rest (Some q) at is later)

    by : (r : Option Spot) → get spots x.1 ≡ r → (node_by (same s) spots xs ≡ Some n → map place_of (spots_of spots (without_node n xs)) ≡ without_place (place_of s) (map place_of (spots_of spots xs))) → map place_of (spots_of spots (without_node n (x ∷ xs))) ≡ without_place (place_of s) (map place_of (spots_of spots (x ∷ xs)))
    by None at later = onward None at refl ∙ rest None at refl later ∙ sym (ap (λ g. without_place (place_of s) (map place_of (cons_option g (spots_of spots xs)))) at)
    by (Some q) at later = among q (same s q) refl at later ∙ sym (ap (λ g. without_place (place_of s) (map place_of (cons_option g (spots_of spots xs)))) at)

none_taken : (spots : Slab Spot) (s : Spot) (xs : List Pair) → node_by (same s) spots xs ≡ None
    → without_place (place_of s) (map place_of (spots_of spots xs)) ≡ map place_of (spots_of spots xs)
none_taken spots s [] e = refl
none_taken spots s (x ∷ xs) e = by (get spots x.1) refl (none_taken spots s xs)
  where
    rest : (r : Option Spot) → get spots x.1 ≡ r → option_map_or (same s) r false ≡ false → (node_by (same s) spots xs ≡ None → without_place (place_of s) (map place_of (spots_of spots xs)) ≡ map place_of (spots_of spots xs)) → without_place (place_of s) (map place_of (spots_of spots xs)) ≡ map place_of (spots_of spots xs)
    rest r at out later = later (sym (ap (λ b. if b then Some x.0 else node_by (same s) spots xs) (ap (λ g. option_map_or (same s) g false) at ∙ out)) ∙ e)

    among : (q : Spot) (b : Bool) → same s q ≡ b → get spots x.1 ≡ Some q → (node_by (same s) spots xs ≡ None → without_place (place_of s) (map place_of (spots_of spots xs)) ≡ map place_of (spots_of spots xs))
        → (if b then map place_of (spots_of spots xs) else place_of q ∷ without_place (place_of s) (map place_of (spots_of spots xs))) ≡ place_of q ∷ map place_of (spots_of spots xs)
    among q true is at later =
        let here : Some x.0 ≡ None = sym (ap (λ b. if b then Some x.0 else node_by (same s) spots xs) (ap (λ g. option_map_or (same s) g false) at ∙ is)) ∙ e in cc
    among q false is at later = ap (λ ps. place_of q ∷ ps) (rest (Some q) at is later)

    by : (r : Option Spot) → get spots x.1 ≡ r → (node_by (same s) spots xs ≡ None → without_place (place_of s) (map place_of (spots_of spots xs)) ≡ map place_of (spots_of spots xs))
        → without_place (place_of s) (map place_of (spots_of spots (x ∷ xs))) ≡ map place_of (spots_of spots (x ∷ xs))
    by None at later =
        ap (λ g. without_place (place_of s) (map place_of (cons_option g (spots_of spots xs)))) at ∙ rest None at refl later
        ∙ sym (ap (λ g. map place_of (cons_option g (spots_of spots xs))) at)
    by (Some q) at later =
        ap (λ g. without_place (place_of s) (map place_of (cons_option g (spots_of spots xs)))) at ∙ among q (same s q) refl at later
        ∙ sym (ap (λ g. map place_of (cons_option g (spots_of spots xs))) at)

-- All lists.

taken_out : (lists : List (List Pair)) (l : ℕ) (n : NodeId) → l < length lists → AreApart (joined lists) → has_node n (get_or lists l []) ≡ true
    → map (without_node n) lists ≡ set lists l (without_node n (get_or lists l []))
taken_out [] l n within a h = absurd (omega arith)
taken_out (xs ∷ ls) zero n within a h = ap (λ ys. without_node n xs ∷ ys) (without_none n ls (apart_parts n xs (joined ls) a h))
taken_out (xs ∷ ls) (suc l) n within a h =
    let there : has_node n (joined ls) ≡ true = has_at ls l n (omega arith) h in
    ap (λ ys. ys ∷ map (without_node n) ls) (without_absent n xs (apart_parts_back n xs (joined ls) a there))
    ∙ ap (λ ys. xs ∷ ys) (taken_out ls l n (omega arith) (apart_right xs (joined ls) a) h)

get_placed : (lists : List (List Spot)) (l : ℕ) → get_or (places_of lists) l [] ≡ map place_of (get_or lists l [])
get_placed [] l = refl
get_placed (xs ∷ ls) zero = refl
get_placed (xs ∷ ls) (suc l) = get_placed ls l

seen_at : (spots : Slab Spot) (links : Linked) (l : ℕ) (lists : List (List StorePlace)) → places_of (listed_of spots links) ≡ lists
    → map place_of (spots_of spots (get_or links.lists l [])) ≡ get_or lists l []
seen_at spots links l lists e = sym (sym (ap (λ ls. get_or ls l []) e) ∙ get_placed (listed_of spots links) l ∙ ap (map place_of) (get_listed spots links.lists l))

set_seen : (spots : Slab Spot) (links : Linked) (l : ℕ) (ss : List Spot) (lists : List (List StorePlace)) → places_of (listed_of spots links) ≡ lists
    → places_of (set (listed_of spots links) l ss) ≡ set lists l (map place_of ss)
set_seen spots links l ss lists e = map-set (map place_of) (listed_of spots links) l ss ∙ ap (λ ls. set ls l (map place_of ss)) e

-- a place before the others
pub put_before : (old new : Slab Spot) (links others : Linked) (l : ℕ) (o : Option NodeId) (s : Spot) (lists : List (List StorePlace)) → places_of (listed_of old links) ≡ lists
    → o ≡ first_node (get_or links.lists l []) → listed_of new others ≡ set (listed_of old links) l (spots_with old o s (get_or links.lists l []))
    → places_of (listed_of new others) ≡ set lists l (place_of s ∷ get_or lists l [])
put_before old new links others l o s lists e at is =
    let xs = get_or links.lists l [] in
    ap places_of is ∙ set_seen old links l (spots_with old o s xs) lists e
    ∙ ap (λ p. set lists l (map place_of (spots_with old p s xs))) at
    ∙ ap (λ ss. set lists l (map place_of ss)) (spots_first old s xs)
    ∙ ap (λ ps. set lists l (place_of s ∷ ps)) (seen_at old links l lists e)

-- a place among the others
pub put_among : (old new : Slab Spot) (links others : Linked) (l : ℕ) (o : Option NodeId) (s : Spot) (lists : List (List StorePlace)) → places_of (listed_of old links) ≡ lists
    → o ≡ node_by (past s) old (get_or links.lists l []) → IfSome o (λ n. AreApart (joined links.lists))
    → listed_of new others ≡ set (listed_of old links) l (spots_with old o s (get_or links.lists l []))
    → places_of (listed_of new others) ≡ set lists l (with_place (place_of s) (get_or lists l []))
put_among old new links others l o s lists e at a is =
    let xs = get_or links.lists l [] in
    ap places_of is ∙ set_seen old links l (spots_with old o s xs) lists e
    ∙ ap (set lists l) (spots_put old s o xs (sym at) (here o a))
    ∙ ap (λ ps. set lists l (with_place (place_of s) ps)) (seen_at old links l lists e)
  where
    here : (p : Option NodeId) → IfSome p (λ n. AreApart (joined links.lists)) → IfSome p (λ n. AreApart (get_or links.lists l []))
    here None b = tt
    here (Some n) b = apart_at links.lists l b

mapped_twice : (spots : Slab Spot) (n : NodeId) (lists : List (List Pair)) → map (λ xs. spots_of spots (without_node n xs)) lists ≡ map (spots_of spots) (map (without_node n) lists)
mapped_twice spots n [] = refl
mapped_twice spots n (xs ∷ ls) = ap (λ ys. spots_of spots (without_node n xs) ∷ ys) (mapped_twice spots n ls)

-- a place less
pub taken_from : (old new : Slab Spot) (links others : Linked) (l : ℕ) (n : NodeId) (s : Spot) (lists : List (List StorePlace)) → places_of (listed_of old links) ≡ lists
    → l < length links.lists → Some n ≡ node_by (same s) old (get_or links.lists l []) → AreApart (joined links.lists)
    → listed_of new others ≡ map (λ xs. spots_of old (without_node n xs)) links.lists
    → places_of (listed_of new others) ≡ set lists l (without_place (place_of s) (get_or lists l []))
taken_from old new links others l n s lists e within at a is =
    let xs = get_or links.lists l [] in
    ap places_of
    (is ∙ mapped_twice old n links.lists ∙ ap (map (spots_of old)) (taken_out links.lists l n within a (node_in (same s) old xs n (sym at)))
    ∙ map-set (spots_of old) links.lists l (without_node n xs))
    ∙ set_seen old links l (spots_of old (without_node n xs)) lists e
    ∙ ap (set lists l) (spots_taken old s n xs (sym at) (apart_at links.lists l a))
    ∙ ap (λ ps. set lists l (without_place (place_of s) ps)) (seen_at old links l lists e)

set_own : {A : Type 0} (xs : List A) (l : ℕ) (d : A) → set xs l (get_or xs l d) ≡ xs
set_own [] l d = refl
set_own (x ∷ xs) zero d = refl
set_own (x ∷ xs) (suc l) d = ap (λ ys. x ∷ ys) (set_own xs l d)

-- no place less
pub taken_none : (spots : Slab Spot) (links : Linked) (l : ℕ) (s : Spot) (lists : List (List StorePlace)) → places_of (listed_of spots links) ≡ lists
    → None ≡ node_by (same s) spots (get_or links.lists l []) → lists ≡ set lists l (without_place (place_of s) (get_or lists l []))
taken_none spots links l s lists e at =
    sym (set_own lists l []) ∙ ap (set lists l)
    (sym (seen_at spots links l lists e) ∙ sym (none_taken spots s (get_or links.lists l []) (sym at)) ∙ ap (without_place (place_of s)) (seen_at spots links l lists e))
