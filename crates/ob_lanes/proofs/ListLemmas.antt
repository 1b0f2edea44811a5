-- Lists of lanes: looked for along a list, put at its end, and taken out.
use Rattle.std.proofs.Common.{◌≡◌, ◌≢◌, ℕ, zero, suc, ◌+◌, ◌^◌, ◌<◌, ◌≤◌, Bool, true, false, ◌||◌, List, [], ◌∷◌, ◌++◌, map, length, replicate, length-append, Option, Some, None, refl, sym, ap, subst, ◌∙◌, true≢false, arith}
use Rattle.std.specs.Prelude.{nat_eq, nat_lt, not, is_some, position, slice_get, slice_index_or, slice_set, if◌then◌else◌, IfSome, IfNone}
use Rattle.std.specs.List.{list_any, position_or_len}
use Rattle.std.proofs.Math.ListN.{get_or-map}
use Rattle.std.proofs.lemmas.Bool.{ltb-true, ltb-false}
use Rattle.std.proofs.lemmas.Bool.Decides.{Decides-eqb}
use Rattle.std.proofs.lemmas.List.{get_or-set_same, get_or-set_other, length-map}
use Rattle.std.proofs.lemmas.List.Recursion.{is_position_or_len}
use Rattle.std.proofs.lemmas.Option.{same_Some}
use Rattle.indexmap.specs.IndexSet.{insert_key}
use Rattle.ob_heap_spec.specs.Marks.{is_among}
use Rattle.ob_links.specs.declared.node.NodeId.{NodeId}
use Rattle.ob_links.specs.Lists.{Pair, Linked, joined, AreApart, has_node, item_of, first_node, node_after, with_pair, without_node}
use Rattle.ob_links.proofs.Nodes.{own_node, has_first, has_later, none_left, none_right, apart_nodes, apart_right, apart_parts, apart_parts_back, without_absent}
use Rattle.ob_owners.proofs.PlacesLemmas.{joined_more, headed, item_first}
use Rattle.ob_owners.proofs.WalkLemmas.{FromNode, from_node, apart_at}
use Rattle.ob_lanes_laws.proofs.Keeping.{differ}
use Rattle.ob_lanes.specs.Readers.{items_of, node_with, is_at, SameBut, Listing, place_in, is_listed, IsListOf, AreCounted}
use Rattle.ob_lanes.proofs.Answering.{same_or, eq_itself}

-- Numbers.

pub same_number : (m n : ℕ) → nat_eq m n ≡ true → m ≡ n
same_number m n e = (Decides-eqb m n).0 e

-- One turn of a walk along a list: the node isn't that of the lane, or it is.

pub node_turn : (lane : ℕ) (xs : List Pair) (n : NodeId) (f : FromNode n xs) (key : ℕ) → key ≡ f.pair.1 → lane ≢ key
    → node_with lane (from_node (node_after n xs) xs) ≡ node_with lane (from_node (Some n) xs)
node_turn lane xs n f key e out =
    ap (node_with lane) f.later
    ∙ sym (ap (λ b. if b then Some f.pair.0 else node_with lane f.rest) (differ lane f.pair.1 (λ h. out (h ∙ sym e))))
    ∙ sym (ap (node_with lane) f.is)

pub node_here : (lane : ℕ) (xs : List Pair) (n : NodeId) (f : FromNode n xs) (key : ℕ) → key ≡ f.pair.1 → lane ≡ key → node_with lane (from_node (Some n) xs) ≡ Some n
node_here lane xs n f key e here =
    ap (node_with lane) f.is
    ∙ ap (λ b. if b then Some f.pair.0 else node_with lane f.rest) (ap (nat_eq lane) (sym (here ∙ e)) ∙ eq_itself lane)
    ∙ ap Some f.node

-- Whether a lane is in a list.

is_there : (lane : ℕ) (xs : List Pair) → is_some (node_with lane xs) ≡ is_among lane (map (λ (x : Pair). x.1) xs)
is_there lane [] = refl
is_there lane (x ∷ xs) = by (is_there lane xs) (nat_eq lane x.1)
  where
    by : is_some (node_with lane xs) ≡ is_among lane (map (λ (x : Pair). x.1) xs) → (b : Bool) → is_some (if b then Some x.0 else node_with lane xs) ≡ b || is_among lane (map (λ (x : Pair). x.1) xs)
    by rest true = refl
    by rest false = rest

pub items_at : (n : ℕ) (links : Linked) → slice_index_or (items_of links) n [] ≡ map (λ (x : Pair). x.1) (slice_index_or links.lists n [])
items_at n links = get_or-map (map (λ (x : Pair). x.1)) links.lists n []

listed_at : (lane n : ℕ) (links : Linked) → is_among lane (map (λ (x : Pair). x.1) (slice_index_or links.lists n [])) ≡ is_at (items_of links) lane n
listed_at lane n links = ap (is_among lane) (sym (items_at n links))

pub node_tells : (lane n : ℕ) (links : Linked) (o : Option NodeId) → o ≡ node_with lane (slice_index_or links.lists n []) → is_some o ≡ is_at (items_of links) lane n
node_tells lane n links o e = ap is_some e ∙ is_there lane (slice_index_or links.lists n []) ∙ listed_at lane n links

pub past_end : (lists : List (List ℕ)) (n : ℕ) → length lists ≤ n → slice_index_or lists n [] ≡ []
past_end [] n h = refl
past_end (xs ∷ ls) zero h = absurd (omega (arith, h))
past_end (xs ∷ ls) (suc n) h = past_end ls n (omega (arith, h))

-- the lists after a change of one of them
one_changed : (links after : Linked) (m : ℕ) (ys : List Pair) (k n : ℕ) → after.lists ≡ slice_set links.lists m ys → n ≢ m → is_at (items_of after) k n ≡ is_at (items_of links) k n
one_changed links after m ys k n e other =
    sym (listed_at k n after)
    ∙ ap (λ (ls : List (List Pair)). is_among k (map (λ (x : Pair). x.1) (slice_index_or ls n []))) e
    ∙ ap (λ xs. is_among k (map (λ (x : Pair). x.1) xs)) (get_or-set_other links.lists m n ys [] other)
    ∙ listed_at k n links

-- A lane more.

last_there : (x : Pair) (xs : List Pair) → is_among x.1 (map (λ (y : Pair). y.1) (with_pair None x xs)) ≡ true
last_there x [] = ap (λ b. b || false) (eq_itself x.1)
last_there x (y ∷ ys) = by (last_there x ys) (nat_eq x.1 y.1)
  where
    by : is_among x.1 (map (λ (z : Pair). z.1) (with_pair None x ys)) ≡ true → (b : Bool) → b || is_among x.1 (map (λ (z : Pair). z.1) (with_pair None x ys)) ≡ true
    by rest true = refl
    by rest false = rest

last_other : (k : ℕ) (x : Pair) (xs : List Pair) → k ≢ x.1 → is_among k (map (λ (y : Pair). y.1) (with_pair None x xs)) ≡ is_among k (map (λ (y : Pair). y.1) xs)
last_other k x [] other = ap (λ b. b || false) (differ k x.1 other)
last_other k x (y ∷ ys) other = ap (λ b. nat_eq k y.1 || b) (last_other k x ys other)

pub entered_there : (links after : Linked) (m : ℕ) (x : Pair) → m < length links.lists → after.lists ≡ slice_set links.lists m (with_pair None x (slice_index_or links.lists m []))
    → is_at (items_of after) x.1 m ≡ true
entered_there links after m x within e =
    sym (listed_at x.1 m after)
    ∙ ap (λ (ls : List (List Pair)). is_among x.1 (map (λ (y : Pair). y.1) (slice_index_or ls m []))) e
    ∙ ap (λ ys. is_among x.1 (map (λ (y : Pair). y.1) ys)) (get_or-set_same links.lists m (with_pair None x (slice_index_or links.lists m [])) [] within)
    ∙ last_there x (slice_index_or links.lists m [])

pub entered_others : (links after : Linked) (m : ℕ) (x : Pair) → m < length links.lists → after.lists ≡ slice_set links.lists m (with_pair None x (slice_index_or links.lists m []))
    → SameBut x.1 m (is_at (items_of links)) (is_at (items_of after))
entered_others links after m x within e = λ k n but.
    let xs = slice_index_or links.lists m [] in
    same_or n m (is_at (items_of after) k n ≡ is_at (items_of links) k n)
    (λ is. ap (is_at (items_of after) k) is
    ∙ sym (listed_at k m after)
    ∙ ap (λ (ls : List (List Pair)). is_among k (map (λ (y : Pair). y.1) (slice_index_or ls m []))) e
    ∙ ap (λ ys. is_among k (map (λ (y : Pair). y.1) ys)) (get_or-set_same links.lists m (with_pair None x xs) [] within)
    ∙ last_other k x xs (λ same. but (same, is))
    ∙ listed_at k m links
    ∙ sym (ap (is_at (items_of links) k) is))
    (λ other. one_changed links after m (with_pair None x xs) k n e other)

-- A lane less.

-- a node that no list has is in none of them
none_in : (n : NodeId) (lists : List (List Pair)) (l : ℕ) → has_node n (joined lists) ≡ false → has_node n (slice_index_or lists l []) ≡ false
none_in n [] l h = refl
none_in n (xs ∷ ls) zero h = none_left n xs (joined ls) h
none_in n (xs ∷ ls) (suc l) h = none_in n ls l (none_right n xs (joined ls) h)

pub some_in : (n : NodeId) (lists : List (List Pair)) (l : ℕ) → has_node n (slice_index_or lists l []) ≡ true → has_node n (joined lists) ≡ true
some_in n lists l h = by (has_node n (joined lists)) refl
  where
    by : (b : Bool) → has_node n (joined lists) ≡ b → has_node n (joined lists) ≡ true
    by true is = is
    by false is = absurd (true≢false (sym h ∙ none_in n lists l is))

-- a node of one list is in no other
alone_in : (n : NodeId) (lists : List (List Pair)) (l k : ℕ) → k ≢ l → AreApart (joined lists) → has_node n (slice_index_or lists l []) ≡ true → has_node n (slice_index_or lists k []) ≡ false
alone_in n [] l k other a h = refl
alone_in n (xs ∷ ls) zero zero other a h = absurd (other refl)
alone_in n (xs ∷ ls) zero (suc k) other a h = none_in n ls k (apart_parts n xs (joined ls) a h)
alone_in n (xs ∷ ls) (suc l) zero other a h = apart_parts_back n xs (joined ls) a (some_in n ls l h)
alone_in n (xs ∷ ls) (suc l) (suc k) other a h = alone_in n ls l k (λ e. other (ap suc e)) (apart_right xs (joined ls) a) h

pub node_in : (lane : ℕ) (n : NodeId) (xs : List Pair) → Some n ≡ node_with lane xs → has_node n xs ≡ true
node_in lane n [] e = cc
node_in lane n (x ∷ xs) e = by (nat_eq lane x.1) e (node_in lane n xs)
  where
    by : (b : Bool) → Some n ≡ (if b then Some x.0 else node_with lane xs) → (Some n ≡ node_with lane xs → has_node n xs ≡ true) → has_node n (x ∷ xs) ≡ true
    by true is rest = subst (λ m. has_node m (x ∷ xs) ≡ true) (same_Some x.0 n (sym is)) (has_first x xs)
    by false is rest = has_later n x xs (rest is)

-- without the first node of a lane each other lane is there as before
less_other : (lane k : ℕ) (n : NodeId) (xs : List Pair) → k ≢ lane → AreApart xs → Some n ≡ node_with lane xs
    → is_among k (map (λ (y : Pair). y.1) (without_node n xs)) ≡ is_among k (map (λ (y : Pair). y.1) xs)
less_other lane k n [] other a e = refl
less_other lane k n (x ∷ xs) other a e = by (nat_eq lane x.1) refl e (less_other lane k n xs other a.1)
  where
    by : (b : Bool) → nat_eq lane x.1 ≡ b → Some n ≡ (if b then Some x.0 else node_with lane xs)
        → (Some n ≡ node_with lane xs → is_among k (map (λ (y : Pair). y.1) (without_node n xs)) ≡ is_among k (map (λ (y : Pair). y.1) xs))
        → is_among k (map (λ (y : Pair). y.1) (without_node n (x ∷ xs))) ≡ nat_eq k x.1 || is_among k (map (λ (y : Pair). y.1) xs)
    by true here is rest =
        let same : x.0 ≡ n = same_Some x.0 n (sym is) in
        ap (λ b. is_among k (map (λ (y : Pair). y.1) (if not b then x ∷ without_node n xs else without_node n xs))) (ap (λ (m : NodeId). nat_eq x.0.0 m.0) (sym same) ∙ own_node x.0)
        ∙ ap (λ ys. is_among k (map (λ (y : Pair). y.1) ys)) (without_absent n xs (subst (λ m. has_node m xs ≡ false) same a.0))
        ∙ sym (ap (λ b. b || is_among k (map (λ (y : Pair). y.1) xs)) (differ k x.1 (λ e. other (e ∙ sym (same_number lane x.1 here)))))
    by false here is rest =
        let apart = apart_nodes n x.0 xs (node_in lane n xs is) a.0 in
        ap (λ b. is_among k (map (λ (y : Pair). y.1) (if not b then x ∷ without_node n xs else without_node n xs))) (differ x.0.0 n.0 (λ e. apart (sym e)))
        ∙ ap (λ b. nat_eq k x.1 || b) (rest is)

pub removed_others : (links after : Linked) (lane m : ℕ) (n : NodeId) → AreApart (joined links.lists) → Some n ≡ node_with lane (slice_index_or links.lists m [])
    → after.lists ≡ map (without_node n) links.lists → SameBut lane m (is_at (items_of links)) (is_at (items_of after))
removed_others links after lane m n a e is = λ k i but.
    let xs = slice_index_or links.lists i [] in
    let same : is_among k (map (λ (y : Pair). y.1) (without_node n xs)) ≡ is_among k (map (λ (y : Pair). y.1) xs) =
    same_or i m (is_among k (map (λ (y : Pair). y.1) (without_node n xs)) ≡ is_among k (map (λ (y : Pair). y.1) xs))
    (λ here. less_other lane k n xs (λ it. but (it, here)) (apart_at links.lists i a) (e ∙ ap (λ j. node_with lane (slice_index_or links.lists j [])) (sym here)))
    (λ other. ap (λ ys. is_among k (map (λ (y : Pair). y.1) ys)) (without_absent n xs (alone_in n links.lists m i other a (node_in lane n (slice_index_or links.lists m []) e)))) in
    sym (listed_at k i after)
    ∙ ap (λ (ls : List (List Pair)). is_among k (map (λ (y : Pair). y.1) (slice_index_or ls i []))) is
    ∙ ap (λ ys. is_among k (map (λ (y : Pair). y.1) ys)) (get_or-map (without_node n) links.lists i [])
    ∙ same
    ∙ listed_at k i links

-- The first lane of a list.

pub first_among : (k : ℕ) (xs : List ℕ) → Some k ≡ slice_get xs 0 → is_among k xs ≡ true
first_among k [] e = cc
first_among k (x ∷ xs) e = ap (λ b. b || is_among k xs) (ap (nat_eq k) (sym (same_Some k x e)) ∙ eq_itself k)

pub none_among : (k : ℕ) (xs : List ℕ) → None ≡ slice_get xs 0 → is_among k xs ≡ false
none_among k [] e = refl
none_among k (x ∷ xs) e = cc

-- Places of objects.

one_plus : (n : ℕ) → suc n ≡ 1 + n
one_plus n = omega arith

place_is : (n : ℕ) (ks : List ℕ) → place_in n ks ≡ position_or_len (nat_eq n) ks
place_is n ks = is_position_or_len (place_in n) (nat_eq n) refl (λ x xs. ap (λ m. if nat_eq n x then 0 else m) (one_plus (place_in n xs))) ks

pub found_place : (n : ℕ) (ks : List ℕ) (o : Option ℕ) → o ≡ position (nat_eq n) ks → IfSome o (λ i. (i ≡ place_in n ks) × (i < length ks))
found_place n ks o e = by (nat_lt (position_or_len (nat_eq n) ks) (length ks)) refl o e
  where
    at : ℕ
    at = position_or_len (nat_eq n) ks

    by : (b : Bool) → nat_lt at (length ks) ≡ b → (o : Option ℕ) → o ≡ (if b then Some at else None) → IfSome o (λ i. (i ≡ place_in n ks) × (i < length ks))
    by b is None f = tt
    by true is (Some i) f =
        let same = same_Some i at f in
        (same ∙ sym (place_is n ks), subst (λ j. j < length ks) (sym same) (ltb-true at (length ks) is))
    by false is (Some i) f = cc

pub none_place : (n : ℕ) (ks : List ℕ) (o : Option ℕ) → o ≡ position (nat_eq n) ks → IfNone o (length ks ≤ place_in n ks)
none_place n ks o e = by (nat_lt (position_or_len (nat_eq n) ks) (length ks)) refl o e
  where
    at : ℕ
    at = position_or_len (nat_eq n) ks

    by : (b : Bool) → nat_lt at (length ks) ≡ b → (o : Option ℕ) → o ≡ (if b then Some at else None) → IfNone o (length ks ≤ place_in n ks)
    by b is (Some i) f = tt
    by true is None f = cc
    by false is None f = subst (λ j. length ks ≤ j) (sym (place_is n ks)) (ltb-false at (length ks) is)

absent : (n : ℕ) (ks : List ℕ) → length ks ≤ place_in n ks → list_any (nat_eq n) ks ≡ false
absent n [] h = refl
absent n (k ∷ ks) h = by (nat_eq n k) h (absent n ks)
  where
    by : (b : Bool) → suc (length ks) ≤ (if b then zero else suc (place_in n ks)) → (length ks ≤ place_in n ks → list_any (nat_eq n) ks ≡ false) → b || list_any (nat_eq n) ks ≡ false
    by true less rest = absurd (omega (arith, less))
    by false less rest = rest (omega (arith, less))

pub added_last : (n : ℕ) (ks : List ℕ) → length ks ≤ place_in n ks → insert_key nat_eq ks n ≡ ks ++ n ∷ []
added_last n ks h = ap (λ b. if b then ks else ks ++ n ∷ []) (absent n ks h)

pub place_last : (n : ℕ) (ks : List ℕ) → length ks ≤ place_in n ks → place_in n (ks ++ n ∷ []) ≡ length ks
place_last n [] h = ap (λ b. if b then zero else suc zero) (eq_itself n)
place_last n (k ∷ ks) h = by (nat_eq n k) h (place_last n ks)
  where
    by : (b : Bool) → suc (length ks) ≤ (if b then zero else suc (place_in n ks)) → (length ks ≤ place_in n ks → place_in n (ks ++ n ∷ []) ≡ length ks)
        → (if b then zero else suc (place_in n (ks ++ n ∷ []))) ≡ suc (length ks)
    by true less rest = absurd (omega (arith, less))
    by false less rest = ap suc (rest (omega (arith, less)))

abbrev nothing : List ℕ
nothing = []

-- with one more object, whose list is empty, each object has the list that it had
pub grown : (m n : ℕ) (ks : List ℕ) (ls : List (List ℕ)) → length ls ≡ length ks → slice_index_or (ls ++ [] ∷ []) (place_in m (ks ++ n ∷ [])) [] ≡ slice_index_or ls (place_in m ks) []
grown m n [] [] e = by (nat_eq m n)
  where
    by : (b : Bool) → slice_index_or (nothing ∷ []) (if b then zero else suc zero) nothing ≡ nothing
    by true = refl
    by false = refl
grown m n [] (l ∷ ls) e = absurd (omega (arith, e))
grown m n (k ∷ ks) [] e = absurd (omega (arith, e))
grown m n (k ∷ ks) (l ∷ ls) e = by (nat_eq m k) (grown m n ks ls (omega (arith, e)))
  where
    by : (b : Bool) → slice_index_or (ls ++ [] ∷ []) (place_in m (ks ++ n ∷ [])) [] ≡ slice_index_or ls (place_in m ks) []
        → slice_index_or (l ∷ ls ++ [] ∷ []) (if b then zero else suc (place_in m (ks ++ n ∷ []))) [] ≡ slice_index_or (l ∷ ls) (if b then zero else suc (place_in m ks)) []
    by true rest = refl
    by false rest = rest

-- two objects at one place are one
same_place : (a b : ℕ) (ks : List ℕ) → place_in a ks ≡ place_in b ks → place_in b ks < length ks → a ≡ b
same_place a b [] e h = absurd (omega (arith, h))
same_place a b (k ∷ ks) e h = by (nat_eq a k) refl (nat_eq b k) refl e h (same_place a b ks)
  where
    by : (c : Bool) → nat_eq a k ≡ c → (d : Bool) → nat_eq b k ≡ d → (if c then zero else suc (place_in a ks)) ≡ (if d then zero else suc (place_in b ks))
        → (if d then zero else suc (place_in b ks)) < suc (length ks) → (place_in a ks ≡ place_in b ks → place_in b ks < length ks → a ≡ b) → a ≡ b
    by true i true j f g rest = same_number a k i ∙ sym (same_number b k j)
    by true i false j f g rest = absurd (omega (arith, f))
    by false i true j f g rest = absurd (omega (arith, f))
    by false i false j f g rest = rest (omega (arith, f)) (omega (arith, g))

-- a change of the list of an object, by its number
pub but_object : (old new : Listing) (lane object list : ℕ) → IsListOf object old list → new.objects ≡ old.objects → SameBut lane list (is_at old.lanes) (is_at new.lanes)
    → SameBut lane object (is_listed old) (is_listed new)
but_object old new lane object list h e same = λ k n but.
    ap (λ ks. is_at new.lanes k (place_in n ks)) e
    ∙ same k (place_in n old.objects) (λ both. but (both.0, same_place n object old.objects (both.1 ∙ h.is) (subst (λ j. j < length old.objects) h.is h.among)))

pub at_object : (new : Listing) (lane object list : ℕ) (b : Bool) → list ≡ place_in object new.objects → is_at new.lanes lane list ≡ b → is_listed new lane object ≡ b
at_object new lane object list b h e = ap (is_at new.lanes lane) (sym h) ∙ e

-- the first lane of a list, by its first node
pub head_is : (links : Linked) (l : ℕ) (n : NodeId) (item : ℕ) → l < length links.lists → Some n ≡ first_node (slice_index_or links.lists l []) → AreApart (joined links.lists)
    → item_of n (joined links.lists) ≡ Some item → Some item ≡ slice_get (slice_index_or (items_of links) l []) 0
head_is links l n item within first a is =
    let h = headed links.lists l n within (sym first) in
    let own : item_of n (joined links.lists) ≡ Some h.pair.1 = ap (λ m. item_of m (joined links.lists)) (sym h.node) ∙ item_first links.lists l h.pair h.rest a h.at in
    sym is ∙ own ∙ sym (ap (λ xs. slice_get xs 0) (items_at l links ∙ ap (map (λ (x : Pair). x.1)) h.is))

-- one list more
pub items_more : (links after : Linked) → after.lists ≡ links.lists ++ replicate 1 [] → items_of after ≡ items_of links ++ nothing ∷ []
items_more links after e = ap (map (map (λ (x : Pair). x.1))) e ∙ behind links.lists
  where
    behind : (ls : List (List Pair)) → map (map (λ (x : Pair). x.1)) (ls ++ replicate 1 []) ≡ map (map (λ (x : Pair). x.1)) ls ++ nothing ∷ []
    behind [] = refl
    behind (xs ∷ ls) = ap (λ r. map (λ (x : Pair). x.1) xs ∷ r) (behind ls)

pub length_items : (links : Linked) → length (items_of links) ≡ length links.lists
length_items links = length-map links.lists (map (λ (x : Pair). x.1))

pub counted_more : (keys more : List ℕ) (links after : Linked) (count object : ℕ) → AreCounted keys links count → suc (length keys) < 2 ^ 32 → more ≡ keys ++ object ∷ []
    → after.lists ≡ links.lists ++ replicate 1 [] → AreCounted more after count
counted_more keys more links after count object h few k e =
    let longer : length more ≡ length keys + 1 = ap length k ∙ length-append keys (object ∷ []) in
    let lists : length after.lists ≡ length links.lists + 1 = ap length e ∙ length-append links.lists (replicate 1 []) in
    record {
      lists = omega (arith, longer, lists, h.lists);
      few_lists = omega (arith, longer, few);
      pairs = h.pairs ∙ sym (ap (λ ls. length (joined ls)) e ∙ ap length (joined_more links.lists 1));
    }

pub list_more : (keys more : List ℕ) (links after : Linked) (object list : ℕ) → length links.lists ≡ length keys → length keys ≤ place_in object keys → list ≡ length keys → more ≡ keys ++ object ∷ []
    → after.lists ≡ links.lists ++ replicate 1 [] → IsListOf object (record { objects = more; lanes = items_of after }) list
list_more keys more links after object list h none is k e =
    let longer : length more ≡ length keys + 1 = ap length k ∙ length-append keys (object ∷ []) in
    let lists : length after.lists ≡ length links.lists + 1 = ap length e ∙ length-append links.lists (replicate 1 []) in
    record {
      is = is ∙ sym (ap (place_in object) k ∙ place_last object keys none);
      among = omega (arith, longer, is);
      within = omega (arith, lists, is, h, length_items after);
    }

pub same_more : (keys more : List ℕ) (links after : Linked) (object : ℕ) → length links.lists ≡ length keys → more ≡ keys ++ object ∷ [] → after.lists ≡ links.lists ++ replicate 1 []
    → (k n : ℕ) → is_listed (record { objects = more; lanes = items_of after }) k n ≡ is_listed (record { objects = keys; lanes = items_of links }) k n
same_more keys more links after object h e f k n =
    ap (λ ls. is_at ls k (place_in n more)) (items_more links after f)
    ∙ ap (λ ks. is_at (items_of links ++ nothing ∷ []) k (place_in n ks)) e
    ∙ ap (is_among k) (grown n object keys (items_of links) (length_items links ∙ h))
