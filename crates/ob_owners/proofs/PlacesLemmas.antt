-- Lists of places under the keys of a slab.
use Rattle.std.proofs.Common.{◌≡◌, ◌≢◌, ℕ, zero, suc, ◌+◌, ◌-◌, ◌^◌, ◌<◌, ◌≤◌, Bool, true, false, List, [], ◌∷◌, ◌++◌, map, length, get_or, set, replicate, Option, Some, None, refl, sym, ap, subst, ◌∙◌, true≢false, arith, length-append}
use Rattle.std.specs.Prelude.{nat_eq, ◌||◌, slice_get, is_some, count_by, IfSome, IsSome, if◌then◌else◌}
use Rattle.std.specs.List.{cons_option}
use Rattle.std.proofs.lemmas.Bool.Decides.{Decides-eqb}
use Rattle.std.proofs.lemmas.List.{append_assoc, map-set, length-map, length-replicate}
use Rattle.std.proofs.lemmas.Option.{same_Some, slice_get-get_or}
use Rattle.slab.specs.Slab.{Slab, get, HasRoomFor, Updates}
use Rattle.ob_links.specs.declared.node.NodeId.{NodeId}
use Rattle.ob_links.specs.Lists.{Pair, Linked, joined, AreApart, has_node, item_of, first_node, is_node, with_pair}
use Rattle.ob_links.proofs.Nodes.{own_node, has_first, not_first, not_later, apart_parts_back, apart_right}
use Rattle.ob_links.proofs.Placing.{split_before}
use Rattle.ob_links.proofs.Walking.{in_joined}
use Rattle.ob_owners.specs.declared.spot.Spot.{Spot}
use Rattle.ob_rest_spec.specs.Incoming.{StorePlace}
use Rattle.ob_owners.specs.Order.{spots_with}
use Rattle.ob_owners.specs.Places.{spots_of, listed_of, places_of, has_key, AreKeyed, AreKept}
use Rattle.ob_owners.specs.Spots.{place_of}

-- Keys of pairs.

pub key_first : (key : ℕ) (x : Pair) (xs : List Pair) → has_key key (x ∷ xs) ≡ false → nat_eq x.1 key ≡ false
key_first key x xs h = by (nat_eq x.1 key) h
  where
    by : (b : Bool) → (b || has_key key xs) ≡ false → b ≡ false
    by true h = absurd (true≢false h)
    by false h = refl

pub key_later : (key : ℕ) (x : Pair) (xs : List Pair) → has_key key (x ∷ xs) ≡ false → has_key key xs ≡ false
key_later key x xs h = by (nat_eq x.1 key) h
  where
    by : (b : Bool) → (b || has_key key xs) ≡ false → has_key key xs ≡ false
    by true h = absurd (true≢false h)
    by false h = h

pub key_both : (key : ℕ) (x : Pair) (xs : List Pair) → nat_eq x.1 key ≡ false → has_key key xs ≡ false → has_key key (x ∷ xs) ≡ false
key_both key x xs h k = ap (λ b. b || has_key key xs) h ∙ k

other_key : (a b : ℕ) → nat_eq a b ≡ false → a ≢ b
other_key a b is = λ e. true≢false (sym ((Decides-eqb a b).1 e) ∙ is)

turned_key : (a b : ℕ) → nat_eq a b ≡ false → nat_eq b a ≡ false
turned_key a b is = by (nat_eq b a) refl
  where
    by : (c : Bool) → nat_eq b a ≡ c → nat_eq b a ≡ false
    by true eq = absurd (other_key a b is (sym ((Decides-eqb b a).0 eq)))
    by false eq = eq

key_left : (key : ℕ) (xs ys : List Pair) → has_key key (xs ++ ys) ≡ false → has_key key xs ≡ false
key_left key [] ys h = refl
key_left key (x ∷ xs) ys h = key_both key x xs (key_first key x (xs ++ ys) h) (key_left key xs ys (key_later key x (xs ++ ys) h))

key_right : (key : ℕ) (xs ys : List Pair) → has_key key (xs ++ ys) ≡ false → has_key key ys ≡ false
key_right key [] ys h = h
key_right key (x ∷ xs) ys h = key_right key xs ys (key_later key x (xs ++ ys) h)

-- a key that has no place is that of no pair
pub unused : (spots : Slab Spot) (key : ℕ) (xs : List Pair) → get spots key ≡ None → AreKeyed spots xs → has_key key xs ≡ false
unused spots key [] none k = refl
unused spots key (x ∷ xs) none k = by (nat_eq x.1 key) refl (unused spots key xs none k.2)
  where
    by : (b : Bool) → nat_eq x.1 key ≡ b → has_key key xs ≡ false → (nat_eq x.1 key || has_key key xs) ≡ false
    by true is rest = absurd (true≢false (sym k.0 ∙ ap (λ j. is_some (get spots j)) ((Decides-eqb x.1 key).0 is) ∙ ap is_some none))
    by false is rest = ap (λ b. b || has_key key xs) is ∙ rest

-- A slab in which one key has another place.

pub keyed_kept : (old new : Slab Spot) (key : ℕ) (slot : Option Spot) (xs : List Pair) → Updates old new key slot → has_key key xs ≡ false → AreKeyed old xs → AreKeyed new xs
keyed_kept old new key slot [] u out k = tt
keyed_kept old new key slot (x ∷ xs) u out k = (
  ap is_some (u.others x.1 (other_key x.1 key (key_first key x xs out))) ∙ k.0,
  k.1,
  keyed_kept old new key slot xs u (key_later key x xs out) k.2,
)

pub spots_kept : (old new : Slab Spot) (key : ℕ) (slot : Option Spot) (xs : List Pair) → Updates old new key slot → has_key key xs ≡ false → spots_of new xs ≡ spots_of old xs
spots_kept old new key slot [] u out = refl
spots_kept old new key slot (x ∷ xs) u out =
    ap (λ o. cons_option o (spots_of new xs)) (u.others x.1 (other_key x.1 key (key_first key x xs out)))
    ∙ ap (cons_option (get old x.1)) (spots_kept old new key slot xs u (key_later key x xs out))

pub lists_kept : (old new : Slab Spot) (key : ℕ) (slot : Option Spot) (lists : List (List Pair)) → Updates old new key slot → has_key key (joined lists) ≡ false
    → map (spots_of new) lists ≡ map (spots_of old) lists
lists_kept old new key slot [] u out = refl
lists_kept old new key slot (xs ∷ ls) u out =
    ap (λ s. s ∷ map (spots_of new) ls) (spots_kept old new key slot xs u (key_left key xs (joined ls) out))
    ∙ ap (λ ss. spots_of old xs ∷ ss) (lists_kept old new key slot ls u (key_right key xs (joined ls) out))

-- A pair more in a list.

one_between : (key : ℕ) (us : List Pair) (x : Pair) (ws : List Pair) → has_key key (us ++ ws) ≡ false → nat_eq x.1 key ≡ false → has_key key (us ++ x ∷ ws) ≡ false
one_between key [] x ws out is = key_both key x ws is out
one_between key (u ∷ us) x ws out is =
    key_both key u (us ++ x ∷ ws) (key_first key u (us ++ ws) out) (one_between key us x ws (key_later key u (us ++ ws) out) is)

keyed_between : (spots : Slab Spot) (us : List Pair) (x : Pair) (ws : List Pair) → AreKeyed spots (us ++ ws) → has_key x.1 (us ++ ws) ≡ false → IsSome (get spots x.1) → AreKeyed spots (us ++ x ∷ ws)
keyed_between spots [] x ws k out there = (there, out, k)
keyed_between spots (u ∷ us) x ws k out there = (
  k.0,
  one_between u.1 us x ws k.1 (turned_key u.1 x.1 (key_first x.1 u (us ++ ws) out)),
  keyed_between spots us x ws k.2 (key_later x.1 u (us ++ ws) out) there,
)

-- the pairs before and behind a place in a list
record Around (lists : List (List Pair)) (l : ℕ) (place : Option NodeId) (xs : List Pair) (x : Pair) : Type 0 where
  before : List Pair
  behind : List Pair
  all : joined lists ≡ before ++ behind
  more : joined (set lists l (with_pair place x xs)) ≡ before ++ x ∷ behind

around : (lists : List (List Pair)) (l : ℕ) (place : Option NodeId) (xs : List Pair) (x : Pair) → slice_get lists l ≡ Some xs → IfSome place (λ n. has_node n xs ≡ true)
    → Around lists l place xs x
around [] l place xs x at there = cc
around (ys ∷ ls) zero place xs x at there =
    let s = split_before place xs there in
    record {
      before = s.before;
      behind = s.behind ++ joined ls;
      all = ap (λ zs. zs ++ joined ls) (same_Some ys xs at ∙ s.is) ∙ append_assoc s.before s.behind (joined ls);
      more = ap (λ zs. zs ++ joined ls) (s.filled x) ∙ append_assoc s.before (x ∷ s.behind) (joined ls);
    }
around (ys ∷ ls) (suc l) place xs x at there =
    let a = around ls l place xs x at there in
    record {
      before = ys ++ a.before;
      behind = a.behind;
      all = ap (λ zs. ys ++ zs) a.all ∙ sym (append_assoc ys a.before a.behind);
      more = ap (λ zs. ys ++ zs) a.more ∙ sym (append_assoc ys a.before (x ∷ a.behind));
    }

pub keyed_more : (spots : Slab Spot) (lists : List (List Pair)) (l : ℕ) (place : Option NodeId) (x : Pair) → l < length lists → IfSome place (λ n. has_node n (get_or lists l []) ≡ true)
    → AreKeyed spots (joined lists) → has_key x.1 (joined lists) ≡ false → IsSome (get spots x.1) → AreKeyed spots (joined (set lists l (with_pair place x (get_or lists l []))))
keyed_more spots lists l place x within has k out there =
    let a = around lists l place (get_or lists l []) x (slice_get-get_or lists l [] within) has in
    subst (AreKeyed spots) (sym a.more)
    (keyed_between spots a.before x a.behind (subst (AreKeyed spots) a.all k) (sym (ap (has_key x.1) a.all) ∙ out) there)

pub get_listed : (spots : Slab Spot) (lists : List (List Pair)) (l : ℕ) → get_or (map (spots_of spots) lists) l [] ≡ spots_of spots (get_or lists l [])
get_listed spots [] l = refl
get_listed spots (xs ∷ ls) zero = refl
get_listed spots (xs ∷ ls) (suc l) = get_listed spots ls l

spots_more : (old new : Slab Spot) (place : Option NodeId) (x : Pair) (spot : Spot) (xs : List Pair) → Updates old new x.1 (Some spot) → has_key x.1 xs ≡ false
    → spots_of new (with_pair place x xs) ≡ spots_with old place spot xs
spots_more old new place x spot [] u out = ap (λ o. cons_option o []) u.changed
spots_more old new place x spot (y ∷ ys) u out = by (is_node place y.0) (spots_more old new place x spot ys u (key_later x.1 y ys out))
  where
    other : get new y.1 ≡ get old y.1
    other = u.others y.1 (other_key y.1 x.1 (key_first x.1 y ys out))

    by : (b : Bool) → spots_of new (with_pair place x ys) ≡ spots_with old place spot ys
        → spots_of new (if b then x ∷ y ∷ ys else y ∷ with_pair place x ys)
        ≡ (if b then spot ∷ spots_of old (y ∷ ys) else cons_option (get old y.1) (spots_with old place spot ys))
    by true rest =
        ap (λ o. cons_option o (spots_of new (y ∷ ys))) u.changed
        ∙ ap (λ ss. spot ∷ ss) (spots_kept old new x.1 (Some spot) (y ∷ ys) u out)
    by false rest =
        ap (λ o. cons_option o (spots_of new (with_pair place x ys))) other ∙ ap (cons_option (get old y.1)) rest

-- a list of all has none of the keys that all have none of
key_list : (key : ℕ) (lists : List (List Pair)) (l : ℕ) → has_key key (joined lists) ≡ false → has_key key (get_or lists l []) ≡ false
key_list key [] l out = refl
key_list key (xs ∷ ls) zero out = key_left key xs (joined ls) out
key_list key (xs ∷ ls) (suc l) out = key_list key ls l (key_right key xs (joined ls) out)

pub listed_more : (old new : Slab Spot) (lists : List (List Pair)) (l : ℕ) (place : Option NodeId) (x : Pair) (spot : Spot) → Updates old new x.1 (Some spot)
    → has_key x.1 (joined lists) ≡ false
    → map (spots_of new) (set lists l (with_pair place x (get_or lists l []))) ≡ set (map (spots_of old) lists) l (spots_with old place spot (get_or lists l []))
listed_more old new lists l place x spot u out =
    map-set (spots_of new) lists l (with_pair place x (get_or lists l []))
    ∙ ap (λ ls. set ls l (spots_of new (with_pair place x (get_or lists l [])))) (lists_kept old new x.1 (Some spot) lists u out)
    ∙ ap (set (map (spots_of old) lists) l) (spots_more old new place x spot (get_or lists l []) u (key_list x.1 lists l out))

-- The first place of a list.

item_own : (x : Pair) (xs : List Pair) → item_of x.0 (x ∷ xs) ≡ Some x.1
item_own x xs = ap (λ b. if b then Some x.1 else item_of x.0 xs) (own_node x.0)

item_past : (n : NodeId) (xs ys : List Pair) → has_node n xs ≡ false → item_of n (xs ++ ys) ≡ item_of n ys
item_past n [] ys m = refl
item_past n (x ∷ xs) ys m = ap (λ b. if b then Some x.1 else item_of n (xs ++ ys)) (not_first n x xs m) ∙ item_past n xs ys (not_later n x xs m)

pub item_first : (lists : List (List Pair)) (l : ℕ) (x : Pair) (xs : List Pair) → AreApart (joined lists) → slice_get lists l ≡ Some (x ∷ xs) → item_of x.0 (joined lists) ≡ Some x.1
item_first [] l x xs a at = cc
item_first (ys ∷ ls) zero x xs a at = ap (λ zs. item_of x.0 (zs ++ joined ls)) (same_Some ys (x ∷ xs) at) ∙ item_own x (xs ++ joined ls)
item_first (ys ∷ ls) (suc l) x xs a at =
    let there : has_node x.0 (joined ls) ≡ true = in_joined x.0 ls l (x ∷ xs) at (has_first x xs) in
    item_past x.0 ys (joined ls) (apart_parts_back x.0 ys (joined ls) a there) ∙ item_first ls l x xs (apart_right ys (joined ls) a) at

pub head_listed : (spots : Slab Spot) (x : Pair) (xs : List Pair) → IsSome (get spots x.1) → slice_get (spots_of spots (x ∷ xs)) 0 ≡ get spots x.1
head_listed spots x xs h = by (get spots x.1) h
  where
    by : (o : Option Spot) → IsSome o → slice_get (cons_option o (spots_of spots xs)) 0 ≡ o
    by None h = absurd (true≢false (sym h))
    by (Some s) h = refl

keyed_right : (spots : Slab Spot) (xs ys : List Pair) → AreKeyed spots (xs ++ ys) → AreKeyed spots ys
keyed_right spots [] ys k = k
keyed_right spots (x ∷ xs) ys k = keyed_right spots xs ys k.2

pub keyed_first : (spots : Slab Spot) (lists : List (List Pair)) (l : ℕ) (x : Pair) (xs : List Pair) → AreKeyed spots (joined lists) → slice_get lists l ≡ Some (x ∷ xs) → IsSome (get spots x.1)
keyed_first spots [] l x xs k at = cc
keyed_first spots (ys ∷ ls) zero x xs k at = (subst (λ zs. AreKeyed spots (zs ++ joined ls)) (same_Some ys (x ∷ xs) at) k).0
keyed_first spots (ys ∷ ls) (suc l) x xs k at = keyed_first spots ls l x xs (keyed_right spots ys (joined ls) k) at

-- a list by its first node
pub record Headed (lists : List (List Pair)) (l : ℕ) (n : NodeId) : Type 0 where
  pub pair : Pair
  pub rest : List Pair
  pub is : get_or lists l [] ≡ pair ∷ rest
  pub at : slice_get lists l ≡ Some (pair ∷ rest)
  pub node : pair.0 ≡ n
  pub has : has_node n (joined lists) ≡ true

pub headed : (lists : List (List Pair)) (l : ℕ) (n : NodeId) → l < length lists → first_node (get_or lists l []) ≡ Some n → Headed lists l n
headed lists l n within first = by (get_or lists l []) refl
  where
    by : (xs : List Pair) → get_or lists l [] ≡ xs → Headed lists l n
    by [] is = let none : first_node [] ≡ Some n = sym (ap first_node is) ∙ first in cc
    by (x ∷ rest) is =
        let this : x.0 ≡ n = same_Some x.0 n (sym (ap first_node is) ∙ first) in
        let at : slice_get lists l ≡ Some (x ∷ rest) = slice_get-get_or lists l [] within ∙ ap Some is in
        record {
          pair = x;
          rest = rest;
          is = is;
          at = at;
          node = this;
          has = in_joined n lists l (x ∷ rest) at (subst (λ m. has_node m (x ∷ rest) ≡ true) this (has_first x rest));
        }

pub nothing_first : (spots : Slab Spot) (lists : List (List Pair)) (l : ℕ) → first_node (get_or lists l []) ≡ None → slice_get (get_or (map (spots_of spots) lists) l []) 0 ≡ None
nothing_first spots lists l first = ap (λ ss. slice_get ss 0) (get_listed spots lists l) ∙ by (get_or lists l []) first
  where
    by : (xs : List Pair) → first_node xs ≡ None → slice_get (spots_of spots xs) 0 ≡ None
    by [] e = refl
    by (x ∷ xs) e = cc

pub first_listed : (spots : Slab Spot) (lists : List (List Pair)) (l : ℕ) (n : NodeId) (item : ℕ) (found : Option Spot) → (h : Headed lists l n) → AreKeyed spots (joined lists) → AreApart (joined lists)
    → item_of n (joined lists) ≡ Some item → found ≡ get spots item → found ≡ slice_get (get_or (map (spots_of spots) lists) l []) 0
first_listed spots lists l n item found h k a is at =
    let own : item_of n (joined lists) ≡ Some h.pair.1 = ap (λ m. item_of m (joined lists)) (sym h.node) ∙ item_first lists l h.pair h.rest a h.at in
    let same : item ≡ h.pair.1 = same_Some item h.pair.1 (sym is ∙ own) in
    at ∙ ap (get spots) same ∙ sym (head_listed spots h.pair h.rest (keyed_first spots lists l h.pair h.rest k h.at))
    ∙ sym (ap (λ ss. slice_get ss 0) (get_listed spots lists l ∙ ap (spots_of spots) h.is))

-- Lists at the start.

no_pairs : (k : ℕ) → joined (replicate k []) ≡ []
no_pairs zero = refl
no_pairs (suc k) = no_pairs k

pub empty_listed : (spots : Slab Spot) (k : ℕ) → map (spots_of spots) (replicate k []) ≡ replicate k []
empty_listed spots zero = refl
empty_listed spots (suc k) = ap (λ ls. [] ∷ ls) (empty_listed spots k)

pub start_kept : (links : Linked) (spots : Slab Spot) (k : ℕ) → links.lists ≡ replicate k [] → spots.slots ≡ [] → AreKept links spots k 0 0
start_kept links spots k is none = record {
  keyed = subst (λ ls. AreKeyed spots (joined ls)) (sym is) (subst (AreKeyed spots) (sym (no_pairs k)) tt);
  lists = sym (ap length is ∙ length-replicate k []);
  places = sym (ap (λ ls. length (joined ls)) is ∙ ap length (no_pairs k));
  nodes_room = omega arith;
  spots_room = subst (λ (slots : List (Option Spot)). count_by is_some slots + 0 ≤ spots.capacity) (sym none) (omega arith);
  few = omega arith;
}

-- More room.

pub keyed_same : (old new : Slab Spot) (xs : List Pair) → new.slots ≡ old.slots → AreKeyed old xs → AreKeyed new xs
keyed_same old new [] e k = tt
keyed_same old new (x ∷ xs) e k = (ap (λ (ss : List (Option Spot)). is_some (get_or ss x.1 None)) e ∙ k.0, k.1, keyed_same old new xs e k.2)

pub spots_same : (old new : Slab Spot) (xs : List Pair) → new.slots ≡ old.slots → spots_of new xs ≡ spots_of old xs
spots_same old new [] e = refl
spots_same old new (x ∷ xs) e = ap (λ (ss : List (Option Spot)). cons_option (get_or ss x.1 None) (spots_of new xs)) e ∙ ap (cons_option (get old x.1)) (spots_same old new xs e)

pub listed_same : (old new : Slab Spot) (lists : List (List Pair)) → new.slots ≡ old.slots → map (spots_of new) lists ≡ map (spots_of old) lists
listed_same old new [] e = refl
listed_same old new (xs ∷ ls) e = ap (λ s. s ∷ map (spots_of new) ls) (spots_same old new xs e) ∙ ap (λ ss. spots_of old xs ∷ ss) (listed_same old new ls e)

pub kept_with : (links after : Linked) (old new : Slab Spot) (k n room now : ℕ) → AreKept links old k n room → after.lists ≡ links.lists → new.slots ≡ old.slots → now ≤ after.spare → HasRoomFor new now → n + now < 2 ^ 32
    → AreKept after new k n now
kept_with links after old new k n room now h is same nodes spots few = record {
  keyed = subst (λ ls. AreKeyed new (joined ls)) (sym is) (keyed_same old new (joined links.lists) same h.keyed);
  lists = h.lists ∙ sym (ap length is);
  places = h.places ∙ sym (ap (λ ls. length (joined ls)) is);
  nodes_room = nodes;
  spots_room = spots;
  few = few;
}

pub room_kept : (old new : Slab Spot) (room : ℕ) → new.slots ≡ old.slots → old.capacity ≤ new.capacity → HasRoomFor old room → HasRoomFor new room
room_kept old new room same more h =
    subst (λ (slots : List (Option Spot)). count_by is_some slots + room ≤ new.capacity) (sym same) (omega (arith, h, more))

-- One place more.
pub kept_more : (links after : Linked) (old new : Slab Spot) (k n room : ℕ) → AreKept links old k n room → 0 < room → AreKeyed new (joined after.lists)
    → length after.lists ≡ length links.lists → length (joined after.lists) ≡ suc (length (joined links.lists)) → suc after.spare ≡ links.spare
    → ((more : ℕ) → HasRoomFor old (suc more) → HasRoomFor new more) → AreKept after new k (n + 1) (room - 1)
kept_more links after old new k n room h some keyed lists places spare spots =
    let one : room ≡ suc (room - 1) = omega (arith, some) in
    record {
      keyed = keyed;
      lists = h.lists ∙ sym lists;
      places = omega (arith, h.places, places);
      nodes_room = omega (arith, h.nodes_room, spare, some);
      spots_room = spots (room - 1) (subst (HasRoomFor old) one h.spots_room);
      few = omega (arith, h.few, some);
    }

-- One place less.
pub kept_less : (links after : Linked) (old new : Slab Spot) (k n room : ℕ) → AreKept links old k n room → AreKeyed new (joined after.lists)
    → length after.lists ≡ length links.lists → suc (length (joined after.lists)) ≡ length (joined links.lists) → after.spare ≡ suc links.spare
    → ((more : ℕ) → HasRoomFor old more → HasRoomFor new more) → AreKept after new k (n - 1) room
kept_less links after old new k n room h keyed lists places spare spots = record {
  keyed = keyed;
  lists = h.lists ∙ sym lists;
  places = omega (arith, h.places, places);
  nodes_room = omega (arith, h.nodes_room, spare);
  spots_room = spots room h.spots_room;
  few = omega (arith, h.few);
}

-- More lists.

pub joined_more : (lists : List (List Pair)) (k : ℕ) → joined (lists ++ replicate k []) ≡ joined lists
joined_more [] zero = refl
joined_more [] (suc k) = joined_more [] k
joined_more (xs ∷ ls) k = ap (λ ys. xs ++ ys) (joined_more ls k)

pub none_placed : (spots : Slab Spot) (k : ℕ) → places_of (map (spots_of spots) (replicate k [])) ≡ replicate k []
none_placed spots zero = refl
none_placed spots (suc k) = ap (λ ls. [] ∷ ls) (none_placed spots k)

pub placed_more : (spots : Slab Spot) (lists : List (List Pair)) (k : ℕ) → places_of (map (spots_of spots) (lists ++ replicate k [])) ≡ places_of (map (spots_of spots) lists) ++ replicate k []
placed_more spots [] k = none_placed spots k
placed_more spots (xs ∷ ls) k = ap (λ ps. map place_of (spots_of spots xs) ∷ ps) (placed_more spots ls k)

pub lists_length : (spots : Slab Spot) (links : Linked) (lists : List (List StorePlace)) → places_of (listed_of spots links) ≡ lists → length lists ≡ length links.lists
lists_length spots links lists e =
    sym (ap length e) ∙ length-map (listed_of spots links) (map place_of) ∙ length-map links.lists (spots_of spots)

pub kept_longer : (links after : Linked) (spots : Slab Spot) (k n room more : ℕ) → AreKept links spots k n room → after.lists ≡ links.lists ++ replicate more [] → after.spare ≡ links.spare
    → AreKept after spots (k + more) n room
kept_longer links after spots k n room more h is spare = record {
  keyed = subst (AreKeyed spots) (sym pairs) h.keyed;
  lists = ap (λ j. j + more) h.lists ∙ sym (ap length is ∙ length-append links.lists (replicate more []) ∙ ap (λ j. length links.lists + j) (length-replicate more []));
  places = h.places ∙ sym (ap length pairs);
  nodes_room = omega (arith, h.nodes_room, spare);
  spots_room = h.spots_room;
  few = h.few;
}
  where
    pairs : joined after.lists ≡ joined links.lists
    pairs = ap joined is ∙ joined_more links.lists more
