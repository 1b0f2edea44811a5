-- How many pairs there are; that lists of so few pairs are those that their nodes say.
use Rattle.std.proofs.Common.{◌≡◌, ◌≢◌, ℕ, zero, suc, ◌+◌, ◌<◌, ◌≤◌, Bool, true, false, List, [], ◌∷◌, ◌++◌, map, length, get_or, set, Option, Some, None, refl, sym, ap, subst, ◌∙◌, arith}
use Rattle.std.specs.Prelude.{nat_eq, not, ◌||◌, slice_get, if◌then◌else◌, option_map}
use Rattle.std.specs.Option.{option_map_or}
use Rattle.std.proofs.lemmas.List.{length-append, length-map, length_push}
use Rattle.std.proofs.lemmas.Option.{slice_get-map, slice_get-get_or, same_Some}
use Rattle.ob_links.specs.declared.node.NodeId.{NodeId}
use Rattle.ob_links.specs.declared.node.Node.{Node}
use Rattle.ob_links.specs.declared.node.Ends.{Ends}
use Rattle.ob_links.specs.Lists.{Pair, joined, has_node, is_node, with_pair, without_node, AreApart}
use Rattle.ob_links.specs.Chains.{first_or, AreLinked, ends_of, AreChains, chain_from, chains_of, linked_of, with_pair_in}
use Rattle.ob_links.proofs.Nodes.{without_absent, none_left, none_right, apart_both}
use Rattle.ob_links.proofs.Linking.{list_told, in_one_list, linked_along, linked_apart}
use Rattle.ob_links.proofs.Walking.{none_joined, same_count, Told, told, within, without_all}

-- The list from its first node on.

chain_is : (nodes : List Node) (l : ℕ) (p : Option NodeId) (xs : List Pair) (most : ℕ) → AreLinked nodes l p xs None → length xs ≤ most → chain_from nodes most (first_or xs None) ≡ xs
chain_is nodes l p [] zero h m = refl
chain_is nodes l p [] (suc most) h m = refl
chain_is nodes l p (x ∷ xs) zero h m = absurd (omega arith)
chain_is nodes l p (x ∷ xs) (suc most) h m =
    ap (λ o. option_map_or (λ (v : Node). (x.0, v.item) ∷ chain_from nodes most v.next) o []) h.0
    ∙ ap (λ r. x ∷ r) (chain_is nodes l (Some x.0) xs most h.1 (omega arith))

pub member_few : (chains : List (List Pair)) (l : ℕ) (xs : List Pair) → slice_get chains l ≡ Some xs → length xs ≤ length (joined chains)
member_few [] l xs at = cc
member_few (ys ∷ cs) zero xs at = let e = ap length (same_Some ys xs at) in omega (arith, length-append ys (joined cs), e)
member_few (ys ∷ cs) (suc l) xs at = omega (arith, length-append ys (joined cs), member_few cs l xs at)

map_same : {A : Type 0} (f : A → A) (xs : List A) → ((k : ℕ) (x : A) → slice_get xs k ≡ Some x → f x ≡ x) → map f xs ≡ xs
map_same f [] h = refl
map_same f (x ∷ xs) h = ap (λ y. y ∷ map f xs) (h 0 x refl) ∙ ap (λ ys. x ∷ ys) (map_same f xs (λ k y at. h (suc k) y at))

map_map : {A B C : Type 0} (f : B → C) (g : A → B) (xs : List A) → map f (map g xs) ≡ map (λ x. f (g x)) xs
map_map f g [] = refl
map_map f g (x ∷ xs) = ap (λ ys. f (g x) ∷ ys) (map_map f g xs)

-- the lists are those that the nodes say
pub settled : (nodes : List Node) (ends : List Ends) (chains : List (List Pair)) → AreChains nodes ends chains → length (joined chains) ≤ length nodes → chains_of nodes ends ≡ chains
settled nodes ends chains h few =
    ap (map (λ (e : Ends). chain_from nodes (length nodes) e.first)) h.borders
    ∙ map_map (λ (e : Ends). chain_from nodes (length nodes) e.first) ends_of chains
    ∙ map_same (λ xs. chain_from nodes (length nodes) (first_or xs None)) chains
    (λ l xs at. let most = member_few chains l xs at in chain_is nodes l None xs (length nodes) (h.linked l xs at) (omega (arith, most, few)))

pub as_settled : (nodes : List Node) (ends : List Ends) (chains : List (List Pair)) → AreChains nodes ends chains → length (joined chains) ≤ length nodes
    → AreChains nodes ends (chains_of nodes ends)
as_settled nodes ends chains h few = subst (AreChains nodes ends) (sym (settled nodes ends chains h few)) h

-- How many pairs there are.

pub count_set : (chains : List (List Pair)) (l : ℕ) (xs ys : List Pair) → slice_get chains l ≡ Some xs → length (joined (set chains l ys)) + length xs ≡ length (joined chains) + length ys
count_set [] l xs ys at = cc
count_set (zs ∷ cs) zero xs ys at =
    let e = ap length (same_Some zs xs at) in
    omega (arith, length-append ys (joined cs), length-append zs (joined cs), e)
count_set (zs ∷ cs) (suc l) xs ys at =
    omega (arith, length-append zs (joined (set cs l ys)), length-append zs (joined cs), count_set cs l xs ys at)

pub longer : (place : Option NodeId) (x : Pair) (xs : List Pair) → length (with_pair place x xs) ≡ suc (length xs)
longer place x [] = refl
longer place x (y ∷ ys) = by (is_node place y.0) (longer place x ys)
  where
    by : (b : Bool) → length (with_pair place x ys) ≡ suc (length ys) → length (if b then x ∷ y ∷ ys else y ∷ with_pair place x ys) ≡ suc (suc (length ys))
    by true e = refl
    by false e = ap suc e

pub one_more : (l : ℕ) (place : Option NodeId) (x : Pair) (chains : List (List Pair)) → l < length chains → length (joined (with_pair_in l place x chains)) ≡ suc (length (joined chains))
one_more l place x chains within =
    let xs = get_or chains l [] in
    let n = count_set chains l xs (with_pair place x xs) (slice_get-get_or chains l [] within) in
    omega (arith, n, longer place x xs)

pub one_less : (nodes : List Node) (ends : List Ends) (chains : List (List Pair)) (n : NodeId) → AreChains nodes ends chains → (t : Told nodes chains n)
    → suc (length (joined (map (without_node n) chains))) ≡ length (joined chains)
one_less nodes ends chains n h t =
    let all = count_set chains t.list (t.before ++ t.pair ∷ t.behind) (t.before ++ t.behind) t.at in
    let e = ap (λ cs. length (joined cs)) (without_all nodes ends chains n h t) in
    omega (arith, all, e, length-append t.before (t.pair ∷ t.behind), length-append t.before t.behind)

-- A node that is taken out is in no list.

none_without : (n : NodeId) (xs : List Pair) → has_node n (without_node n xs) ≡ false
none_without n [] = refl
none_without n (x ∷ xs) = by (nat_eq x.0.0 n.0) refl (none_without n xs)
  where
    by : (b : Bool) → nat_eq x.0.0 n.0 ≡ b → has_node n (without_node n xs) ≡ false → has_node n (if not b then x ∷ without_node n xs else without_node n xs) ≡ false
    by true is rest = rest
    by false is rest = ap (λ b. b || has_node n (without_node n xs)) is ∙ rest

pub alone_after : (n : NodeId) (chains : List (List Pair)) → has_node n (joined (map (without_node n) chains)) ≡ false
alone_after n chains = none_joined n (map (without_node n) chains) (λ l ys at. by l ys (slice_get chains l) refl (sym (slice_get-map (without_node n) chains l) ∙ at))
  where
    by : (l : ℕ) (ys : List Pair) (o : Option (List Pair)) → slice_get chains l ≡ o → option_map (without_node n) (slice_get chains l) ≡ Some ys → has_node n ys ≡ false
    by l ys None is at = let e : option_map (without_node n) None ≡ Some ys = sym (ap (option_map (without_node n)) is) ∙ at in cc
    by l ys (Some xs) is at =
        let e : without_node n xs ≡ ys = same_Some (without_node n xs) ys (sym (ap (option_map (without_node n)) is) ∙ at) in
        subst (λ zs. has_node n zs ≡ false) e (none_without n xs)

pub without_none : (n : NodeId) (chains : List (List Pair)) → has_node n (joined chains) ≡ false → map (without_node n) chains ≡ chains
without_none n [] h = refl
without_none n (xs ∷ cs) h =
    ap (λ ys. ys ∷ map (without_node n) cs) (without_absent n xs (none_left n xs (joined cs) h))
    ∙ ap (λ ds. xs ∷ ds) (without_none n cs (none_right n xs (joined cs) h))

-- Lists from a number on, which stand in a vector.

abbrev pub AllLinked : List Node → ℕ → List (List Pair) → Type 0
AllLinked nodes from chains = (l : ℕ) (xs : List Pair) → slice_get chains l ≡ Some xs → AreLinked nodes (l + from) None xs None

pub all_linked : (nodes : List Node) (ends : List Ends) (chains : List (List Pair)) → AreChains nodes ends chains → AllLinked nodes 0 chains
all_linked nodes ends chains h l xs at = let e : l ≡ l + 0 = omega arith in subst (λ k. AreLinked nodes k None xs None) e (h.linked l xs at)

pub all_later : (nodes : List Node) (from : ℕ) (xs : List Pair) (cs : List (List Pair)) → AllLinked nodes from (xs ∷ cs) → AllLinked nodes (suc from) cs
all_later nodes from xs cs h l ys at =
    let e : suc l + from ≡ l + suc from = omega arith in subst (λ k. AreLinked nodes k None ys None) e (h (suc l) ys at)

pub all_apart : (nodes : List Node) (from : ℕ) (chains : List (List Pair)) → AllLinked nodes from chains → AreApart (joined chains)
all_apart nodes from [] h = tt
all_apart nodes from (xs ∷ cs) h =
    apart_both xs (joined cs) (linked_apart nodes (0 + from) None xs None tt (h 0 xs refl)) (all_apart nodes (suc from) cs (all_later nodes from xs cs h))
    (λ n m. none_joined n cs (λ l ys at.
    let ne : suc l + from ≢ 0 + from = λ e. absurd (omega (arith, e)) in
    in_one_list nodes (0 + from) (suc l + from) None None xs ys None None ne (h 0 xs refl) (h (suc l) ys at) n m))

-- A vector with more nodes.

get_left : {A : Type 0} (xs ys : List A) (k : ℕ) (x : A) → slice_get xs k ≡ Some x → slice_get (xs ++ ys) k ≡ Some x
get_left [] ys k x at = cc
get_left (z ∷ zs) ys zero x at = at
get_left (z ∷ zs) ys (suc k) x at = get_left zs ys k x at

pub chains_longer : (nodes : List Node) (ends : List Ends) (chains : List (List Pair)) (more : List Node) → AreChains nodes ends chains → AreChains (nodes ++ more) ends chains
chains_longer nodes ends chains more h = record {
  borders = h.borders;
  linked = λ l xs at. linked_along nodes (nodes ++ more) l None xs None (λ n m.
      let v = list_told nodes l None xs None n m (h.linked l xs at) in get_left nodes more n.0 v.0 v.1 ∙ sym v.1) (h.linked l xs at);
}

-- A node that goes out of its list into another one.

pub record Moved (nodes : List Node) (ends : List Ends) (chains : List (List Pair)) : Type 0 where
  pub is : chains_of nodes ends ≡ chains
  pub stands : AreChains nodes ends (chains_of nodes ends)

pub moved : (nodes : List Node) (ends : List Ends) (chains : List (List Pair)) → AreChains nodes ends chains → length (joined chains) ≤ length nodes → Moved nodes ends chains
moved nodes ends chains h few = record { is = settled nodes ends chains h few; stands = as_settled nodes ends chains h few }

-- the lists between the two steps
pub taken_out : (nodes others : List Node) (ends after : List Ends) (n : NodeId) → AreChains nodes ends (chains_of nodes ends)
    → length (joined (chains_of nodes ends)) ≡ length nodes → has_node n (joined (chains_of nodes ends)) ≡ true → length others ≡ length nodes
    → AreChains others after (map (without_node n) (chains_of nodes ends)) → Moved others after (map (without_node n) (chains_of nodes ends))
taken_out nodes others ends after n h all has same out =
    let less = one_less nodes ends (chains_of nodes ends) n h (told nodes ends (chains_of nodes ends) n h has) in
    moved others after (map (without_node n) (chains_of nodes ends)) out (omega (arith, less, all, same))

-- the lists after both
pub put_in : (nodes others last : List Node) (ends after behind : List Ends) (n : NodeId) (l : ℕ) (place : Option NodeId) (x : Pair) → AreChains nodes ends (chains_of nodes ends)
    → length (joined (chains_of nodes ends)) ≡ length nodes → has_node n (joined (chains_of nodes ends)) ≡ true → l < length ends → length last ≡ length nodes
    → (m : Moved others after (map (without_node n) (chains_of nodes ends))) → AreChains last behind (with_pair_in l place x (chains_of others after))
    → Moved last behind (with_pair_in l place x (map (without_node n) (chains_of nodes ends)))
put_in nodes others last ends after behind n l place x h all has within same m put =
    let chains = chains_of nodes ends in
    let less = one_less nodes ends chains n h (told nodes ends chains n h has) in
    let so : AreChains last behind (with_pair_in l place x (map (without_node n) chains)) = subst (λ cs. AreChains last behind (with_pair_in l place x cs)) m.is put in
    let count : l < length (map (without_node n) chains) = omega (arith, within, same_count nodes ends chains h, length-map chains (without_node n)) in
    let more = one_more l place x (map (without_node n) chains) count in
    moved last behind (with_pair_in l place x (map (without_node n) chains)) so (omega (arith, less, more, all, same))

pub put_count : (nodes : List Node) (ends : List Ends) (n : NodeId) (l : ℕ) (place : Option NodeId) (x : Pair) → AreChains nodes ends (chains_of nodes ends)
    → has_node n (joined (chains_of nodes ends)) ≡ true → l < length ends
    → length (joined (with_pair_in l place x (map (without_node n) (chains_of nodes ends)))) ≡ length (joined (chains_of nodes ends))
put_count nodes ends n l place x h has within =
    let chains = chains_of nodes ends in
    let less = one_less nodes ends chains n h (told nodes ends chains n h has) in
    let count : l < length (map (without_node n) chains) = omega (arith, within, same_count nodes ends chains h, length-map chains (without_node n)) in
    omega (arith, less, one_more l place x (map (without_node n) chains) count)

-- A new node that goes behind the free ones.

pub past : (nodes : List Node) (ends : List Ends) (chains : List (List Pair)) (n : NodeId) → AreChains nodes ends chains → length nodes ≤ n.0 → has_node n (joined chains) ≡ false
past nodes ends chains n h far = by (has_node n (joined chains)) refl
  where
    by : (b : Bool) → has_node n (joined chains) ≡ b → has_node n (joined chains) ≡ false
    by true is = let w = within nodes ends chains n h is in absurd (omega (arith, w, far))
    by false is = is

-- lists of which the first has one pair more
pub more_free : (chains : List (List Pair)) (x : Pair) → 0 < length chains
    → ((linked_of (with_pair_in 0 None x chains)).lists ≡ (linked_of chains).lists) × ((linked_of (with_pair_in 0 None x chains)).spare ≡ suc (linked_of chains).spare)
more_free [] x h = absurd (omega arith)
more_free (free ∷ lists) x h = (refl, longer None x free)

pub with_new : (nodes after : List Node) (ends : List Ends) (v : Node) → AreChains nodes ends (chains_of nodes ends) → length (joined (chains_of nodes ends)) ≡ length nodes
    → after ≡ nodes ++ v ∷ [] → Moved after ends (chains_of nodes ends)
with_new nodes after ends v h all is =
    let len : length after ≡ length nodes + 1 = ap length is ∙ length_push nodes v in
    let so : AreChains after ends (chains_of nodes ends) = subst (λ ns. AreChains ns ends (chains_of nodes ends)) (sym is) (chains_longer nodes ends (chains_of nodes ends) (v ∷ []) h) in
    moved after ends (chains_of nodes ends) so (omega (arith, len, all))

pub added : (nodes after last : List Node) (ends behind : List Ends) (v : Node) (x : Pair) → AreChains nodes ends (chains_of nodes ends)
    → length (joined (chains_of nodes ends)) ≡ length nodes → 0 < length ends → after ≡ nodes ++ v ∷ [] → length last ≡ length after
    → AreChains last behind (with_pair_in 0 None x (chains_of after ends)) → Moved last behind (with_pair_in 0 None x (chains_of nodes ends))
added nodes after last ends behind v x h all some is same put =
    let chains = chains_of nodes ends in
    let m = with_new nodes after ends v h all is in
    let len : length after ≡ length nodes + 1 = ap length is ∙ length_push nodes v in
    let so : AreChains last behind (with_pair_in 0 None x chains) = subst (λ cs. AreChains last behind (with_pair_in 0 None x cs)) m.is put in
    let count : 0 < length chains = omega (arith, some, same_count nodes ends chains h) in
    let more = one_more 0 None x chains count in
    moved last behind (with_pair_in 0 None x chains) so (omega (arith, more, all, same, len))

pub added_count : (nodes : List Node) (ends : List Ends) (x : Pair) → AreChains nodes ends (chains_of nodes ends) → 0 < length ends
    → length (joined (with_pair_in 0 None x (chains_of nodes ends))) ≡ suc (length (joined (chains_of nodes ends)))
added_count nodes ends x h some =
    let count : 0 < length (chains_of nodes ends) = omega (arith, some, same_count nodes ends (chains_of nodes ends) h) in
    one_more 0 None x (chains_of nodes ends) count
