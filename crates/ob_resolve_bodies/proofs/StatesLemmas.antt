-- Sets of states by name.
use Rattle.std.proofs.Common.{◌≡◌, ℕ, zero, suc, ◌+◌, ◌<◌, ◌≤◌, Bool, true, false, cond, List, [], ◌∷◌, ◌++◌, map, length, take, get_or, Option, Some, None, refl, sym, ap, arith, ◌∙◌, length-append, eqb-true, ◌⊎◌, inl, inr, ⊎_elim}
use Rattle.std.specs.Prelude.{◌||◌, ◌==◌, option_map, option_and_then, slice_get, is_some}
use Rattle.std.specs.Option.{option_map_or}
use Rattle.std.specs.Cmp.Lexicographic.{same_text}
use Rattle.std.proofs.Math.Path.{fun_ext}
use Rattle.std.proofs.lemmas.Bool.{cases_Bool, cases_lt, both_ways}
use Rattle.std.proofs.lemmas.Bool.Decides.{nat_tests}
use Rattle.std.proofs.lemmas.Cmp.{nat_list_eq_equiv}
use Rattle.std.proofs.lemmas.List.Folds.{list_any-append}
use Rattle.std.proofs.lemmas.List.{take_more, take_all, map-append}
use Rattle.std.proofs.lemmas.Option.{none-some, slice_get-map, slice_get_within, slice_get_past}
use Rattle.ob_tree.specs.MembersView.{contract_of}
use Rattle.ob_tree.specs.declared.name.NamePart.{NamePart}
use Rattle.ob_tree.specs.declared.contract.ContractNode.{ContractNode}
use Rattle.ob_perm.specs.States.{IsNumbered, only, union, states_max, all_states, interface_states, anywhere}
use Rattle.ob_perm.specs.Masks.{states_of, mask_of}
use Rattle.ob_perm.proofs.MaskLemmas.{states_of-zero}
use Rattle.ob_perm.proofs.StandsLemmas.{mask_is, all_states_numbered, interface_states_numbered, anywhere_numbered}
use Rattle.ob_table_spec.specs.Names.{Name, same, is_among, number_of}
use Rattle.ob_resolve_spec.specs.Declarations.{declared_contract, state_names}
use Rattle.ob_resolve_spec.specs.Numbers.{numbers_of_states, whole}
use Rattle.ob_resolve_scope.specs.Numbered.{find, numbered_from, numbered}
use Rattle.ob_resolve_bodies.specs.States.{HaveOwnNumbers, HasStates}
use Rattle.ob_resolve_scope.specs.Types.{program_of}

same-refl : (a : Name) → same a a ≡ true
same-refl a = nat_list_eq_equiv.refl a

same_is : (a b : Name) → same a b ≡ true → a ≡ b
same_is a b h = same_text a b (sym h)

-- Names that are as many as the places that they were given differ.

grows : (names : List (Name × ℕ)) (n : ℕ) (xs : List Name)
    → length (numbered_from names n xs) ≤ length names + length xs
grows names n [] = omega arith
grows names n (x ∷ xs) = by (is_some (find x names)) (grows names (n + 1) xs) (grows (names ++ (x, n) ∷ []) (n + 1) xs)
  where
    by : (b : Bool) → length (numbered_from names (n + 1) xs) ≤ length names + length xs
        → length (numbered_from (names ++ (x, n) ∷ []) (n + 1) xs) ≤ length (names ++ (x, n) ∷ []) + length xs
        → length (numbered_from (cond b names (names ++ (x, n) ∷ [])) (n + 1) xs) ≤ length names + suc (length xs)
    by true old new = omega arith
    by false old new = omega (arith, length-append names ((x, n) ∷ []))

absent_before : (names : List (Name × ℕ)) (y : Name) (n : ℕ) (x : Name) → find x (names ++ (y, n) ∷ []) ≡ None
    → (find x names ≡ None) × (same x y ≡ false)
absent_before [] y n x e = by (same x y) refl e
  where
    by : (b : Bool) → same x y ≡ b → cond b (Some n) None ≡ None → (find x [] ≡ None) × (same x y ≡ false)
    by true s e = absurd cc
    by false s e = (refl, s)
absent_before (m ∷ names) y n x e = by (same x m.0) (absent_before names y n x) e
  where
    by : (b : Bool) → (find x (names ++ (y, n) ∷ []) ≡ None → (find x names ≡ None) × (same x y ≡ false))
        → cond b (Some m.1) (find x (names ++ (y, n) ∷ [])) ≡ None
        → (cond b (Some m.1) (find x names) ≡ None) × (same x y ≡ false)
    by true rest e = absurd cc
    by false rest e = rest e

none_is : (o : Option ℕ) → is_some o ≡ false → o ≡ None
none_is None e = refl
none_is (Some n) e = absurd cc

places : (names : List (Name × ℕ)) (n : ℕ) (xs : List Name)
    → length (numbered_from names n xs) ≡ length names + length xs
    → (i : ℕ) (x : Name) → slice_get xs i ≡ Some x → (find x names ≡ None) × (number_of x xs ≡ Some i)
places names n [] e i x at = absurd cc
places names n (y ∷ xs) e i x at =
    by (is_some (find y names)) refl (grows names (n + 1) xs) (places (names ++ (y, n) ∷ []) (n + 1) xs) e i at
  where
    here : find y names ≡ None → (i : ℕ) → (j : ℕ) → i ≡ j → slice_get (y ∷ xs) i ≡ Some x
        → ((i : ℕ) (x : Name) → slice_get xs i ≡ Some x
        → (find x (names ++ (y, n) ∷ []) ≡ None) × (number_of x xs ≡ Some i))
        → (find x names ≡ None) × (number_of x (y ∷ xs) ≡ Some i)
    here new zero j is at rest =
        let z : y ≡ x = cc in (
          ap (λ w. find w names) (sym z) ∙ new,
          ap (λ b. cond b (Some 0) (option_map suc (number_of x xs))) (ap (same x) z ∙ same-refl x),
        )
    here new (suc i) j is at rest =
        let r = rest i x at in
        let a = absent_before names y n x r.0 in
        (a.0, ap (λ b. cond b (Some 0) (option_map suc (number_of x xs))) a.1 ∙ ap (option_map suc) r.1)

    by : (b : Bool) → is_some (find y names) ≡ b → length (numbered_from names (n + 1) xs) ≤ length names + length xs
        → (length (numbered_from (names ++ (y, n) ∷ []) (n + 1) xs) ≡ length (names ++ (y, n) ∷ []) + length xs
        → (i : ℕ) (x : Name) → slice_get xs i ≡ Some x → (find x (names ++ (y, n) ∷ []) ≡ None)
        × (number_of x xs ≡ Some i))
        → length (numbered_from (cond b names (names ++ (y, n) ∷ [])) (n + 1) xs) ≡ length names + suc (length xs)
        → (i : ℕ) → slice_get (y ∷ xs) i ≡ Some x → (find x names ≡ None) × (number_of x (y ∷ xs) ≡ Some i)
    by true s small rest e i at = absurd (omega arith)
    by false s small rest e i at =
        here (none_is (find y names) s) i i refl at (rest (omega (arith, length-append names ((y, n) ∷ []))))

-- Names that are as many as their places differ.
pub are_distinct : (xs : List Name) → length (numbered xs) ≡ length xs → HaveOwnNumbers xs
are_distinct xs e i x at = (places [] 0 xs (e ∙ omega arith) i x at).1

-- The states that are named, one name more.

some_step : (o : Option ℕ) (n : ℕ) → option_map suc o ≡ Some n → (m : ℕ) × (o ≡ Some m) × (n ≡ suc m)
some_step None n e = absurd cc
some_step (Some m) n e = (m, refl, cc)

number_at : (name : Name) (xs : List Name) (n : ℕ) → number_of name xs ≡ Some n → slice_get xs n ≡ Some name
number_at name [] n e = absurd cc
number_at name (x ∷ xs) n e = at (same name x) refl (number_at name xs) e
  where
    at : (b : Bool) → same name x ≡ b → ((m : ℕ) → number_of name xs ≡ Some m → slice_get xs m ≡ Some name)
        → cond b (Some 0) (option_map suc (number_of name xs)) ≡ Some n → slice_get (x ∷ xs) n ≡ Some name
    at true s rest e = let z : n ≡ 0 = cc in rw z (ap Some (sym (same_is name x s)))
    at false s rest e = let r = some_step (number_of name xs) n e in rw r.2 (rest r.0 r.1)

-- a state's number is below the count of states
pub number_below : (name : Name) (xs : List Name) (n : ℕ) → number_of name xs ≡ Some n → n < length xs
number_below name xs n e = slice_get_within xs n name (number_at name xs n e)

or_false : (b : Bool) → (b || false) ≡ b
or_false true = refl
or_false false = refl

among_more : (s : Name) (names : List Name) (name : Name)
    → is_among s (names ++ name ∷ []) ≡ (is_among s names || same s name)
among_more s names name =
    list_any-append (same s) names (name ∷ []) ∙ ap (λ b. is_among s names || b) (or_false (same s name))

no_names : (o : Option Name) → option_map_or (λ s. is_among s []) o false ≡ false
no_names None = refl
no_names (Some s) = refl

pub none_named : (states : List Name) → states_of 0 ≡ numbers_of_states states []
none_named states = states_of-zero ∙ fun_ext (λ i. sym (no_names (slice_get states i)))

one_at : (states : List Name) → HaveOwnNumbers states → (names : List Name) (name : Name) (k : ℕ)
    → number_of name states ≡ Some k
    → (i : ℕ) (o : Option Name) → slice_get states i ≡ o
    → option_map_or (λ s. is_among s (names ++ name ∷ [])) o false
    ≡ (option_map_or (λ s. is_among s names) o false || i == k)
one_at states distinct names name k e i None none = by (cases_Bool (i == k))
  where
    at : slice_get states k ≡ Some name
    at = number_at name states k e

    by : ((i == k) ≡ true) ⊎ ((i == k) ≡ false) → false ≡ (i == k)
    by (inl same') = absurd (none-some name (sym none ∙ ap (slice_get states) (eqb-true i k same') ∙ at))
    by (inr other) = sym other
one_at states distinct names name k e i (Some s) is = among_more s names name
    ∙ ap (λ b. is_among s names || b) (by (cases_Bool (same s name)) (cases_Bool (i == k)))
  where
    at : slice_get states k ≡ Some name
    at = number_at name states k e

    by : (same s name ≡ true) ⊎ (same s name ≡ false) → ((i == k) ≡ true) ⊎ ((i == k) ≡ false) → same s name ≡ (i == k)
    by (inl p) (inl q) = p ∙ sym q
    by (inr p) (inr q) = p ∙ sym q
    by (inl p) (inr q) =
        let z = same_is s name p in
        let own = distinct i s is in
        let same' : Some i ≡ Some k = sym own ∙ ap (λ w. number_of w states) z ∙ e in
        let w : i ≡ k = cc in
        absurd (grind (arith, nat_tests))
    by (inr p) (inl q) =
        let w = eqb-true i k q in
        let same' : Some s ≡ Some name = sym is ∙ ap (slice_get states) w ∙ at in
        let z : s ≡ name = cc in
        absurd (both_ways (same s name) p (ap (same s) (sym z) ∙ same-refl s))

one_named : (states : List Name) (names : List Name) (name : Name) (k : ℕ) → HaveOwnNumbers states
    → number_of name states ≡ Some k
    → union (numbers_of_states states names) (only k) ≡ numbers_of_states states (names ++ name ∷ [])
one_named states names name k distinct e = fun_ext (λ i. sym
    (one_at states distinct names name k e i (slice_get states i) refl))

none_at : (states : List Name) → HaveOwnNumbers states → (names : List Name) (name : Name) → number_of name states ≡ None
    → (i : ℕ) (o : Option Name) → slice_get states i ≡ o
    → option_map_or (λ s. is_among s (names ++ name ∷ [])) o false ≡ option_map_or (λ s. is_among s names) o false
none_at states distinct names name e i None none = refl
none_at states distinct names name e i (Some s) is = among_more s names name
    ∙ ap (λ b. is_among s names || b) (by (cases_Bool (same s name))) ∙ or_false (is_among s names)
  where
    by : (same s name ≡ true) ⊎ (same s name ≡ false) → same s name ≡ false
    by (inr q) = q
    by (inl p) =
        let own : Some i ≡ None = sym (distinct i s is) ∙ ap (λ w. number_of w states) (same_is s name p) ∙ e in
        absurd cc

not_named : (states : List Name) (names : List Name) (name : Name) → HaveOwnNumbers states → number_of name states ≡ None
    → numbers_of_states states names ≡ numbers_of_states states (names ++ name ∷ [])
not_named states names name distinct e = fun_ext (λ i. sym
    (none_at states distinct names name e i (slice_get states i) refl))

-- A loop's turn: one name more.

taken : (xs : List NamePart) (i : ℕ) (x : NamePart) → i < length xs → x ≡ get_or xs i x
    → map (λ s. s.name) (take (i + 1) xs) ≡ map (λ s. s.name) (take i xs) ++ x.name ∷ []
taken xs i x h is =
    ap (map (λ s. s.name)) (take_more xs i x h)
    ∙ map-append (λ s. s.name) (take i xs) (get_or xs i x ∷ [])
    ∙ ap (λ y. map (λ s. s.name) (take i xs) ++ y.name ∷ []) (sym is)

pub one_turn : (states : List Name) (xs : List NamePart) (i : ℕ) (x : NamePart) (k old one new : ℕ) → HaveOwnNumbers states
    → i < length xs → x ≡ get_or xs i x → number_of x.name states ≡ Some k
    → states_of old ≡ numbers_of_states states (map (λ s. s.name) (take i xs)) → states_of one ≡ only k
    → states_of new ≡ union (states_of old) (states_of one)
    → states_of new ≡ numbers_of_states states (map (λ s. s.name) (take (i + 1) xs))
one_turn states xs i x k old one new distinct h is e before single joined =
    joined ∙ ap (λ a. union a (states_of one)) before ∙ ap
    (union (numbers_of_states states (map (λ s. s.name) (take i xs)))) single
    ∙ one_named states (map (λ s. s.name) (take i xs)) x.name k distinct e
    ∙ ap (numbers_of_states states) (sym (taken xs i x h is))

pub no_turn : (states : List Name) (xs : List NamePart) (i : ℕ) (x : NamePart) (old : ℕ) → HaveOwnNumbers states
    → i < length xs → x ≡ get_or xs i x → number_of x.name states ≡ None
    → states_of old ≡ numbers_of_states states (map (λ s. s.name) (take i xs))
    → states_of old ≡ numbers_of_states states (map (λ s. s.name) (take (i + 1) xs))
no_turn states xs i x old distinct h is e before =
    before ∙ not_named states (map (λ s. s.name) (take i xs)) x.name distinct e
    ∙ ap (numbers_of_states states) (sym (taken xs i x h is))

-- States of a contract with at most 32 have numbers.

past_none : (o : Option Name) (names : List Name) → o ≡ None → option_map_or (λ s. is_among s names) o false ≡ false
past_none o names e = ap (λ o. option_map_or (λ s. is_among s names) o false) e

pub named_numbered : (states : List Name) (names : List Name) → length states ≤ 32
    → IsNumbered (numbers_of_states states names)
unfolding states_max
named_numbered states names few i e = ⊎_elim (λ below. omega arith)
    (λ above. absurd (both_ways (option_map_or (λ s. is_among s names) (slice_get states i) false)
    (past_none (slice_get states i) names (slice_get_past states i (omega arith))) e)) (cases_lt i 34)

pub mask_named : (states : List Name) (xs : List NamePart) (i m : ℕ) → length states ≤ 32 → length xs ≤ i
    → states_of m ≡ numbers_of_states states (map (λ s. s.name) (take i xs))
    → m ≡ mask_of (numbers_of_states states (map (λ s. s.name) xs))
mask_named states xs i m few all e =
    mask_is m (numbers_of_states states (map (λ s. s.name) xs)) (named_numbered states (map (λ s. s.name) xs) few)
    (e ∙ ap (λ ys. numbers_of_states states (map (λ s. s.name) ys)) (take_all i xs all))

pub mask_anywhere : (m : ℕ) → states_of m ≡ anywhere → m ≡ mask_of anywhere
mask_anywhere m e = mask_is m anywhere anywhere_numbered e

-- The states of a contract at its number.

pub standing : (nodes : List ContractNode) (n : ℕ) (node : ContractNode) → slice_get nodes n ≡ Some node
    → declared_contract (program_of nodes) n ≡ Some (contract_of node)
standing nodes n node at = slice_get-map contract_of nodes n ∙ ap (option_map contract_of) at

pub has_states : (nodes : List ContractNode) (n : ℕ) (node : ContractNode) (count : ℕ) (names : List (Name × ℕ))
    → slice_get nodes n ≡ Some node
    → Some count ≡ option_map (λ c. length (state_names c)) (declared_contract (program_of nodes) n)
    → Some names ≡ option_map (λ c. numbered (state_names c)) (declared_contract (program_of nodes) n)
    → count ≤ 32 → length names ≡ count → HasStates (contract_of node) count
has_states nodes n node count names at counts are few same' =
    let e : Some count ≡ Some (length (state_names (contract_of node))) =
    counts ∙ ap (option_map (λ c. length (state_names c))) (standing nodes n node at) in
    let f : Some names ≡ Some (numbered (state_names (contract_of node))) =
    are ∙ ap (option_map (λ c. numbered (state_names c))) (standing nodes n node at) in
    let counted : count ≡ length (state_names (contract_of node)) = cc in
    let named : names ≡ numbered (state_names (contract_of node)) = cc in
    record {
      counted = counted;
      few = few;
      distinct = are_distinct (state_names (contract_of node)) (ap length (sym named) ∙ same' ∙ counted);
    }

pub interface_mask : (node : ContractNode) (count m : ℕ) → HasStates (contract_of node) count → node.interface ≡ true
    → states_of m ≡ interface_states count → m ≡ mask_of (whole (contract_of node))
interface_mask node count m has is e =
    mask_is m (interface_states count) (interface_states_numbered count has.few) e
    ∙ ap (λ n. mask_of (interface_states n)) has.counted
    ∙ ap (λ b. mask_of (cond b (interface_states (length (state_names (contract_of node))))
    (all_states (length (state_names (contract_of node)))))) (sym is)

pub contract_mask : (node : ContractNode) (count m : ℕ) → HasStates (contract_of node) count → node.interface ≡ false
    → states_of m ≡ all_states count → m ≡ mask_of (whole (contract_of node))
contract_mask node count m has is e =
    mask_is m (all_states count) (all_states_numbered count has.few) e
    ∙ ap (λ n. mask_of (all_states n)) has.counted
    ∙ ap (λ b. mask_of (cond b (interface_states (length (state_names (contract_of node))))
    (all_states (length (state_names (contract_of node)))))) (sym is)

pub small_number : (node : ContractNode) (count : ℕ) (name : Name) (k : ℕ) → HasStates (contract_of node) count
    → number_of name (state_names (contract_of node)) ≡ Some k → k < 32
small_number node count name k has e =
    let below = number_below name (state_names (contract_of node)) k e in
    omega (arith, has.counted, has.few)

pub state_number : (nodes : List ContractNode) (n : ℕ) (node : ContractNode) (name : Name)
    → slice_get nodes n ≡ Some node
    → option_and_then (λ c. number_of name (state_names c)) (declared_contract (program_of nodes) n)
    ≡ number_of name (state_names (contract_of node))
state_number nodes n node name at = ap (option_and_then (λ c. number_of name (state_names c)))
    (standing nodes n node at)
