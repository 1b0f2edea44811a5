-- A contract's permission of `this` that agrees with its interface's is that one, said of the contract's states.
use Rattle.std.proofs.Common.{◌≡◌, ℕ, zero, suc, ◌<◌, ◌≤◌, Bool, true, false, List, [], ◌∷◌, ◌++◌, map, length, Option, Some, None, refl, sym, ap, subst, arith, ◌∙◌, le-ltb, ⊎_elim}
use Rattle.std.proofs.lemmas.Bool.{cases_lt}
use Rattle.std.proofs.lemmas.Bool.Decides.{nat_tests}
use Rattle.std.proofs.lemmas.List.{length-map}
use Rattle.std.specs.Prelude.{◌||◌, ◌&&◌, nat_lt, ◌==◌, option_map, slice_get, is_some, if◌then◌else◌}
use Rattle.std.specs.Option.{option_map_or, option_flatten}
use Rattle.std.specs.List.{list_all}
use Rattle.ob_base.specs.declared.id.StateId.{StateId}
use Rattle.ob_base.specs.declared.permission.Mode.TheVariants.{Owned}
use Rattle.ob_base.specs.declared.permission.Perm.{Perm}
use Rattle.ob_tree.specs.Members.{Contract}
use Rattle.ob_perm.specs.States.{States, all_states}
use Rattle.ob_perm.specs.Masks.{states_of, permission_of, mask_of, perm_of}
use Rattle.ob_perm.specs.Naming.{Names, called_in_interface, seen, states_for_contract, for_contract}
use Rattle.ob_table_spec.specs.Names.{Name, is_among, number_of}
use Rattle.ob_resolve_spec.specs.Declarations.{state_names}
use Rattle.ob_resolve_spec.specs.Permissions.{WrittenPermission, as_shared, as_unowned, as_owner, as_owner_in, in_state, in_other_state, in_no_state, other_situations, allows, agree}
use Rattle.ob_resolve_spec.specs.Numbers.{numbers_of_states, whole, permission_on}
use Rattle.ob_resolve_laws.proofs.NameFacts.{same_is}
use Rattle.ob_table_spec.specs.Names.{same}
use Rattle.ob_resolve_laws.proofs.LookUps.{slice_get-map, slice_get_within, slice_get_bound, number_at, number_is_some}
use Rattle.ob_resolve_laws.proofs.PermFacts.{same_mask_of, mask_bit, below_all}
use Rattle.ob_resolve_laws.proofs.TypeFacts.{and_left, and_right}
use Rattle.ob_resolve_laws.proofs.AgreeFacts.{states_held, states_same, owner_states, answers_same, agree_at, agree_states, agree_others}

-- for each state of a contract, the interface's state of that name
abbrev pub names_between : List Name → List Name → Names
names_between theirs ours = map (λ state. option_map (λ n. record { 0 = n }) (number_of state theirs)) ours

-- the states that an owner's permission names are among these
abbrev pub NamesOf : List Name → WrittenPermission → Type 0
NamesOf theirs (as_owner_in states) = list_all (λ s. is_among s theirs) states ≡ true
NamesOf theirs p = Unit {0}

-- what an owner with this permission finds, by number: of a contract of these states, and of an interface of these
abbrev ours_at : List Name → WrittenPermission → ℕ → Bool
ours_at ours p i = states_held ours p i || (length ours == 0 && i == 32 && allows p in_no_state)

abbrev theirs_at : List Name → WrittenPermission → ℕ → Bool
theirs_at theirs q i = states_held theirs q i || (length theirs == 0 && i == 32 && allows q in_no_state)
    || (i == 33 && allows q in_other_state)

past_states : (states : List Name) (p : WrittenPermission) (i : ℕ) → length states ≤ i → states_held states p i ≡ false
past_states [] p i h = refl
past_states (s ∷ states) p zero h = absurd (omega arith)
past_states (s ∷ states) p (suc i) h = past_states states p i (omega arith)

not_named : (x : Name) (names theirs : List Name) → list_all (λ s. is_among s theirs) names ≡ true
    → is_among x theirs ≡ false → false ≡ is_among x names
not_named x [] theirs h k = refl
not_named x (s ∷ names) theirs h k = at (same x s) refl (not_named x names theirs (and_right (is_among s theirs) _ h) k)
  where
    at : (b : Bool) → same x s ≡ b → false ≡ is_among x names → false ≡ (b || is_among x names)
    at true e r = let f : is_among s theirs ≡ false = subst (λ y. is_among y theirs ≡ false) (same_is x s e) k
        in let t = and_left (is_among s theirs) _ h in absurd (cc)
    at false e r = r

-- a state that the interface doesn't name is found as any other is
unnamed_state : (q : WrittenPermission) (theirs : List Name) (x : Name) → NamesOf theirs q → is_among x theirs ≡ false
    → allows q in_other_state ≡ allows q (in_state x)
unnamed_state as_shared theirs x h k = refl
unnamed_state as_unowned theirs x h k = refl
unnamed_state as_owner theirs x h k = refl
unnamed_state (as_owner_in states) theirs x h k = not_named x states theirs h k

-- what the interface finds at the number that it gives a state of the contract
at_called : (theirs : List Name) (q : WrittenPermission) (x : Name) → length theirs ≤ 32 → NamesOf theirs q
    → (o : Option ℕ) → number_of x theirs ≡ o
    → theirs_at theirs q (option_map_or (λ (k : StateId). k.0) (option_map (λ n. record { 0 = n }) o) 33)
    ≡ allows q (in_state x)
at_called theirs q x few names None e =
    let absent : is_among x theirs ≡ false = sym (number_is_some x theirs) ∙ ap is_some e in
    let a : states_held theirs q 33 ≡ false = past_states theirs q 33 (omega arith) in
    rw a (simplify (length theirs == 0) (allows q in_no_state) (allows q in_other_state)
    ∙ unnamed_state q theirs x names absent)
  where
    simplify : (a b c : Bool) → ((a && false && b) || c) ≡ c
    simplify true b c = refl
    simplify false b c = refl
at_called theirs q x few names (Some k) e =
    let at = number_at x theirs k e in
    let bound = slice_get_bound theirs k x at in
    let a : states_held theirs q k ≡ allows q (in_state x) =
    ap (λ o. option_map_or (λ state. allows q (in_state state)) o false) at in
    let z : (length theirs == 0) ≡ false = grind (arith, nat_tests) in
    let t : (k == 33) ≡ false = grind (arith, nat_tests) in
    rw (a, z, t) (simplify (allows q (in_state x)))
  where
    simplify : (b : Bool) → (b || false || false) ≡ b
    simplify true = refl
    simplify false = refl

-- what the contract finds in its own states, and as it finds them through the interface
abbrev said_at : List Name → List Name → WrittenPermission → ℕ → Bool
said_at theirs ours q j = all_states (length ours) j && theirs_at theirs q (seen (names_between theirs ours) j)

at_state : (theirs ours : List Name) (p q : WrittenPermission) → length ours ≤ 32 → length theirs ≤ 32
    → NamesOf theirs q → list_all (agree_at p q) (map in_state ours) ≡ true
    → (j : ℕ) → j < length ours → ours_at ours p j ≡ said_at theirs ours q j
at_state theirs ours p q few few' names same j l =
    let x = slice_get_within ours j l in
    let z : (length ours == 0) ≡ false = grind (arith, nat_tests) in
    let t : (j == 32) ≡ false = grind (arith, nat_tests) in
    let a : states_held ours p j ≡ allows q (in_state x.0) = states_same p q ours same j
    ∙ ap (λ o. option_map_or (λ state. allows q (in_state state)) o false) x.1 in
    let b : slice_get (names_between theirs ours) j ≡ Some (option_map (λ n. record { 0 = n }) (number_of x.0 theirs)) =
    slice_get-map (λ state. option_map (λ n. record { 0 = n }) (number_of state theirs)) ours j
    ∙ ap (option_map (λ state. option_map (λ n. record { 0 = n }) (number_of state theirs))) x.1 in
    let c : called_in_interface (names_between theirs ours) j
    ≡ option_map_or (λ (k : StateId). k.0) (option_map (λ n. record { 0 = n }) (number_of x.0 theirs)) 33 = ap
    (λ o. option_map_or (λ (k : StateId). k.0) (option_flatten o) 33) b in
    let d = at_called theirs q x.0 few' names (number_of x.0 theirs) refl in
    let e = below_all (length ours) j l in
    rw (e, t, c, d, a, z) (simplify (allows q (in_state x.0)))
  where
    simplify : (b : Bool) → (b || false) ≡ b
    simplify true = refl
    simplify false = refl

at_none : (theirs ours : List Name) (p q : WrittenPermission) (j : ℕ) → theirs ≡ []
    → allows p in_no_state ≡ allows q in_no_state → j ≡ 32
    → allows p in_no_state ≡ theirs_at theirs q 32
at_none theirs ours p q j none same e =
    subst (λ (ts : List Name). allows p in_no_state ≡ theirs_at ts q 32) (sym none)
    (same ∙ simplify (allows q in_no_state))
  where
    simplify : (b : Bool) → b ≡ (b || false)
    simplify true = refl
    simplify false = refl

at_beyond : (theirs ours : List Name) (p q : WrittenPermission) → (length ours ≡ 0 → theirs ≡ [])
    → (length ours ≡ 0 → allows p in_no_state ≡ allows q in_no_state)
    → (j : ℕ) → length ours ≤ j → ours_at ours p j ≡ said_at theirs ours q j
at_beyond theirs ours p q none same j h =
    let a = past_states ours p j h in
    let b : nat_lt j (length ours) ≡ false = le-ltb j (length ours) h in
    rw (a, b) (by_none (length ours == 0) refl (j == 32) refl)
  where
    by_none : (x : Bool) → (length ours == 0) ≡ x → (y : Bool) → (j == 32) ≡ y
        → (x && y && allows p in_no_state) ≡ ((x && y)
        && theirs_at theirs q (if y then 32 else called_in_interface (names_between theirs ours) j))
    by_none false e y f = refl
    by_none true e false f = refl
    by_none true e true f =
        let n : length ours ≡ 0 = grind (arith, nat_tests, e) in
        let m : j ≡ 32 = grind (arith, nat_tests, f) in
        at_none theirs ours p q j (none n) (same n) m

-- the number that the interface gives a state is one of a set's
low_number : (theirs : List Name) → length theirs ≤ 32 → (x : Name) (o : Option ℕ) → number_of x theirs ≡ o
    → option_map_or (λ (k : StateId). k.0) (option_map (λ n. record { 0 = n }) o) 33 < 34
low_number theirs few x None e = omega arith
low_number theirs few x (Some k) e = let bound = slice_get_bound theirs k x (number_at x theirs k e)
    in omega (arith, bound)

low_called : (theirs ours : List Name) → length theirs ≤ 32 → (j : ℕ) → called_in_interface (names_between theirs ours) j < 34
low_called theirs [] few j = omega arith
low_called theirs (s ∷ ours) few zero = low_number theirs few s (number_of s theirs) refl
low_called theirs (s ∷ ours) few (suc j) = low_called theirs ours few j

low_seen : (theirs ours : List Name) → length theirs ≤ 32 → (j : ℕ) → seen (names_between theirs ours) j < 34
low_seen theirs ours few j = at (j == 32) (low_called theirs ours few j)
  where
    at : (b : Bool) → called_in_interface (names_between theirs ours) j < 34
        → (if b then 32 else called_in_interface (names_between theirs ours) j) < 34
    at true h = omega arith
    at false h = h

-- sets that an owner finds, of the contract and through its interface
said_masks : (theirs ours : List Name) (p q : WrittenPermission) (A B : States) → length ours ≤ 32 → length theirs ≤ 32
    → NamesOf theirs q → list_all (agree_at p q) (map in_state ours) ≡ true
    → (length ours ≡ 0 → theirs ≡ []) → (length ours ≡ 0 → allows p in_no_state ≡ allows q in_no_state)
    → ((i : ℕ) → A i ≡ ours_at ours p i) → ((i : ℕ) → B i ≡ theirs_at theirs q i)
    → mask_of A ≡ mask_of (states_for_contract (names_between theirs ours) (states_of (mask_of B)))
said_masks theirs ours p q A B few few' names same none same' a b =
    same_mask_of A (states_for_contract (names_between theirs ours) (states_of (mask_of B)))
    (λ j l. a j ∙ at_all j ∙ through j)
  where
    at_all : (j : ℕ) → ours_at ours p j ≡ said_at theirs ours q j
    at_all j =
        ⊎_elim (λ l. at_state theirs ours p q few few' names same j l)
        (λ h. at_beyond theirs ours p q none same' j h) (cases_lt j (length ours))

    through : (j : ℕ) → said_at theirs ours q j
        ≡ states_for_contract (names_between theirs ours) (states_of (mask_of B)) j
    through j =
        let e = length-map ours (λ state. option_map (λ n. record { 0 = n }) (number_of state theirs)) in
        let f = mask_bit B (seen (names_between theirs ours) j) (low_seen theirs ours few' j) in
        ap (λ n. all_states n j && theirs_at theirs q (seen (names_between theirs ours) j)) (sym e)
        ∙ ap (λ x. all_states (length (names_between theirs ours)) j && x)
        (sym (f ∙ b (seen (names_between theirs ours) j)))

-- The sets that are written.

and_true : (b : Bool) → b ≡ (b && true)
and_true true = refl
and_true false = refl

and_false : (b : Bool) → (b && false) ≡ false
and_false true = refl
and_false false = refl

or_false : (b : Bool) → b ≡ (b || false)
or_false true = refl
or_false false = refl

our_whole : (own : Contract) → own.interface ≡ false → (i : ℕ) → whole own i ≡ ours_at (state_names own) as_owner i
our_whole own e i =
    rw (e, owner_states (state_names own) i) (ap (λ b. nat_lt i (length (state_names own)) || b)
    (and_true (length (state_names own) == 0 && i == 32)))

our_states : (ours states : List Name) (i : ℕ) → numbers_of_states ours states i ≡ ours_at ours (as_owner_in states) i
our_states ours states i = rw (and_false (length ours == 0 && i == 32)) (or_false (numbers_of_states ours states i))

their_whole : (i : Contract) → i.interface ≡ true → (k : ℕ) → whole i k ≡ theirs_at (state_names i) as_owner k
their_whole i e k =
    rw (e, owner_states (state_names i) k)
    (ap (λ b. (nat_lt k (length (state_names i)) || b) || k == 33)
    (and_true (length (state_names i) == 0 && k == 32))
    ∙ ap (λ b. (nat_lt k (length (state_names i)) || (length (state_names i) == 0 && k == 32 && true)) || b)
    (and_true (k == 33)))

their_states : (theirs states : List Name) (k : ℕ)
    → numbers_of_states theirs states k ≡ theirs_at theirs (as_owner_in states) k
their_states theirs states k =
    rw (and_false (length theirs == 0 && k == 32), and_false (k == 33))
    (or_false (numbers_of_states theirs states k) ∙ or_false (numbers_of_states theirs states k || false))

-- what must hold of a contract and its interface
pub record Between (interface own : Contract) : Type 0 where
  pub is_interface : interface.interface ≡ true
  pub is_contract : own.interface ≡ false
  pub few : length (state_names own) ≤ 32
  pub few_theirs : length (state_names interface) ≤ 32
  pub states : list_all (λ state. is_among state (state_names own)) (state_names interface) ≡ true

no_states_theirs : (ours theirs : List Name) → list_all (λ state. is_among state ours) theirs ≡ true → length ours ≡ 0
    → theirs ≡ []
no_states_theirs [] [] h e = refl
no_states_theirs [] (s ∷ theirs) h e = absurd cc
no_states_theirs (x ∷ ours) theirs h e = absurd (omega (arith, e))

found_in_none : (own : Contract) (p q : WrittenPermission) (states : List Name) → length states ≡ 0
    → list_all (agree_at p q) (other_situations own states) ≡ true → allows p in_no_state ≡ allows q in_no_state
found_in_none own p q [] e h = at own.interface h
  where
    at : (b : Bool) → list_all (agree_at p q) ((if b then in_other_state ∷ [] else []) ++ in_no_state ∷ []) ≡ true
        → allows p in_no_state ≡ allows q in_no_state
    at true h =
        answers_same _ _ (and_left (agree_at p q in_no_state) true (and_right (agree_at p q in_other_state) _ h))
    at false h = answers_same _ _ (and_left (agree_at p q in_no_state) true h)
found_in_none own p q (s ∷ states) e h = absurd (omega (arith, e))

said_owned : (interface own : Contract) (p q : WrittenPermission) (A B : States) → Between interface own
    → NamesOf (state_names interface) q → agree own p q ≡ true
    → ((i : ℕ) → A i ≡ ours_at (state_names own) p i) → ((i : ℕ) → B i ≡ theirs_at (state_names interface) q i)
    → mask_of A ≡ mask_of (states_for_contract (names_between (state_names interface) (state_names own))
    (states_of (mask_of B)))
said_owned interface own p q A B w names h a b =
    said_masks (state_names interface) (state_names own) p q A B w.few w.few_theirs names (agree_states own p q h)
    (no_states_theirs (state_names own) (state_names interface) w.states)
    (λ e. found_in_none own p q (state_names own) e (agree_others own p q h)) a b

abbrev owned_with : ℕ → Perm
owned_with mask = record { mode = Owned; states = mask }

-- in the table, the contract's permission is the interface's, said of the contract's states
pub said_same : (interface own : Contract) (p q : WrittenPermission) → Between interface own
    → NamesOf (state_names interface) q → agree own p q ≡ true
    → perm_of (permission_on own p) ≡ perm_of
    (for_contract (names_between (state_names interface) (state_names own))
    (permission_of (perm_of (permission_on interface q))))
said_same interface own as_shared as_shared w names h = refl
said_same interface own as_shared as_unowned w names h = absurd cc
said_same interface own as_shared as_owner w names h = absurd cc
said_same interface own as_shared (as_owner_in states) w names h = absurd cc
said_same interface own as_unowned as_unowned w names h = refl
said_same interface own as_unowned as_shared w names h = absurd cc
said_same interface own as_unowned as_owner w names h = absurd cc
said_same interface own as_unowned (as_owner_in states) w names h = absurd cc
said_same interface own as_owner as_shared w names h = absurd cc
said_same interface own as_owner as_unowned w names h = absurd cc
said_same interface own as_owner as_owner w names h =
    ap owned_with (said_owned interface own as_owner as_owner (whole own) (whole interface) w names h
    (our_whole own w.is_contract) (their_whole interface w.is_interface))
said_same interface own as_owner (as_owner_in states) w names h =
    ap owned_with (said_owned interface own as_owner (as_owner_in states) (whole own)
    (numbers_of_states (state_names interface) states) w names h (our_whole own w.is_contract)
    (their_states (state_names interface) states))
said_same interface own (as_owner_in states) as_shared w names h = absurd cc
said_same interface own (as_owner_in states) as_unowned w names h = absurd cc
said_same interface own (as_owner_in states) as_owner w names h =
    ap owned_with (said_owned interface own (as_owner_in states) as_owner (numbers_of_states (state_names own) states)
    (whole interface) w names h (our_states (state_names own) states) (their_whole interface w.is_interface))
said_same interface own (as_owner_in states) (as_owner_in others) w names h =
    ap owned_with (said_owned interface own (as_owner_in states) (as_owner_in others)
    (numbers_of_states (state_names own) states) (numbers_of_states (state_names interface) others) w names h
    (our_states (state_names own) states) (their_states (state_names interface) others))
