-- As which state a contract or its interface sees an object's state.
use Rattle.std.proofs.Common.{◌≡◌, ℕ, ◌<◌, true, false, not, ◌||◌, List, length, Option, Some, None, refl, sym, ap, subst, ◌∙◌, arith, ◌⊎◌, inl, inr, eqb-true, eq-eqb, true≢false, lit<}
use Rattle.std.specs.Bool.{◌==◌}
use Rattle.std.specs.Prelude.{nat_eq}
use Rattle.std.specs.Option.{option_map_or}
use Rattle.std.proofs.lemmas.Bool.{both_ways, cond-true, cond-false, cond_both, eqb-false, ne_eqb}
use Rattle.ob_base.specs.declared.id.ContractId.{ContractId}
use Rattle.ob_base.specs.declared.id.StateId.{StateId}
use Rattle.ob_base.specs.declared.permission.Mode.{Mode}
use Rattle.ob_base.specs.declared.permission.Mode.TheVariants.{Owned, Shared, Unowned}
use Rattle.ob_base.specs.declared.permission.Perm.{Perm}
use Rattle.ob_perm.specs.States.{States, stateless, unnamed, states_max, all_states, preimage}
use Rattle.ob_perm.specs.Permissions.{Permission, owned, shared, unowned, owns, fits, permission_within, permission_without}
use Rattle.ob_perm.specs.Masks.{states_of, held, permission_of}
use Rattle.ob_perm.specs.Naming.{Names, seen, for_interface, for_contract}
use Rattle.ob_table.specs.Tables.{ClassTable, contract_at}
use Rattle.ob_table.specs.declared.contract.Contract.{Contract}
use Rattle.ob_table.specs.declared.seen.Kind.TheVariants.{Reference}
use Rattle.ob_table_spec.specs.Conditions.{IsClassTable, IsContract, naming}
use Rattle.ob_table_spec.specs.WellFormed.{is_implemented, serves_as}
use Rattle.ob_heap_spec.specs.Objects.{Object, state_number, seen_between, seen_state, is_in_state, is_in_states}
use Rattle.ob_heap_spec.specs.Contents.{IsStateOf, object_at}
use Rattle.ob_heap_spec.specs.GoingWrong.{is_held_within}
use Rattle.ob_silica_places.specs.Converting.{converted}
use Rattle.ob_silica_places.specs.Known.{unowned_under}
use Rattle.ob_places_laws.specs.Serving.{AllowsState}
use Rattle.ob_places_laws.proofs.Sets.{low_state, all_states_own, all_states_none, image_from, intersection_at, intersection_from}
use Rattle.ob_places_laws.proofs.Serves.{allows_state_fitting, allows_state_under, allows_state_within, allows_state_without}
use Rattle.ob_places_laws.proofs.Tables.{contract_is}
use Rattle.ob_places_laws.proofs.Interfaces.{naming_length, seen_low, implemented_other, interface_is, implements_one}
use Rattle.ob_places_laws.proofs.Conversions.{serves_for_reference, naming_in, converted_same, converted_owns, converted_up, converted_down}

-- The state of an object.

pub state_in_all : (c : Contract) (state : Option StateId) → IsStateOf c state
    → all_states (length c.states) (state_number state) ≡ true
state_in_all c None is = all_states_none (length c.states) (ap (λ (xs : List (List ℕ)). length xs) is)
state_in_all c (Some s) is = all_states_own (length c.states) s.0 is

pub state_low : (table : ClassTable) (c : Contract) (state : Option StateId) → IsContract table c → IsStateOf c state
    → state_number state < states_max
state_low table c None made is = low_state stateless (lit< tt)
state_low table c (Some s) made is = let few = made.few_states in low_state s.0 (omega (arith, few, is))

-- Its own contract sees it as it is.
pub seen_itself : (table : ClassTable) (o : Object) → seen_state table o.contract o ≡ state_number o.state
seen_itself table o =
    cond-true (o.contract.0 == o.contract.0) (state_number o.state) _ (eq-eqb o.contract.0 o.contract.0 refl)

-- An interface sees it by its name.
pub seen_by_interface : (table : ClassTable) → IsClassTable table
    → (i : ContractId) (interface own : Contract) (o : Object)
    → contract_at table i ≡ Some interface → contract_at table o.contract ≡ Some own
    → is_implemented table o.contract i ≡ true
    → seen_state table i o ≡ seen (naming interface own) (state_number o.state)
seen_by_interface table is i interface own o ei ec e =
    cond-false (i.0 == o.contract.0) (state_number o.state) _ (other_way (implemented_other table is o.contract i e))
    ∙ ap (λ x. seen_between x (contract_at table o.contract) (state_number o.state)) ei
    ∙ ap (λ x. seen_between (Some interface) x (state_number o.state)) ec
  where
    other_way : nat_eq o.contract.0 i.0 ≡ false → nat_eq i.0 o.contract.0 ≡ false
    other_way ne = ne_eqb i.0 o.contract.0
        (λ same. both_ways (nat_eq o.contract.0 i.0) ne (eq-eqb o.contract.0 i.0 (sym same)))

-- Whatever sees it, the number is one of a state.
pub seen_state_low : (table : ClassTable) → IsClassTable table → (d : ContractId) (own : Contract) (o : Object)
    → contract_at table o.contract ≡ Some own → IsStateOf own o.state → seen_state table d o < states_max
seen_state_low table is d own o ec state =
    cond_both (d.0 == o.contract.0) (state_number o.state)
    (seen_between (contract_at table d) (contract_at table o.contract) (state_number o.state))
    (λ n. n < states_max)
    (λ same. state_low table own o.state (contract_is table is o.contract own ec) state)
    (λ other. by_table (contract_at table d) refl)
  where
    by_table : (x : Option Contract) → contract_at table d ≡ x
        → seen_between x (contract_at table o.contract) (state_number o.state) < states_max
    by_table None ed = low_state unnamed (lit< tt)
    by_table (Some x) ed = subst (λ y. seen_between (Some x) y (state_number o.state) < states_max) (sym ec)
        (seen_low (naming x own) (naming_in table is d o.contract x own ed ec) (state_number o.state))

-- What sees an object is its contract or the interface that this implements.
pub sees_it : (table : ClassTable) (d c : ContractId) → serves_as table (Reference d) (Reference c) ≡ true
    → (d ≡ c) ⊎ (is_implemented table c d ≡ true)
sees_it table d c e = serves_for_reference table d c e

-- States said for the interface, and for the contract.

pub up_allows : (names : Names) (p : Permission) (s : ℕ) → s < states_max → AllowsState p s
    → AllowsState (for_interface names p) (seen names s)
up_allows names (owned a) s low e = image_from (seen names) a s low e
up_allows names shared s low e = tt
up_allows names unowned s low e = tt

pub down_allows : (names : Names) (p : Permission) (s : ℕ) → all_states (length names) s ≡ true
    → AllowsState p (seen names s)
    → AllowsState (for_contract names p) s
down_allows names (owned a) s own e =
    intersection_from (all_states (length names)) (preimage (seen names) a) s own e
down_allows names shared s own e = tt
down_allows names unowned s own e = tt

pub down_allowed : (names : Names) (p : Permission) (s : ℕ) → AllowsState (for_contract names p) s
    → AllowsState p (seen names s)
down_allowed names (owned a) s e = (intersection_at (all_states (length names)) (preimage (seen names) a) s e).1
down_allowed names shared s e = tt
down_allowed names unowned s e = tt

module _ (table : ClassTable) (is : IsClassTable table) (own : Contract) (o : Object)
    (ec : contract_at table o.contract ≡ Some own) (state : IsStateOf own o.state) where
  low : state_number o.state < states_max
  low = state_low table own o.state (contract_is table is o.contract own ec) state

  -- from the contract to its interface
  to_interface : (i : ContractId) (p : Permission) → is_implemented table o.contract i ≡ true
      → AllowsState p (seen_state table o.contract o)
      → AllowsState (converted table (Reference o.contract) (Reference i) p) (seen_state table i o)
  to_interface i p e h =
      let found = interface_is table is o.contract i own ec e in
      subst (λ q. AllowsState q (seen_state table i o))
      (sym (converted_up table is o.contract i own found.0 p ec found.1 e))
      (subst (AllowsState (for_interface (naming found.0 own) p))
      (sym (seen_by_interface table is i found.0 own o found.1 ec e))
      (up_allows (naming found.0 own) p (state_number o.state) low (subst (AllowsState p) (seen_itself table o) h)))

  -- from the interface to the contract
  to_contract : (i : ContractId) (p : Permission) → is_implemented table o.contract i ≡ true
      → AllowsState p (seen_state table i o)
      → AllowsState (converted table (Reference i) (Reference o.contract) p) (seen_state table o.contract o)
  to_contract i p e h =
      let found = interface_is table is o.contract i own ec e in
      let names = naming found.0 own in
      subst (λ q. AllowsState q (seen_state table o.contract o))
      (sym (converted_down table is i o.contract found.0 own p found.1 ec e))
      (subst (AllowsState (for_contract names p)) (sym (seen_itself table o))
      (down_allows names p (state_number o.state)
      (subst (λ n. all_states n (state_number o.state) ≡ true) (sym (naming_length found.0 own))
      (state_in_all own o.state state))
      (subst (AllowsState p) (seen_by_interface table is i found.0 own o found.1 ec e) h)))

  -- and back: what is allowed as it is said for the contract was allowed of the interface
  from_contract : (i : ContractId) (p : Permission) → is_implemented table o.contract i ≡ true
      → AllowsState (converted table (Reference i) (Reference o.contract) p) (seen_state table o.contract o)
      → AllowsState p (seen_state table i o)
  from_contract i p e h =
      let found = interface_is table is o.contract i own ec e in
      let names = naming found.0 own in
      subst (AllowsState p) (sym (seen_by_interface table is i found.0 own o found.1 ec e))
      (down_allowed names p (state_number o.state)
      (subst (AllowsState (for_contract names p)) (seen_itself table o)
      (subst (λ q. AllowsState q (seen_state table o.contract o))
      (converted_down table is i o.contract found.0 own p found.1 ec e) h)))

  -- A permission that allows an object's state allows it where it is said for another contract or interface of it.
  pub converted_allows_state : (c d : ContractId) (p : Permission)
      → serves_as table (Reference c) (Reference o.contract) ≡ true
      → serves_as table (Reference d) (Reference o.contract) ≡ true → AllowsState p (seen_state table c o)
      → AllowsState (converted table (Reference c) (Reference d) p) (seen_state table d o)
  converted_allows_state c d p ec' ed h = by_both (sees_it table c o.contract ec') (sees_it table d o.contract ed)
    where
      for_itself : (x y : ContractId) → x ≡ y → AllowsState p (seen_state table x o)
          → AllowsState (converted table (Reference x) (Reference y) p) (seen_state table y o)
      for_itself x y e h =
          subst (λ z. AllowsState (converted table (Reference x) (Reference z) p) (seen_state table z o)) e
          (subst (λ q. AllowsState q (seen_state table x o)) (sym (converted_same table (Reference x) p)) h)

      by_both : (c ≡ o.contract) ⊎ (is_implemented table o.contract c ≡ true)
          → (d ≡ o.contract) ⊎ (is_implemented table o.contract d ≡ true)
          → AllowsState (converted table (Reference c) (Reference d) p) (seen_state table d o)
      by_both (inl x) (inl y) = for_itself c d (x ∙ sym y) h
      by_both (inl x) (inr y) =
          subst (λ z. AllowsState (converted table (Reference z) (Reference d) p) (seen_state table d o)) (sym x)
          (to_interface d p y (subst (λ z. AllowsState p (seen_state table z o)) x h))
      by_both (inr x) (inl y) =
          subst (λ z. AllowsState (converted table (Reference c) (Reference z) p) (seen_state table z o)) (sym y)
          (to_contract c p x h)
      by_both (inr x) (inr y) = for_itself c d (implements_one table o.contract c d x y) h

  -- Of an owner's permission: it is an owner's there too, whose states have the object's.
  pub converted_has_state : (c d : ContractId) (a : States)
      → serves_as table (Reference c) (Reference o.contract) ≡ true
      → serves_as table (Reference d) (Reference o.contract) ≡ true → a (seen_state table c o) ≡ true
      → (b : States) × (converted table (Reference c) (Reference d) (owned a) ≡ owned b)
      × (b (seen_state table d o) ≡ true)
  converted_has_state c d a sc sd h = from_owner (converted table (Reference c) (Reference d) (owned a))
      (converted_owns table (Reference c) (Reference d) (owned a))
      (converted_allows_state c d (owned a) sc sd h)
    where
      from_owner : (q : Permission) → owns q ≡ true → AllowsState q (seen_state table d o)
          → (b : States) × (q ≡ owned b) × (b (seen_state table d o) ≡ true)
      from_owner (owned b) e h = (b, refl, h)
      from_owner shared e h = absurd (true≢false (sym e))
      from_owner unowned e h = absurd (true≢false (sym e))

  -- What is allowed as it is said for the object's own contract was allowed before.
  pub allowed_before : (d : ContractId) (p : Permission) → serves_as table (Reference d) (Reference o.contract) ≡ true
      → AllowsState (converted table (Reference d) (Reference o.contract) p) (seen_state table o.contract o)
      → AllowsState p (seen_state table d o)
  allowed_before d p sd h = by_which (sees_it table d o.contract sd)
    where
      itself : (x : ContractId) → x ≡ o.contract
          → AllowsState (converted table (Reference x) (Reference o.contract) p) (seen_state table o.contract o)
          → AllowsState p (seen_state table x o)
      itself x e h = subst (λ z. AllowsState p (seen_state table z o)) (sym e)
          (subst (λ q. AllowsState q (seen_state table o.contract o)) (converted_same table (Reference o.contract) p)
          (subst (λ z. AllowsState (converted table (Reference z) (Reference o.contract) p)
          (seen_state table o.contract o)) e h))

      by_which : (d ≡ o.contract) ⊎ (is_implemented table o.contract d ≡ true) → AllowsState p (seen_state table d o)
      by_which (inl e) = itself d e h
      by_which (inr e) = from_contract d p e h

  -- Where what counts of a permission that allows the object's state fits, said for another kind, what is wanted there
  -- allows the state.
  pub given_allows_state : (c d : ContractId) (t q w : Permission)
      → serves_as table (Reference c) (Reference o.contract) ≡ true
      → serves_as table (Reference d) (Reference o.contract) ≡ true → AllowsState q (seen_state table c o)
      → fits (converted table (Reference c) (Reference d) (unowned_under t q)) w ≡ true
      → AllowsState w (seen_state table d o)
  given_allows_state c d t q w sc sd h f =
      allows_state_fitting (converted table (Reference c) (Reference d) (unowned_under t q)) w (seen_state table d o) f
      (seen_state_low table is d own o ec state)
      (converted_allows_state c d (unowned_under t q) sc sd (allows_state_under t q (seen_state table c o) h))

-- The tests of a run.

held_within_so : (m : Mode) (a : States) (s : ℕ) → AllowsState (held m a) s → (not (owns (held m a)) || a s) ≡ true
held_within_so Owned a s e = e
held_within_so Shared a s e = refl
held_within_so Unowned a s e = refl

held_within_back : (m : Mode) (a : States) (s : ℕ) → (not (owns (held m a)) || a s) ≡ true → AllowsState (held m a) s
held_within_back Owned a s e = e
held_within_back Shared a s e = tt
held_within_back Unowned a s e = tt

-- An object is held within a permission exactly where that allows its state.
pub held_within : (table : ClassTable) (objects : List Object) (d : ContractId) (p : Perm) (n : ℕ) (o : Object)
    → object_at objects n ≡ Some o
    → AllowsState (permission_of p) (seen_state table d o) → is_held_within table objects d p (Some n) ≡ true
held_within table objects d p n o e h =
    ap (λ x. not (owns (permission_of p)) || option_map_or (is_in_states table d p) x false) e
    ∙ held_within_so p.mode (states_of p.states) (seen_state table d o) h

pub within_allows : (table : ClassTable) (objects : List Object) (d : ContractId) (p : Perm) (n : ℕ) (o : Object)
    → object_at objects n ≡ Some o
    → is_held_within table objects d p (Some n) ≡ true → AllowsState (permission_of p) (seen_state table d o)
within_allows table objects d p n o e h = held_within_back p.mode (states_of p.states) (seen_state table d o)
    (sym (ap (λ x. not (owns (permission_of p)) || option_map_or (is_in_states table d p) x false) e) ∙ h)

-- What is known in the branches of a test allows the state.
pub tested_in : (table : ClassTable) (d : ContractId) (s : StateId) (o : Object) (p : Permission)
    → is_in_state table d s o ≡ true
    → AllowsState p (seen_state table d o) → AllowsState (permission_within p s.0) (seen_state table d o)
tested_in table d s o p e h =
    let same = eqb-true (seen_state table d o) s.0 e in
    subst (λ k. AllowsState (permission_within p k) (seen_state table d o)) same
    (allows_state_within p (seen_state table d o) h)

pub tested_out : (table : ClassTable) (d : ContractId) (s : StateId) (o : Object) (p : Permission)
    → is_in_state table d s o ≡ false
    → AllowsState p (seen_state table d o) → AllowsState (permission_without p s.0) (seen_state table d o)
tested_out table d s o p e h =
    allows_state_without p s.0 (seen_state table d o) (eqb-false (seen_state table d o) s.0 e) h
