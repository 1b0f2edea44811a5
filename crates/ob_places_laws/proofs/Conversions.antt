-- Which kinds serve, and permissions said for a place of another kind.
use Rattle.std.proofs.Common.{◌≡◌, Bool, true, false, Option, Some, None, refl, sym, ap, subst, ◌∙◌, ◌⊎◌, inl, inr, ⊎_elim, eqb-true, eq-eqb, true≢false, ◌<◌, length}
use Rattle.std.specs.Prelude.{nat_eq, if◌then◌else◌}
use Rattle.std.specs.Option.{option_map_or}
use Rattle.std.proofs.lemmas.Bool.{both_ways, or_cases, or_left, or_right, cond-true, cond-false, false_from_ne_true}
use Rattle.ob_base.specs.declared.id.ContractId.{ContractId}
use Rattle.ob_perm.specs.States.{States, states_max, IsNumbered, all_states, image, preimage}
use Rattle.ob_perm.specs.Permissions.{Permission, owned, shared, unowned, owns, is_shared, is_unowned, fits, IsNumberedPermission}
use Rattle.ob_perm.specs.Naming.{Names, IsNaming, seen, states_for_interface, states_for_contract, for_interface, for_contract}
use Rattle.ob_table.specs.Tables.{ClassTable, contract_at}
use Rattle.ob_table.specs.declared.contract.Contract.{Contract}
use Rattle.ob_table.specs.declared.seen.Kind.{Kind}
use Rattle.ob_table.specs.declared.seen.Kind.TheVariants.{Int, Bool as BoolKind, Text, Reference}
use Rattle.ob_table_spec.specs.Conditions.{IsClassTable, naming}
use Rattle.ob_table_spec.specs.WellFormed.{is_implemented, serves_as, is_reference}
use Rattle.ob_silica_places.specs.Converting.{said_up, said_down, converted, gotten}
use Rattle.ob_silica_places.specs.Known.{unowned_under}
use Rattle.ob_flow_spec.specs.Contexts.{is_asset}
use Rattle.ob_flow_spec.specs.Joining.{same_kind, same_mode}
use Rattle.ob_perm.proofs.StandsLemmas.{intersection_numbered, all_states_numbered}
use Rattle.ob_places_laws.specs.Serving.{Allows}
use Rattle.ob_places_laws.proofs.Sets.{image_at, image_among, preimage_among, intersection_among}
use Rattle.ob_places_laws.proofs.Permissions.{on_states_mode, same_mode_itself, same_mode_owns, same_mode_shares, same_mode_no_say}
use Rattle.ob_places_laws.proofs.Serves.{on_states_keeps, gotten_allows, fits_allowed, under_keeps}
use Rattle.ob_places_laws.proofs.Tables.{contract_is}
use Rattle.ob_places_laws.proofs.Interfaces.{same_contract, is_naming, implements_once, implemented_other, implemented_is, interface_is, seen_low}

-- Kinds.

pub same_kind_is : (k l : Kind) → same_kind k l ≡ true → k ≡ l
same_kind_is (Reference c) (Reference d) e = ap Reference (same_contract c d e)
same_kind_is (Reference c) Int e = absurd (true≢false (sym e))
same_kind_is (Reference c) BoolKind e = absurd (true≢false (sym e))
same_kind_is (Reference c) Text e = absurd (true≢false (sym e))
same_kind_is Int Int e = refl
same_kind_is Int (Reference d) e = absurd (true≢false (sym e))
same_kind_is Int BoolKind e = absurd (true≢false (sym e))
same_kind_is Int Text e = absurd (true≢false (sym e))
same_kind_is BoolKind BoolKind e = refl
same_kind_is BoolKind (Reference d) e = absurd (true≢false (sym e))
same_kind_is BoolKind Int e = absurd (true≢false (sym e))
same_kind_is BoolKind Text e = absurd (true≢false (sym e))
same_kind_is Text Text e = refl
same_kind_is Text (Reference d) e = absurd (true≢false (sym e))
same_kind_is Text Int e = absurd (true≢false (sym e))
same_kind_is Text BoolKind e = absurd (true≢false (sym e))

pub same_kind_itself : (k : Kind) → same_kind k k ≡ true
same_kind_itself Int = refl
same_kind_itself BoolKind = refl
same_kind_itself Text = refl
same_kind_itself (Reference c) = eq-eqb c.0 c.0 refl

-- What serves.

pub serves_itself : (table : ClassTable) (k : Kind) → serves_as table k k ≡ true
serves_itself table Int = refl
serves_itself table BoolKind = refl
serves_itself table Text = refl
serves_itself table (Reference c) = or_left (nat_eq c.0 c.0) (is_implemented table c c) (eq-eqb c.0 c.0 refl)

-- A reference serves for one to its contract, or to the interface that this implements.
pub serves_for_reference : (table : ClassTable) (i c : ContractId) → serves_as table (Reference i) (Reference c) ≡ true
    → (i ≡ c) ⊎ (is_implemented table c i ≡ true)
serves_for_reference table i c e = ⊎_elim
    (λ same. inl (same_contract i c same))
    (λ other. inr other)
    (or_cases (nat_eq i.0 c.0) (is_implemented table c i) e)

pub serves_implementing : (table : ClassTable) (i c : ContractId) → is_implemented table c i ≡ true
    → serves_as table (Reference i) (Reference c) ≡ true
serves_implementing table i c e = or_right (nat_eq i.0 c.0) (is_implemented table c i) e

-- Either both kinds are the same, or both are those of references and one contract implements the other.
pub serves_is : (table : ClassTable) (wanted has : Kind) → serves_as table wanted has ≡ true
    → (wanted ≡ has)
    ⊎ ((i : ContractId) × (c : ContractId) × (wanted ≡ Reference i) × (has ≡ Reference c)
    × (is_implemented table c i ≡ true))
serves_is table (Reference i) (Reference c) e = ⊎_elim
    (λ same. inl (ap Reference same))
    (λ other. inr (i, c, refl, refl, other))
    (serves_for_reference table i c e)
serves_is table (Reference i) Int e = absurd (true≢false (sym e))
serves_is table (Reference i) BoolKind e = absurd (true≢false (sym e))
serves_is table (Reference i) Text e = absurd (true≢false (sym e))
serves_is table Int Int e = inl refl
serves_is table Int (Reference c) e = absurd (true≢false (sym e))
serves_is table Int BoolKind e = absurd (true≢false (sym e))
serves_is table Int Text e = absurd (true≢false (sym e))
serves_is table BoolKind BoolKind e = inl refl
serves_is table BoolKind (Reference c) e = absurd (true≢false (sym e))
serves_is table BoolKind Int e = absurd (true≢false (sym e))
serves_is table BoolKind Text e = absurd (true≢false (sym e))
serves_is table Text Text e = inl refl
serves_is table Text (Reference c) e = absurd (true≢false (sym e))
serves_is table Text Int e = absurd (true≢false (sym e))
serves_is table Text BoolKind e = absurd (true≢false (sym e))

-- Where a reference is wanted a reference serves, and the other way round.
pub serves_reference : (table : ClassTable) (wanted has : Kind) → serves_as table wanted has ≡ true
    → is_reference wanted ≡ is_reference has
serves_reference table wanted has e = ⊎_elim
    (λ same. ap is_reference same)
    (λ other. ap is_reference other.2 ∙ sym (ap is_reference other.3))
    (serves_is table wanted has e)

-- Serving goes on, since what is implemented implements nothing.
pub serves_onward : (table : ClassTable) → IsClassTable table → (k l m : Kind) → serves_as table k l ≡ true
    → serves_as table l m ≡ true
    → serves_as table k m ≡ true
serves_onward table is k l m first second = ⊎_elim
    (λ same. subst (λ x. serves_as table x m ≡ true) (sym same) second)
    (λ up. ⊎_elim
    (λ same. subst (λ x. serves_as table k x ≡ true) same first)
    (λ next. absurd (twice up.0 up.1 next.0 next.1 (sym up.3 ∙ next.2) up.4 next.4))
    (serves_is table l m second))
    (serves_is table k l first)
  where
    twice : (i c j d : ContractId) → Reference c ≡ Reference j → is_implemented table c i ≡ true
        → is_implemented table d j ≡ true → ⊥
    twice i c j d e first second =
        let same : j ≡ c = cc in
        both_ways (is_implemented table c i)
        (implements_once table is d c i (subst (λ x. is_implemented table d x ≡ true) same second)) first

-- An asset implements an interface of assets alone.
pub serves_asset : (table : ClassTable) → IsClassTable table → (wanted has : Kind) → serves_as table wanted has ≡ true
    → is_asset table has ≡ true → is_asset table wanted ≡ true
serves_asset table is wanted has e h = ⊎_elim
    (λ same. ap (is_asset table) same ∙ h)
    (λ up. ap (is_asset table) up.2 ∙ of_interface up.0 up.1 up.4 (sym (ap (is_asset table) up.3) ∙ h))
    (serves_is table wanted has e)
  where
    here : (o : Option Contract) (x : Contract) → o ≡ Some x
        → option_map_or (λ (y : Contract). y.asset) o false ≡ x.asset
    here o x e = ap (λ z. option_map_or (λ (y : Contract). y.asset) z false) e

    of_interface : (i c : ContractId) → is_implemented table c i ≡ true → is_asset table (Reference c) ≡ true
        → is_asset table (Reference i) ≡ true
    of_interface i c e h =
        let own = implemented_is table c i e in
        let interface = interface_is table is c i own.0 own.1 e in
        here (contract_at table i) interface.0 interface.1
        ∙ interface.3.asset (sym (here (contract_at table c) own.0 own.1) ∙ h)

-- Permissions said for another kind.

-- f keeps the way in which an object is held
abbrev KeepsMode : (Permission → Permission) → Type 0
KeepsMode f = (p : Permission) → same_mode (f p) p ≡ true

-- what serves serves as f says it
abbrev KeepsServing : (Permission → Permission) → Type 0
KeepsServing f = (p q : Permission) → Allows p q → Allows (f p) (f q)

up_mode : (c i : Option Contract) → KeepsMode (said_up c i)
up_mode None i p = same_mode_itself p
up_mode (Some c) None p = same_mode_itself p
up_mode (Some c) (Some i) p = on_states_mode (states_for_interface (naming i c)) p

down_mode : (i c : Option Contract) → KeepsMode (said_down i c)
down_mode None c p = same_mode_itself p
down_mode (Some i) None p = same_mode_itself p
down_mode (Some i) (Some c) p = on_states_mode (states_for_contract (naming i c)) p

chosen_mode : (u v w : Bool) (up down : Permission → Permission) → KeepsMode up → KeepsMode down
    → KeepsMode (λ p. if u then p else if v then up p else if w then down p else p)
chosen_mode true v w up down hu hd p = same_mode_itself p
chosen_mode false true w up down hu hd p = hu p
chosen_mode false false true up down hu hd p = hd p
chosen_mode false false false up down hu hd p = same_mode_itself p

pub converted_mode : (table : ClassTable) (k l : Kind) (p : Permission) → same_mode (converted table k l p) p ≡ true
converted_mode table (Reference from) (Reference to) p =
    chosen_mode (nat_eq from.0 to.0) (is_implemented table from to) (is_implemented table to from)
    (said_up (contract_at table from) (contract_at table to))
    (said_down (contract_at table from) (contract_at table to))
    (up_mode (contract_at table from) (contract_at table to))
    (down_mode (contract_at table from) (contract_at table to)) p
converted_mode table (Reference from) Int p = same_mode_itself p
converted_mode table (Reference from) BoolKind p = same_mode_itself p
converted_mode table (Reference from) Text p = same_mode_itself p
converted_mode table Int l p = same_mode_itself p
converted_mode table BoolKind l p = same_mode_itself p
converted_mode table Text l p = same_mode_itself p

pub converted_owns : (table : ClassTable) (k l : Kind) (p : Permission) → owns (converted table k l p) ≡ owns p
converted_owns table k l p = same_mode_owns (converted table k l p) p (converted_mode table k l p)

pub converted_shares : (table : ClassTable) (k l : Kind) (p : Permission)
    → is_shared (converted table k l p) ≡ is_shared p
converted_shares table k l p = same_mode_shares (converted table k l p) p (converted_mode table k l p)

pub converted_no_say : (table : ClassTable) (k l : Kind) (p : Permission)
    → is_unowned (converted table k l p) ≡ is_unowned p
converted_no_say table k l p = same_mode_no_say (converted table k l p) p (converted_mode table k l p)

-- Said for its own kind a permission is itself.
pub converted_same : (table : ClassTable) (k : Kind) (p : Permission) → converted table k k p ≡ p
converted_same table (Reference c) p =
    cond-true (nat_eq c.0 c.0) p _ (eq-eqb c.0 c.0 refl)
converted_same table Int p = refl
converted_same table BoolKind p = refl
converted_same table Text p = refl

chosen_serving : (u v w : Bool) (up down : Permission → Permission) → KeepsServing up → KeepsServing down
    → KeepsServing (λ p. if u then p else if v then up p else if w then down p else p)
chosen_serving true v w up down hu hd p q h = h
chosen_serving false true w up down hu hd p q h = hu p q h
chosen_serving false false true up down hu hd p q h = hd p q h
chosen_serving false false false up down hu hd p q h = h

up_serving : (c i : Option Contract) → KeepsServing (said_up c i)
up_serving None i p q h = h
up_serving (Some c) None p q h = h
up_serving (Some c) (Some i) p q h =
    on_states_keeps (states_for_interface (naming i c)) (λ a b among. image_among (seen (naming i c)) b a among) p q h

down_serving : (i c : Option Contract) → ((x y : Contract) → i ≡ Some x → c ≡ Some y → IsNaming (naming x y))
    → KeepsServing (said_down i c)
down_serving None c low p q h = h
down_serving (Some i) None low p q h = h
down_serving (Some i) (Some c) low p q h =
    on_states_keeps (states_for_contract (naming i c)) (λ a b among.
    intersection_among (all_states (length (naming i c))) (preimage (seen (naming i c)) b)
    (preimage (seen (naming i c)) a)
    (preimage_among (seen (naming i c)) b a (seen_low (naming i c) (low i c refl refl)) among)) p q h

pub naming_in : (table : ClassTable) → IsClassTable table → (i c : ContractId) (x y : Contract)
    → contract_at table i ≡ Some x
    → contract_at table c ≡ Some y → IsNaming (naming x y)
naming_in table is i c x y ex ey =
    is_naming x y (contract_is table is i x ex).few_states (contract_is table is c y ey).few_states

-- What serves serves as it is said for another kind.
pub converted_keeps : (table : ClassTable) → IsClassTable table → (k l : Kind) (p q : Permission) → Allows p q
    → Allows (converted table k l p) (converted table k l q)
converted_keeps table is (Reference from) (Reference to) p q h =
    chosen_serving (nat_eq from.0 to.0) (is_implemented table from to) (is_implemented table to from)
    (said_up (contract_at table from) (contract_at table to))
    (said_down (contract_at table from) (contract_at table to))
    (up_serving (contract_at table from) (contract_at table to))
    (down_serving (contract_at table from) (contract_at table to) (naming_in table is from to)) p q h
converted_keeps table is (Reference from) Int p q h = h
converted_keeps table is (Reference from) BoolKind p q h = h
converted_keeps table is (Reference from) Text p q h = h
converted_keeps table is Int l p q h = h
converted_keeps table is BoolKind l p q h = h
converted_keeps table is Text l p q h = h

-- Said for the interface of its contract, and back.

pub converted_up : (table : ClassTable) → IsClassTable table
    → (c i : ContractId) (own interface : Contract) (p : Permission)
    → contract_at table c ≡ Some own → contract_at table i ≡ Some interface → is_implemented table c i ≡ true
    → converted table (Reference c) (Reference i) p ≡ for_interface (naming interface own) p
converted_up table is c i own interface p ec ei e =
    cond-false (nat_eq c.0 i.0) p _ (implemented_other table is c i e)
    ∙ cond-true (is_implemented table c i) (said_up (contract_at table c) (contract_at table i) p) _ e
    ∙ ap (λ o. said_up o (contract_at table i) p) ec ∙ ap (λ o. said_up (Some own) o p) ei

pub converted_down : (table : ClassTable) → IsClassTable table
    → (i c : ContractId) (interface own : Contract) (p : Permission)
    → contract_at table i ≡ Some interface → contract_at table c ≡ Some own → is_implemented table c i ≡ true
    → converted table (Reference i) (Reference c) p ≡ for_contract (naming interface own) p
converted_down table is i c interface own p ei ec e =
    cond-false (nat_eq i.0 c.0) p _ (other_way (implemented_other table is c i e))
    ∙ cond-false (is_implemented table i c) (said_up (contract_at table i) (contract_at table c) p) _
    (implements_once table is c i c e)
    ∙ cond-true (is_implemented table c i) (said_down (contract_at table i) (contract_at table c) p) p e
    ∙ ap (λ o. said_down o (contract_at table c) p) ei ∙ ap (λ o. said_down (Some interface) o p) ec
  where
    other_way : nat_eq c.0 i.0 ≡ false → nat_eq i.0 c.0 ≡ false
    other_way ne = false_from_ne_true (nat_eq i.0 c.0) (λ same.
        both_ways (nat_eq c.0 i.0) ne (eq-eqb c.0 i.0 (sym (eqb-true i.0 c.0 same))))

-- What is given.

-- What a place gets of a permission that counts, said for its kind, serves where its own is declared, if what is known
-- of the giver fits there.
pub given_serves : (table : ClassTable) → IsClassTable table → (k l : Kind) (s t p q w : Permission)
    → same_mode s t ≡ true
    → Allows p q → fits (converted table k l (unowned_under s p)) w ≡ true
    → Allows w (gotten w (converted table k l (unowned_under t q)))
given_serves table is k l s t p q w e h f =
    gotten_allows w (converted table k l (unowned_under t q))
    (fits_allowed (converted table k l (unowned_under s p)) (converted table k l (unowned_under t q)) w
    (converted_keeps table is k l (unowned_under s p) (unowned_under t q) (under_keeps s t p q e h)) f)

-- and the permission on the giver fits as well
pub given_fits : (table : ClassTable) → IsClassTable table → (k l : Kind) (s t p q w : Permission)
    → same_mode s t ≡ true
    → Allows p q → fits (converted table k l (unowned_under s p)) w ≡ true
    → fits (converted table k l (unowned_under t q)) w ≡ true
given_fits table is k l s t p q w e h f =
    fits_allowed (converted table k l (unowned_under s p)) (converted table k l (unowned_under t q)) w
    (converted_keeps table is k l (unowned_under s p) (unowned_under t q) (under_keeps s t p q e h)) f

-- Numbers of states.

-- f says permissions with numbers by permissions with numbers
abbrev KeepsNumbers : (Permission → Permission) → Type 0
KeepsNumbers f = (p : Permission) → IsNumberedPermission p → IsNumberedPermission (f p)

chosen_numbered : (u v w : Bool) (up down : Permission → Permission) → KeepsNumbers up → KeepsNumbers down
    → KeepsNumbers (λ p. if u then p else if v then up p else if w then down p else p)
chosen_numbered true v w up down hu hd p h = h
chosen_numbered false true w up down hu hd p h = hu p h
chosen_numbered false false true up down hu hd p h = hd p h
chosen_numbered false false false up down hu hd p h = h

image_numbered : (names : Names) (a : States) → IsNaming names → IsNumbered (image (seen names) a)
image_numbered names a is i e =
    let some = image_at (seen names) a i e in subst (λ n. n < states_max) (sym some.3) (seen_low names is some.0)

pub for_interface_numbered : (names : Names) (p : Permission) → IsNaming names
    → IsNumberedPermission (for_interface names p)
for_interface_numbered names (owned a) is = image_numbered names a is
for_interface_numbered names shared is = tt
for_interface_numbered names unowned is = tt

pub for_contract_numbered : (names : Names) (p : Permission) → IsNaming names
    → IsNumberedPermission (for_contract names p)
for_contract_numbered names (owned a) is =
    intersection_numbered (all_states (length names)) (preimage (seen names) a)
    (all_states_numbered (length names) is.of_contract)
for_contract_numbered names shared is = tt
for_contract_numbered names unowned is = tt

up_numbered : (c i : Option Contract) → ((x y : Contract) → c ≡ Some x → i ≡ Some y → IsNaming (naming y x))
    → KeepsNumbers (said_up c i)
up_numbered None i low p h = h
up_numbered (Some c) None low p h = h
up_numbered (Some c) (Some i) low p h = for_interface_numbered (naming i c) p (low c i refl refl)

down_numbered : (i c : Option Contract) → ((x y : Contract) → i ≡ Some x → c ≡ Some y → IsNaming (naming x y))
    → KeepsNumbers (said_down i c)
down_numbered None c low p h = h
down_numbered (Some i) None low p h = h
down_numbered (Some i) (Some c) low p h = for_contract_numbered (naming i c) p (low i c refl refl)

-- Said for another kind a permission still speaks of states that have numbers.
pub converted_numbered : (table : ClassTable) → IsClassTable table → (k l : Kind) (p : Permission)
    → IsNumberedPermission p
    → IsNumberedPermission (converted table k l p)
converted_numbered table is (Reference from) (Reference to) p h =
    chosen_numbered (nat_eq from.0 to.0) (is_implemented table from to) (is_implemented table to from)
    (said_up (contract_at table from) (contract_at table to))
    (said_down (contract_at table from) (contract_at table to))
    (up_numbered (contract_at table from) (contract_at table to) (λ x y ex ey. naming_in table is to from y x ey ex))
    (down_numbered (contract_at table from) (contract_at table to) (naming_in table is from to)) p h
converted_numbered table is (Reference from) Int p h = h
converted_numbered table is (Reference from) BoolKind p h = h
converted_numbered table is (Reference from) Text p h = h
converted_numbered table is Int l p h = h
converted_numbered table is BoolKind l p h = h
converted_numbered table is Text l p h = h
