-- A contract and the interface that it implements.
use Rattle.std.proofs.Common.{◌≡◌, ℕ, suc, ◌<◌, ◌≤◌, Bool, true, false, cond, List, [], ◌∷◌, length, get_or, Option, Some, None, refl, sym, ap, subst, ◌∙◌, arith, eqb-true, eq-eqb, true≢false, lit<}
use Rattle.std.specs.Bool.{◌==◌}
use Rattle.std.specs.Prelude.{option_map, slice_get, nat_eq, IsSomeAnd, IfSome}
use Rattle.std.specs.Option.{option_map_or, option_flatten}
use Rattle.std.proofs.lemmas.List.{length-map}
use Rattle.std.proofs.lemmas.List.Elements.{All-map}
use Rattle.std.proofs.lemmas.Bool.{both_ways, false_from_ne_true, cond_both}
use Rattle.ob_base.specs.declared.id.ContractId.{ContractId}
use Rattle.ob_base.specs.declared.id.StateId.{StateId}
use Rattle.ob_perm.specs.States.{stateless, unnamed, states_max}
use Rattle.ob_perm.specs.Naming.{Names, IsNaming, called_in_interface, seen}
use Rattle.ob_table.specs.Tables.{ClassTable, contract_at}
use Rattle.ob_table.specs.declared.contract.Contract.{Contract}
use Rattle.ob_table_spec.specs.Names.{Name, same, number_of}
use Rattle.ob_table_spec.specs.Conditions.{IsClassTable, MeetsInterface, naming}
use Rattle.ob_table_spec.specs.WellFormed.{is_implemented}
use Rattle.ob_places_laws.proofs.Tables.{there_is, contract_is, if_there_so, each_at}

-- Numbers.

pub contract_number : (a b : ContractId) → a.0 ≡ b.0 → a ≡ b
contract_number a b e = ap (λ n. record { 0 = n }) e

pub same_contract : (a b : ContractId) → nat_eq a.0 b.0 ≡ true → a ≡ b
same_contract a b e = contract_number a b (eqb-true a.0 b.0 e)

-- Names of states.

-- a number of a name is below how many there are
abbrev below : ℕ → Option ℕ → Type 0
below n o = IfSome o (λ k. k < n)

below_suc : (n : ℕ) (o : Option ℕ) → below n o → below (suc n) (option_map suc o)
below_suc n None h = h
below_suc n (Some k) h = omega (arith, h)

first_or : (n : ℕ) (o : Option ℕ) (b : Bool) → below n o → below (suc n) (cond b (Some 0) (option_map suc o))
first_or n o true h = omega arith
first_or n o false h = below_suc n o h

number_below : (name : Name) (xs : List Name) → below (length xs) (number_of name xs)
number_below name [] = tt
number_below name (x ∷ xs) = first_or (length xs) (number_of name xs) (same name x) (number_below name xs)

numbered_below : (n : ℕ) (o : Option ℕ) → n ≤ 32 → below n o
    → IfSome (option_map (λ k. record { 0 = k }) o) (λ (s : StateId). s.0 < 32)
numbered_below n None few h = tt
numbered_below n (Some k) few h = omega (arith, h)

-- The states of a contract by name are a naming, since there are at most 32 on either side.
pub is_naming : (interface c : Contract) → length interface.states ≤ 32 → length c.states ≤ 32
    → IsNaming (naming interface c)
is_naming interface c few own = record {
  of_contract = rw length-map own;
  of_interface = All-map (λ (name : Option StateId). IfSome name (λ k. k.0 < 32)) _ c.states
      (λ k d h. numbered_below (length interface.states) (number_of (get_or c.states k d) interface.states) few
      (number_below (get_or c.states k d) interface.states));
}

pub naming_length : (interface c : Contract) → length (naming interface c) ≡ length c.states
naming_length interface c = length-map c.states _

-- what a name that is found, or not, denotes
abbrev named : Option (Option StateId) → ℕ
named name = option_map_or (λ (k : StateId). k.0) (option_flatten name) unnamed

named_low : (name : Option (Option StateId)) → ((x : Option StateId) → name ≡ Some x → IfSome x (λ k. k.0 < 32))
    → named name < 34
named_low None low = lit< tt
named_low (Some None) low = lit< tt
named_low (Some (Some k)) low = omega (arith, low (Some k) refl)

-- What an interface sees of a state is one of its own, no state or any other.
pub seen_low : (names : Names) → IsNaming names → (s : ℕ) → seen names s < states_max
unfolding states_max
seen_low names is s = cond_both (s == stateless) stateless (called_in_interface names s) (λ n. n < 34) (λ none. lit< tt)
    (λ some. named_low (slice_get names s) (λ x found.
    each_at (λ name. IfSome name (λ k. k.0 < 32)) names s x is.of_interface found))

-- Implementing.

pub implemented_is : (table : ClassTable) (c i : ContractId) → is_implemented table c i ≡ true
    → (own : Contract) × (contract_at table c ≡ Some own) × (own.implements ≡ Some i)
implemented_is table c i e = at (contract_at table c) refl e
  where
    names_it : (o : Option ContractId) → option_map_or (λ (k : ContractId). nat_eq i.0 k.0) o false ≡ true → o ≡ Some i
    names_it None e = absurd (true≢false (sym e))
    names_it (Some k) e = ap Some (sym (same_contract i k e))

    at : (o : Option Contract) → contract_at table c ≡ o
        → option_map_or (λ found. option_map_or
        (λ (k : ContractId). nat_eq i.0 k.0) found.implements false) o false ≡ true
        → (own : Contract) × (contract_at table c ≡ Some own) × (own.implements ≡ Some i)
    at None eo e = absurd (true≢false (sym e))
    at (Some own) eo e = (own, eo, names_it own.implements e)

pub implemented_from : (table : ClassTable) (c i : ContractId) (own : Contract) → contract_at table c ≡ Some own
    → own.implements ≡ Some i
    → is_implemented table c i ≡ true
implemented_from table c i own ec ei =
    ap (λ o. option_map_or (λ found. option_map_or
    (λ (k : ContractId). nat_eq i.0 k.0) found.implements false) o false) ec
    ∙ ap (λ o. option_map_or (λ (k : ContractId). nat_eq i.0 k.0) o false) ei
    ∙ eq-eqb i.0 i.0 refl

-- A contract implements one interface at most.
pub implements_one : (table : ClassTable) (c i j : ContractId) → is_implemented table c i ≡ true
    → is_implemented table c j ≡ true → i ≡ j
implements_one table c i j first second =
    let one = implemented_is table c i first in
    let two = implemented_is table c j second in
    same_one (sym one.1 ∙ two.1) one.2 two.2
  where
    same_one : {a b : Contract} → Some a ≡ Some b → a.implements ≡ Some i → b.implements ≡ Some j → i ≡ j
    same_one e x y = cc

-- What is implemented is an interface, and the contract has what it asks.
pub interface_is : (table : ClassTable) → IsClassTable table → (c i : ContractId) (own : Contract)
    → contract_at table c ≡ Some own
    → is_implemented table c i ≡ true
    → (interface : Contract) × (contract_at table i ≡ Some interface) × (interface.interface ≡ true)
    × MeetsInterface interface own
interface_is table is c i own ec e =
    let found = implemented_is table c i e in
    let names : own.implements ≡ Some i = same_one (sym ec ∙ found.1) found.2 in
    let there = there_is (contract_at table i) (λ x. (x.interface ≡ true) × MeetsInterface x own)
    (if_there_so own.implements (λ id. IsSomeAnd (contract_at table id)
    (λ x. (x.interface ≡ true) × MeetsInterface x own)) i names (contract_is table is c own ec).implements) in
    (there.0, there.1, there.2.0, there.2.1)
  where
    same_one : {a b : Contract} → Some a ≡ Some b → b.implements ≡ Some i → a.implements ≡ Some i
    same_one e x = cc

-- An interface implements nothing.
pub interface_implements_none : (table : ClassTable) → IsClassTable table → (i j : ContractId) (x : Contract)
    → contract_at table i ≡ Some x
    → x.interface ≡ true → is_implemented table i j ≡ false
interface_implements_none table is i j x ex plain = false_from_ne_true (is_implemented table i j) (λ e.
    let found = implemented_is table i j e in
    never (sym ex ∙ found.1) found.2 ((contract_is table is i x ex).interface plain).1)
  where
    never : {a b : Contract} → Some a ≡ Some b → b.implements ≡ Some j → a.implements ≡ None → ⊥
    never e y z = cc

-- So nothing is implemented twice over.
pub implements_once : (table : ClassTable) → IsClassTable table → (c i j : ContractId) → is_implemented table c i ≡ true
    → is_implemented table i j ≡ false
implements_once table is c i j e =
    let own = implemented_is table c i e in
    let interface = interface_is table is c i own.0 own.1 e in
    interface_implements_none table is i j interface.0 interface.1 interface.2

-- A contract that implements an interface is none.
pub implementing_plain : (table : ClassTable) → IsClassTable table → (c i : ContractId) (own : Contract)
    → contract_at table c ≡ Some own
    → is_implemented table c i ≡ true → own.interface ≡ false
implementing_plain table is c i own ec e = false_from_ne_true own.interface (λ x.
    both_ways (is_implemented table c i) (interface_implements_none table is c i own ec x) e)

-- and is another than its interface
pub implemented_other : (table : ClassTable) → IsClassTable table → (c i : ContractId) → is_implemented table c i ≡ true
    → nat_eq c.0 i.0 ≡ false
implemented_other table is c i e = false_from_ne_true (nat_eq c.0 i.0) (λ same.
    both_ways (is_implemented table c i)
    (subst (λ x. is_implemented table x i ≡ false) (sym (same_contract c i same)) (implements_once table is c i i e)) e)
