-- A program matches itself, and its stores stay what they are.
use Rattle.std.proofs.Common.{◌≡◌, ◌∙◌, ⊎_elim, ℕ, zero, suc, ◌+◌, ◌<◌, Bool, true, false, not, cond, List, [], ◌∷◌, length, Option, Some, None, IsSomeAnd, IfSome, refl, sym, ap, subst, arith, lt-ltb}
use Rattle.std.proofs.lemmas.Bool.{and_from, cases_Bool}
use Rattle.std.proofs.lemmas.Bool.Decides.{Decides-eqb}
use Rattle.std.proofs.lemmas.Option.{slice_get_within, same_Some}
use Rattle.std.specs.Prelude.{◌&&◌, nat_eq, slice_get, option_map, bytes_eq, IsTrue}
use Rattle.std.specs.Cmp.Lexicographic.{pointwise, pointwise_decides, bytes_decides}
use Rattle.std.specs.List.{position_or_len}
use Rattle.ob_base.specs.declared.id.ContractId.{ContractId}
use Rattle.ob_base.specs.declared.permission.Mode.{Mode}
use Rattle.ob_base.specs.declared.permission.Mode.TheVariants.{Owned, Shared, Unowned}
use Rattle.ob_base.specs.declared.permission.Perm.{Perm}
use Rattle.ob_table.specs.Tables.{ClassTable, contract_at, contract_id, contract_named}
use Rattle.ob_table.specs.declared.contract.Contract.{Contract}
use Rattle.ob_table.specs.declared.contract.Field.{Field}
use Rattle.ob_table.specs.declared.contract.ResolvedType.{ResolvedType}
use Rattle.ob_table.specs.declared.contract.ResolvedType.TheVariants.{Int, Bool as BoolKind, Text, Reference}
use Rattle.ob_table_spec.specs.Conditions.{IsType, IsField, IsContract, IsClassTable, IsPermOn, MeetsInterface}
use Rattle.ob_table_spec.specs.Names.{same}
use Rattle.ob_heap_spec.proofs.Items.{item_of}
use Rattle.ob_heap_spec.specs.Operations.{same_truth}
use Rattle.ob_upgrade_spec.specs.Matching.{is_same_mode, is_same_perm, have_one_name, is_same_type, is_same_field, is_same_interface, are_marked_alike, is_same_contract, DeclaresSame, GoesOn}
use Rattle.ob_upgrade_laws.specs.Laws.{ProgramsMatchThemselves}
use Rattle.ob_upgrade_laws.proofs.Kept.{same_is, one_number}

-- Each test holds of a thing and itself.

same_self : (a : List ℕ) → same a a ≡ true
same_self a = (bytes_decides a a).1 refl

truth_self : (b : Bool) → same_truth b b ≡ true
truth_self true = refl
truth_self false = refl

mode_self : (m : Mode) → is_same_mode m m ≡ true
mode_self Owned = refl
mode_self Shared = refl
mode_self Unowned = refl

perm_self : (p : Perm) → is_same_perm p p ≡ true
perm_self p = and_from (is_same_mode p.mode p.mode) (nat_eq p.states p.states) (mode_self p.mode) ((Decides-eqb p.states p.states).1 refl)

name_self : (P : Contract → Type 0) (r : Option Contract) → IsSomeAnd r P → have_one_name r r ≡ true
name_self P None is = absurd is
name_self P (Some c) is = same_self c.name

type_self : (table : ClassTable) (t : ResolvedType) → IsType table t → is_same_type table table t t ≡ true
type_self table Int is = refl
type_self table BoolKind is = refl
type_self table Text is = refl
type_self table (Reference id p) is =
    and_from (have_one_name (contract_at table id) (contract_at table id)) (is_same_perm p p)
    (name_self (λ c. IsPermOn c p) (contract_at table id) is) (perm_self p)

field_self : (table : ClassTable) (f : Field) → IsType table f.of → is_same_field table table f f ≡ true
field_self table f is =
    and_from (same f.name f.name && is_same_type table table f.of f.of) (nat_eq f.available f.available)
    (and_from (same f.name f.name) (is_same_type table table f.of f.of) (same_self f.name) (type_self table f.of is))
    ((Decides-eqb f.available f.available).1 refl)

fields_self : (table : ClassTable) (fs : List Field) → ((k : ℕ) (f : Field) → slice_get fs k ≡ Some f → IsType table f.of)
    → pointwise (is_same_field table table) fs fs ≡ true
fields_self table [] each = refl
fields_self table (f ∷ fs) each =
    and_from (is_same_field table table f f) (pointwise (is_same_field table table) fs fs)
    (field_self table f (each 0 f refl)) (fields_self table fs (λ k g at. each (suc k) g at))

interface_self : (table : ClassTable) (c : Contract) (i : Option ContractId)
    → IfSome i (λ id. IsSomeAnd (contract_at table id) (λ interface. (interface.interface ≡ true) × MeetsInterface interface c))
    → is_same_interface table table i i ≡ true
interface_self table c None is = refl
interface_self table c (Some id) is =
    name_self (λ interface. (interface.interface ≡ true) × MeetsInterface interface c) (contract_at table id) is

contract_self : (table : ClassTable) (c : Contract) → IsContract table c → is_same_contract table table c c ≡ true
contract_self table c is =
    let name = same c.name c.name in
    let marks = are_marked_alike c c in
    let implements = is_same_interface table table c.implements c.implements in
    let states = pointwise same c.states c.states in
    let fields = pointwise (is_same_field table table) c.fields c.fields in
    let marked = and_from (same_truth c.asset c.asset && same_truth c.main c.main) (same_truth c.interface c.interface)
    (and_from (same_truth c.asset c.asset) (same_truth c.main c.main) (truth_self c.asset) (truth_self c.main)) (truth_self c.interface) in
    and_from (name && marks && implements && states) fields
    (and_from (name && marks && implements) states
    (and_from (name && marks) implements (and_from name marks (same_self c.name) marked) (interface_self table c c.implements is.implements))
    ((pointwise_decides bytes_decides c.states c.states).1 refl))
    (fields_self table c.fields (λ k f at. (item_of (IsField table c) c.fields is.fields k f at).kind))

-- The first contract of a name.

-- where an item passes a test, the first that does is one
record First {A : Type 0} (p : A → Bool) (xs : List A) : Type 0 where
  item : A
  there : slice_get xs (position_or_len p xs) ≡ Some item
  passes : p item ≡ true

module _ {A : Type 0} (p : A → Bool) where
  first_here : (y : A) (xs : List A) → p y ≡ true → First p (y ∷ xs)
  first_here y xs e = record {
    item = y;
    there = ap (slice_get (y ∷ xs)) (ap (λ b. cond (not b) (1 + position_or_len p xs) 0) e);
    passes = e;
  }

  first_later : (y : A) (xs : List A) → p y ≡ false → First p xs → First p (y ∷ xs)
  first_later y xs e found =
      let place : position_or_len p (y ∷ xs) ≡ suc (position_or_len p xs) =
      ap (λ b. cond (not b) (1 + position_or_len p xs) 0) e ∙ omega arith in
      record { item = found.item; there = ap (slice_get (y ∷ xs)) place ∙ found.there; passes = found.passes }

  first : (xs : List A) (n : ℕ) (x : A) → slice_get xs n ≡ Some x → p x ≡ true → First p xs
  first [] n x at passes = absurd cc
  first (y ∷ xs) zero x at passes = first_here y xs (ap p (same_Some y x at) ∙ passes)
  first (y ∷ xs) (suc n) x at passes =
      ⊎_elim (first_here y xs) (λ e. first_later y xs e (first xs n x at passes)) (cases_Bool (p y))

named_self : (table : ClassTable) → IsClassTable table → (n : ℕ) (c : Contract) → contract_at table (contract_id n) ≡ Some c
    → contract_named table.contracts c.name ≡ Some (contract_id n)
named_self table is n c at =
    let p : Contract → Bool = (λ d. bytes_eq c.name d.name) in
    let found = first p table.contracts n c at (same_self c.name) in
    let k = position_or_len p table.contracts in
    let within = slice_get_within table.contracts k found.item found.there in
    let one : k ≡ n = one_number table is.distinct (contract_id k) (contract_id n) found.item c found.there at
    (sym (same_is c.name found.item.name found.passes)) in
    ap (λ (b : Bool). option_map contract_id (cond b (Some k) None)) (lt-ltb k (length table.contracts) within)
    ∙ ap (λ m. Some (contract_id m)) one

goes_itself : (table : ClassTable) → IsClassTable table → (n : ℕ) (c : Contract) → contract_at table (contract_id n) ≡ Some c → GoesOn table table n
goes_itself table is n c at =
    let contract = item_of (IsContract table) table.contracts is.contracts n c at in
    subst (λ (r : Option Contract). IsSomeAnd r (λ c. IsSomeAnd (contract_named table.contracts c.name) (DeclaresSame table table c))) (sym at)
    (subst (λ (r : Option ContractId). IsSomeAnd r (DeclaresSame table table c)) (sym (named_self table is n c at))
    (subst (λ (r : Option Contract). IsSomeAnd r (λ d. IsTrue (is_same_contract table table c d))) (sym at) (contract_self table c contract)))

-- the contract of a low number
there : (cs : List Contract) (n : ℕ) → n < length cs → (c : Contract) × (slice_get cs n ≡ Some c)
there [] n low = absurd (omega (arith, low))
there (c ∷ cs) zero low = (c, refl)
there (c ∷ cs) (suc n) low = there cs n (omega (arith, low))

pub match_itself : ProgramsMatchThemselves
match_itself table is n low = let found = there table.contracts n low in goes_itself table is n found.0 found.1
