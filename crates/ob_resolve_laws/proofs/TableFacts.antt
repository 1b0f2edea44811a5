-- The table of a program without faults.
use Rattle.std.proofs.Common.{◌≡◌, ℕ, suc, ◌+◌, ◌≤◌, Bool, true, false, List, [], ◌∷◌, ◌++◌, map, length, Option, Some, None, refl, sym, ap, subst, arith, ◌∙◌, cond}
use Rattle.std.specs.Prelude.{option_map, option_and_then, slice_get, IsTrue, IsSomeAnd, IfSome, if◌then◌else◌}
use Rattle.std.specs.Option.{option_map_or}
use Rattle.std.specs.List.{flat_map, filter, All}
use Rattle.std.proofs.lemmas.List.{length-map}
use Rattle.std.proofs.lemmas.List.Sums.{length-filter}
use Rattle.std.proofs.lemmas.List.Elements.{All-from_recursion, recursion_from_All}
use Rattle.ob_base.specs.Limits.{most_contracts, most_states, most_fields, most_transactions}
use Rattle.ob_base.specs.Names.{is_name}
use Rattle.ob_base.specs.declared.id.ContractId.{ContractId}
use Rattle.ob_table.specs.declared.contract.Contract.{Contract as TableContract}
use Rattle.ob_table.specs.declared.contract.Signature.{Signature}
use Rattle.ob_tree.specs.Names.{Named}
use Rattle.ob_tree.specs.Members.{Member, state_member, field_member, constructor_member, transaction_member, Contract}
use Rattle.ob_tree.specs.declared.name.NamePart.{NamePart}
use Rattle.ob_table_spec.specs.Names.{Name, in_order_after, firsts}
use Rattle.ob_resolve_spec.specs.Declarations.{Program, contract_name, part_of_named, number_of_contract, declared_contract, states_of_member, states_of, state_names, fields_of, transactions_of, constructors_of}
use Rattle.ob_resolve_spec.specs.Kinds.{interface_named, interface_of}
use Rattle.ob_resolve_spec.specs.Sites.{is_main, names_thing, implements_interface}
use Rattle.ob_resolve_spec.specs.Visible.{an_interface, visible_in}
use Rattle.ob_resolve_spec.specs.TypeSites.{declared_sites, limit_sites}
use Rattle.ob_resolve_spec.specs.MemberSites.{member_sites, declaration_sites, interface_sites, contract_sites, main_sites, sites_of}
use Rattle.ob_resolve_spec.specs.Interfaces.{meets}
use Rattle.ob_resolve_spec.specs.TableOf.{field_in_table, transaction_in_table, contract_in_table, table_of}
use Rattle.ob_table_spec.specs.Conditions.{AreDistinct, IsField, IsTransaction, MeetsInterface, IsContract, IsClassTable}
use Rattle.ob_resolve_spec.specs.Shape.{HasMemberShape, HasContractShape, HasShape}
use Rattle.ob_resolve_laws.proofs.Each.{Each, each_left, each_right, each_map, each_of_flat_map, each_flat_map, each_weaker, each_at}
use Rattle.ob_resolve_laws.proofs.Clean.{Clean}
use Rattle.ob_resolve_laws.proofs.NameFacts.{declared_distinct, all_firsts, within_limit}
use Rattle.ob_resolve_laws.proofs.TypeFacts.{true_from_not, some_and, in_table}
use Rattle.ob_resolve_laws.proofs.FieldFacts.{fields_are}
use Rattle.ob_resolve_laws.proofs.TransactionFacts.{has_constructor, transactions_are, heads_are, in_contract}
use Rattle.ob_resolve_laws.proofs.HeldFacts.{first_of_name}
use Rattle.ob_resolve_laws.proofs.MeetsFacts.{meets_in_table}

map_map : {A B C : Type 0} (g : B → C) (f : A → B) (xs : List A) → map g (map f xs) ≡ map (λ x. g (f x)) xs
map_map g f [] = refl
map_map g f (x ∷ xs) = ap (λ ys. g (f x) ∷ ys) (map_map g f xs)

-- What a contract declares.

pub record DeclaredWell (own : Contract) : Type 0 where
  pub states : Each Clean (declared_sites (λ (s : NamePart). s) [] (states_of own))
  pub few_states : Each Clean (limit_sites (λ (s : NamePart). s) most_states (states_of own))
  pub fields : Each Clean (declared_sites (λ f. f.field.name) [] (fields_of own))
  pub few_fields : Each Clean (limit_sites (λ f. f.field.name) most_fields (fields_of own))
  pub transactions : Each Clean (declared_sites (λ t. t.name) [] (transactions_of own))
  pub few_transactions : Each Clean (limit_sites (λ t. t.name) most_transactions (transactions_of own))

pub declared_well : (own : Contract) → Each Clean (declaration_sites own) → DeclaredWell own
declared_well own h =
    let S = declared_sites (λ (s : NamePart). s) [] (states_of own) in
    let S' = limit_sites (λ (s : NamePart). s) most_states (states_of own) in
    let F = declared_sites (λ f. f.field.name) [] (fields_of own) in
    let F' = limit_sites (λ f. f.field.name) most_fields (fields_of own) in
    let C = declared_sites (λ m. part_of_named m.of) [] (constructors_of own) in
    let T = declared_sites (λ t. t.name) [] (transactions_of own) in
    let T' = limit_sites (λ t. t.name) most_transactions (transactions_of own) in
    let six = each_left Clean (S ++ S' ++ F ++ F' ++ C ++ T) T' h in
    let five = each_left Clean (S ++ S' ++ F ++ F' ++ C) T six in
    let four = each_left Clean (S ++ S' ++ F ++ F') C five in
    let three = each_left Clean (S ++ S' ++ F) F' four in
    let two = each_left Clean (S ++ S') F three in
    record {
      states = each_left Clean S S' two;
      few_states = each_right Clean S S' two;
      fields = each_right Clean (S ++ S') F three;
      few_fields = each_right Clean (S ++ S' ++ F) F' four;
      transactions = each_right Clean (S ++ S' ++ F ++ F' ++ C) T six;
      few_transactions = each_right Clean (S ++ S' ++ F ++ F' ++ C ++ T) T' h;
    }

-- a contract whose sites have no fault
pub record Sound (program : Program) (own : Contract) : Type 0 where
  pub declared : DeclaredWell own
  pub interface : Each Clean (interface_sites program own)
  pub members : Each Clean (flat_map (member_sites program own) own.members)

pub sound : (program : Program) (own : Contract) → Each Clean (contract_sites program own) → Sound program own
sound program own h =
    let D = declaration_sites own in
    let I = interface_sites program own in
    let M = flat_map (member_sites program own) own.members in
    let two = each_left Clean (D ++ I) M h in
    record {
      declared = declared_well own (each_left Clean D I two);
      interface = each_right Clean D I two;
      members =
          each_right Clean (D ++ I) M h;
    }

pub few_states : (own : Contract) → DeclaredWell own → length (state_names own) ≤ most_states
few_states own d =
    subst (λ n. n ≤ most_states) (sym (length-map (states_of own) (λ (s : NamePart). s.name)))
    (within_limit (λ (s : NamePart). s) [] most_states (states_of own) d.states d.few_states)

-- Interfaces.

interface_is : (program : Program) (name : Name) (n : ℕ) → interface_named program name ≡ Some n
    → (i : Contract) × (declared_contract program n ≡ Some i) × (i.interface ≡ true)
interface_is program name n e = at (number_of_contract program name) refl e
  where
    inner : (m : ℕ) (o : Option Contract) → declared_contract program m ≡ o
        → (if option_map_or (λ c. c.interface) o false then Some m else None) ≡ Some n
        → (i : Contract) × (declared_contract program n ≡ Some i) × (i.interface ≡ true)
    inner m None f e = absurd cc
    inner m (Some i) f e = by i.interface refl e
      where
        by : (b : Bool) → i.interface ≡ b → (if b then Some m else None) ≡ Some n
            → (i : Contract) × (declared_contract program n ≡ Some i) × (i.interface ≡ true)
        by true g e = let s : m ≡ n = cc in (i, ap (declared_contract program) (sym s) ∙ f, g)
        by false g e = absurd cc

    at : (o : Option ℕ) → number_of_contract program name ≡ o
        → (if option_map_or (λ c. c.interface) (option_and_then (declared_contract program) o) false then o else None)
        ≡ Some n → (i : Contract) × (declared_contract program n ≡ Some i) × (i.interface ≡ true)
    at None f e = absurd cc
    at (Some m) f e = inner m (declared_contract program m) refl e

pub implemented : (program : Program) (own : Contract) (n : ℕ) → interface_of program own ≡ Some n
    → (i : Contract) × (declared_contract program n ≡ Some i) × (i.interface ≡ true)
implemented program own n e = at own.implements e
  where
    at : (o : Option Named) → option_and_then (λ named. interface_named program (part_of_named named).name) o ≡ Some n
        → (i : Contract) × (declared_contract program n ≡ Some i) × (i.interface ≡ true)
    at None e = absurd cc
    at (Some named) e = interface_is program (part_of_named named).name n e

-- what implements an interface is none
no_interface : (program : Program) (own : Contract) (n : ℕ) → HasContractShape own → interface_of program own ≡ Some n
    → own.interface ≡ false
no_interface program own n shape e = at own.interface refl
  where
    at : (b : Bool) → own.interface ≡ b → b ≡ false
    at true h =
        let none : own.implements ≡ None = (shape.interface h).1 in
        let f : interface_of program own ≡ None =
        ap (option_and_then (λ named. interface_named program (part_of_named named).name)) none in absurd (cc)
    at false h = refl

meets_site : (program : Program) (own : Contract) (n : ℕ) (i : Contract) → interface_of program own ≡ Some n
    → declared_contract program n ≡ Some i → Each Clean (interface_sites program own) → meets program i own ≡ true
meets_site program own n i e f h =
    let second = each_right Clean (option_map_or
    (λ named. names_thing an_interface (visible_in program own) (part_of_named named) ∷ []) own.implements [])
    (option_map_or (λ interface. implements_interface program interface own own.span ∷ [])
    (option_and_then (declared_contract program) (interface_of program own)) []) h in
    let site : Each Clean (implements_interface program i own own.span ∷ []) = rw (e, f) at second in
    true_from_not (meets program i own) site.0.interface_mismatch

all_transactions_first : (own : Contract) → DeclaredWell own
    → firsts (λ t. t.name.name) (transactions_of own) ≡ transactions_of own
all_transactions_first own d = all_firsts (λ t. t.name) [] (transactions_of own) d.transactions

implements_well : (program : Program) (own : Contract) (o : Option ℕ) → interface_of program own ≡ o
    → AreDistinct (map (λ c. c.name) program) → Each (Sound program) program → Each HasContractShape program
    → (k : ℕ) → declared_contract program k ≡ Some own
    → IfSome (option_map (λ n. record { 0 = n }) o)
    (λ (id : ContractId). IsSomeAnd (slice_get (map (contract_in_table program) program) id.0)
    (λ i. (i.interface ≡ true) × MeetsInterface i (contract_in_table program own)))
implements_well program own None e distinct all shapes k at = tt
implements_well program own (Some n) e distinct all shapes k at =
    let i = implemented program own n e in
    let own_sound = each_at (Sound program) program k own all at in
    let i_sound = each_at (Sound program) program n i.0 all i.1 in
    let is_contract = no_interface program own n (each_at HasContractShape program k own shapes at) e in
    some_and _ (contract_in_table program i.0) _ (in_table program n i.0 i.1) (
      i.2,
      meets_in_table program i.0 own (first_of_name program distinct n i.0 i.1).1
          (first_of_name program distinct k own at).1 i.2 is_contract
          (few_states own own_sound.declared) (few_states i.0 i_sound.declared)
          (all_transactions_first i.0 i_sound.declared)
          (heads_are program i.0 i_sound.members) (heads_are program own own_sound.members)
          (meets_site program own n i.0 e i.1 own_sound.interface),
    )

-- Contracts.

state_forms : (own : Contract) → Each (HasMemberShape own.interface) own.members
    → Each (λ (x : Name). IsTrue (is_name x)) (state_names own)
state_forms own h =
    each_map _ (λ (s : NamePart). s.name) (states_of own)
    (each_flat_map _ states_of_member own.members (each_weaker _ _ of_member own.members h))
  where
    of_member : (m : Member) → HasMemberShape own.interface m
        → Each (λ (s : NamePart). IsTrue (is_name s.name)) (states_of_member m)
    of_member (state_member name fields span) h = (h.0, tt)
    of_member (field_member field) h = tt
    of_member (constructor_member of perm params body span) h = tt
    of_member (transaction_member private listed name params result body span) h = tt

contract_is : (program : Program) (own : Contract) → AreDistinct (map (λ c. c.name) program)
    → Each (Sound program) program → Each HasContractShape program → (k : ℕ) → declared_contract program k ≡ Some own
    → IsContract (table_of program) (contract_in_table program own)
contract_is program own distinct all shapes k at =
    let s = each_at (Sound program) program k own all at in
    let shape = each_at HasContractShape program k own shapes at in
    let members = recursion_from_All (HasMemberShape own.interface) own.members shape.members in
    let few = few_states own s.declared in
    let inside = in_contract program own in
    record {
      name = shape.name_form;
      few_states = few;
      state_names = All-from_recursion _ (state_names own) (state_forms own members);
      distinct_states = declared_distinct (λ (s : NamePart). s) [] (states_of own) s.declared.states;
      few_fields = subst (λ n. n ≤ most_fields) (sym (length-map (fields_of own) (field_in_table program own)))
          (within_limit (λ f. f.field.name) [] most_fields (fields_of own) s.declared.fields s.declared.few_fields);
      fields = All-from_recursion (IsField (table_of program) (contract_in_table program own))
          (map (field_in_table program own) (fields_of own)) (fields_are program own few members s.members);
      distinct_fields = subst AreDistinct (sym (map_map (λ f. f.name) (field_in_table program own) (fields_of own)))
          (declared_distinct (λ f. f.field.name) [] (fields_of own) s.declared.fields);
      few_transactions = subst (λ (ts : List _). length ts ≤ most_transactions) (sym inside)
          (subst (λ n. n ≤ most_transactions) (sym (length-map (transactions_of own)
          (transaction_in_table program own))) (within_limit (λ t. t.name) [] most_transactions (transactions_of
          own) s.declared.transactions s.declared.few_transactions));
      transactions = subst (All (IsTransaction (table_of program) (contract_in_table program own))) (sym inside)
          (All-from_recursion (IsTransaction (table_of program) (contract_in_table program own))
          (map (transaction_in_table program own) (transactions_of own))
          (transactions_are program own members s.members));
      distinct_transactions = subst (λ (ts : List Signature). AreDistinct (map (λ s. s.name) ts)) (sym inside)
          (subst AreDistinct (sym (map_map (λ (s : Signature). s.name) (transaction_in_table program own)
          (transactions_of own))) (declared_distinct (λ t. t.name) [] (transactions_of own)
          s.declared.transactions));
      constructor = has_constructor program own s.members;
      interface = λ h. (
        (shape.interface h).0,
        ap (option_map (λ n. record { 0 = n }))
            (ap (option_and_then (λ named. interface_named program (part_of_named named).name)) (shape.interface h).1),
      );
      implements = implements_well program own (interface_of program own) refl distinct all shapes k at;
    }

-- Tables.

placed_from : (program xs : List Contract) (before : ℕ) → ((n : ℕ) → slice_get program (before + n) ≡ slice_get xs n)
    → Each (λ c. (k : ℕ) × (declared_contract program k ≡ Some c)) xs
placed_from program [] before h = tt
placed_from program (c ∷ xs) before h =
    let e : before + 0 ≡ before = omega arith in (
      (before, ap (slice_get program) (sym e) ∙ h 0),
      placed_from program xs (suc before) (λ n. let f : suc before + n
          ≡ before + suc n = omega arith in ap (slice_get program) f ∙ h (suc n)),
    )

-- each contract has a place
pub placed : (program : Program) → Each (λ c. (k : ℕ) × (declared_contract program k ≡ Some c)) program
placed program = placed_from program program 0 (λ n. let e : 0 + n ≡ n = omega arith in ap (slice_get program) e)

one_at_most : (ms : List Contract) → Each Clean (in_order_after (λ before c. is_main before c.span ∷ []) [] ms)
    → length ms ≤ 1
one_at_most [] h = omega arith
one_at_most (a ∷ []) h = omega arith
one_at_most (a ∷ b ∷ ms) h = let e = h.1.0.second_main in absurd (cc)

length-filter_map : {A B : Type 0} (test : B → Bool) (f : A → B) (xs : List A)
    → length (filter test (map f xs)) ≡ length (filter (λ x. test (f x)) xs)
length-filter_map test f [] = refl
length-filter_map test f (x ∷ xs) = at (test (f x)) (length-filter_map test f xs)
  where
    at : (b : Bool) → length (filter test (map f xs)) ≡ length (filter (λ x. test (f x)) xs)
        → length (cond b (f x ∷ filter test (map f xs)) (filter test (map f xs)))
        ≡ length (cond b (x ∷ filter (λ x. test (f x)) xs) (filter (λ x. test (f x)) xs))
    at true e = ap suc e
    at false e = e

-- contracts have distinct names, and no faults of their own
pub record Clear (program : Program) : Type 0 where
  pub distinct : AreDistinct (map (λ c. c.name) program)
  pub all : Each (Sound program) program

pub clear_program : (program : Program) → Each Clean (sites_of program) → Clear program
clear_program program h =
    let D = declared_sites contract_name [] program in
    let L = limit_sites contract_name most_contracts program in
    let M = main_sites program in
    let C = flat_map (contract_sites program) program in
    let d = each_left Clean D L (each_left Clean (D ++ L) M (each_left Clean (D ++ L ++ M) C h)) in
    record {
      distinct = declared_distinct contract_name [] program d;
      all = each_weaker _ (Sound program) (sound program) program
          (each_of_flat_map Clean (contract_sites program) program (each_right Clean (D ++ L ++ M) C h));
    }

-- the table of a program without faults meets the conditions
pub table_is : (program : Program) → HasShape program → Each Clean (sites_of program) → IsClassTable (table_of program)
table_is program shape h =
    let D = declared_sites contract_name [] program in
    let L = limit_sites contract_name most_contracts program in
    let M = main_sites program in
    let C = flat_map (contract_sites program) program in
    let dlm = each_left Clean (D ++ L ++ M) C h in
    let dl = each_left Clean (D ++ L) M dlm in
    let d = each_left Clean D L dl in
    let clear = clear_program program h in
    let distinct = clear.distinct in
    let all = clear.all in
    let shapes = recursion_from_All HasContractShape program shape in
    record {
      few = subst (λ n. n ≤ most_contracts) (sym (length-map program (contract_in_table program)))
          (within_limit contract_name [] most_contracts program d (each_right Clean D L dl));
      distinct = subst AreDistinct (sym (map_map (λ (c : TableContract). c.name) (contract_in_table program) program))
          distinct;
      contracts = All-from_recursion (IsContract (table_of program)) (map (contract_in_table program) program)
          (each_map _ (contract_in_table program) program
          (each_weaker _ _ (λ c k. contract_is program c distinct all shapes k.0 k.1) program (placed program)));
      one_main =
          let e = length-filter (λ (c : TableContract). c.main) (map (contract_in_table program) program) in
          let f = length-filter_map (λ (c : TableContract). c.main) (contract_in_table program) program in
          let g = one_at_most (filter (λ c. c.main) program) (each_right Clean (D ++ L) M dlm) in
          omega (arith, e, f, g);
    }
