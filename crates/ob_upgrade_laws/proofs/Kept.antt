-- What is known of the contracts of programs that match.
use Rattle.std.proofs.Common.{◌≡◌, ◌∙◌, ⊎_elim, ℕ, ◌<◌, Bool, true, false, true≢false, List, [], Option, Some, None, map, refl, sym, ap, subst, arith}
use Rattle.std.specs.Prelude.{◌&&◌, nat_eq, get_or, option_map, IsTrue, IsSomeAnd}
use Rattle.std.specs.Cmp.Lexicographic.{pointwise, pointwise_decides, bytes_decides}
use Rattle.std.specs.Option.{option_and_then}
use Rattle.std.proofs.lemmas.Bool.{and_parts, cases_lt}
use Rattle.std.proofs.lemmas.Bool.Decides.{Decides-eqb}
use Rattle.std.proofs.lemmas.List.{length-map}
use Rattle.std.proofs.lemmas.Option.{slice_get-map, slice_get_within, get_or_from_slice_get, same_Some}
use Rattle.ob_base.specs.declared.id.ContractId.{ContractId}
use Rattle.ob_base.specs.declared.permission.Mode.{Mode}
use Rattle.ob_base.specs.declared.permission.Mode.TheVariants.{Owned, Shared, Unowned}
use Rattle.ob_base.specs.declared.permission.Perm.{Perm}
use Rattle.ob_table.specs.Tables.{ClassTable, contract_at, contract_named}
use Rattle.ob_table.specs.declared.contract.Contract.{Contract}
use Rattle.ob_table_spec.specs.Names.{same}
use Rattle.ob_heap_spec.specs.Operations.{same_truth}
use Rattle.ob_upgrade_spec.specs.Matching.{is_same_mode, is_same_perm, have_one_name, is_same_field, is_same_interface, are_marked_alike, is_same_contract, DeclaresSame, Match}
use Rattle.ob_upgrade_spec.specs.Upgraded.{or_else, namesake}
use Rattle.ob_upgrade_laws.specs.Laws.{NamesOnce}

-- Tests that decide equality.

pub same_is : (a b : List ℕ) → same a b ≡ true → a ≡ b
same_is a b = (bytes_decides a b).0

truth_is : (a b : Bool) → same_truth a b ≡ true → a ≡ b
truth_is true true h = refl
truth_is true false h = absurd (true≢false (sym h))
truth_is false true h = absurd (true≢false (sym h))
truth_is false false h = refl

mode_is : (a b : Mode) → is_same_mode a b ≡ true → a ≡ b
mode_is Owned Owned h = refl
mode_is Owned Shared h = absurd (true≢false (sym h))
mode_is Owned Unowned h = absurd (true≢false (sym h))
mode_is Shared Owned h = absurd (true≢false (sym h))
mode_is Shared Shared h = refl
mode_is Shared Unowned h = absurd (true≢false (sym h))
mode_is Unowned Owned h = absurd (true≢false (sym h))
mode_is Unowned Shared h = absurd (true≢false (sym h))
mode_is Unowned Unowned h = refl

pub perm_is : (p q : Perm) → is_same_perm p q ≡ true → p ≡ q
perm_is p q h =
    let parts = and_parts (is_same_mode p.mode q.mode) (nat_eq p.states q.states) h in
    let mode = mode_is p.mode q.mode parts.0 in
    let states = (Decides-eqb p.states q.states).0 parts.1 in
    (λ i. record { mode = mode i; states = states i })

-- two contracts that declare the same
pub record Alike (old new : ClassTable) (c d : Contract) : Type 0 where
  pub name : c.name ≡ d.name
  pub asset : c.asset ≡ d.asset
  pub interface : c.interface ≡ d.interface
  pub implements : is_same_interface old new c.implements d.implements ≡ true
  pub states : c.states ≡ d.states
  pub fields : pointwise (is_same_field old new) c.fields d.fields ≡ true

are_alike : (old new : ClassTable) (c d : Contract) → is_same_contract old new c d ≡ true → Alike old new c d
are_alike old new c d h =
    let name = same c.name d.name in
    let marks = are_marked_alike c d in
    let implements = is_same_interface old new c.implements d.implements in
    let states = pointwise same c.states d.states in
    let fields = pointwise (is_same_field old new) c.fields d.fields in
    let with_fields = and_parts (name && marks && implements && states) fields h in
    let with_states = and_parts (name && marks && implements) states with_fields.0 in
    let with_implements = and_parts (name && marks) implements with_states.0 in
    let with_marks = and_parts name marks with_implements.0 in
    let of_interface = and_parts (same_truth c.asset d.asset && same_truth c.main d.main) (same_truth c.interface d.interface) with_marks.1 in
    record {
      name = same_is c.name d.name with_marks.0;
      asset = truth_is c.asset d.asset (and_parts (same_truth c.asset d.asset) (same_truth c.main d.main) of_interface.0).0;
      interface = truth_is c.interface d.interface of_interface.1;
      implements = with_implements.1;
      states = (pointwise_decides bytes_decides c.states d.states).0 with_states.1;
      fields = with_fields.1;
    }

-- the namesake of an old contract is there, and declares the same
pub record Kept (old new : ClassTable) (id : ContractId) (c : Contract) : Type 0 where
  pub contract : Contract
  pub there : contract_at new (namesake old new id) ≡ Some contract
  pub same : is_same_contract old new c contract ≡ true
  pub alike : Alike old new c contract

-- what is known of an old contract holds of the namesake
kept_at : (old new : ClassTable) (id : ContractId) (c : Contract) (r : Option Contract)
    → IsSomeAnd r (λ d. IsTrue (is_same_contract old new c d)) → contract_at new (namesake old new id) ≡ r → Kept old new id c
kept_at old new id c None same is = absurd same
kept_at old new id c (Some d) same is = record { contract = d; there = is; same = same; alike = are_alike old new c d same }

kept_by : (old new : ClassTable) (id : ContractId) (c : Contract) (r : Option ContractId) → IsSomeAnd r (DeclaresSame old new c)
    → namesake old new id ≡ or_else r id → Kept old new id c
kept_by old new id c None same named = absurd same
kept_by old new id c (Some there) same named = kept_at old new id c (contract_at new there) same (ap (contract_at new) named)

pub kept : (old new : ClassTable) → Match old new → (id : ContractId) (c : Contract) → contract_at old id ≡ Some c → Kept old new id c
kept old new match id c is =
    kept_by old new id c (contract_named new.contracts c.name)
    (subst (λ (o : Option Contract). IsSomeAnd o (λ c. IsSomeAnd (contract_named new.contracts c.name) (DeclaresSame old new c))) is
    (match id.0 (slice_get_within old.contracts id.0 c is)))
    (ap (λ (o : Option Contract). or_else (option_and_then (λ c. contract_named new.contracts c.name) o) id) is)

-- Contracts of one name are one, where no two have one name.

name_read : (table : ClassTable) (id : ContractId) (c : Contract) → contract_at table id ≡ Some c
    → get_or (map (λ (c : Contract). c.name) table.contracts) id.0 [] ≡ c.name
name_read table id c is =
    get_or_from_slice_get (map (λ (c : Contract). c.name) table.contracts) id.0 c.name []
    (slice_get-map (λ (c : Contract). c.name) table.contracts id.0 ∙ ap (option_map (λ (c : Contract). c.name)) is)

never_below : (table : ClassTable) → NamesOnce table → (a b : ContractId) (c d : Contract) → contract_at table a ≡ Some c
    → contract_at table b ≡ Some d → c.name ≡ d.name → a.0 < b.0 → ⊥
never_below table once a b c d at_a at_b one below =
    once a.0 b.0 [] below (omega (arith, length-map table.contracts (λ (c : Contract). c.name), slice_get_within table.contracts b.0 d at_b))
    (name_read table a c at_a ∙ one ∙ sym (name_read table b d at_b))

pub one_number : (table : ClassTable) → NamesOnce table → (a b : ContractId) (c d : Contract) → contract_at table a ≡ Some c
    → contract_at table b ≡ Some d → c.name ≡ d.name → a.0 ≡ b.0
one_number table once a b c d at_a at_b one =
    ⊎_elim (λ below. absurd (never_below table once a b c d at_a at_b one below))
    (λ from. ⊎_elim (λ above. absurd (never_below table once b a d c at_b at_a (sym one) above)) (λ to. omega (arith, from, to)) (cases_lt b.0 a.0))
    (cases_lt a.0 b.0)

pub one_id : (a b : ContractId) → a.0 ≡ b.0 → a ≡ b
one_id a b e = (λ i. record { 0 = e i })

module _ (old new : ClassTable) (match : Match old new) (once_old : NamesOnce old) (once_new : NamesOnce new) where
  -- an old contract that is there
  abbrev pub Known : ContractId → Type 0
  Known id = (c : Contract) × (contract_at old id ≡ Some c)

  -- where an old contract and a new one have one name, the new one is the namesake
  pub namesake_is : (a b : ContractId) → have_one_name (contract_at old a) (contract_at new b) ≡ true → Known a × (b ≡ namesake old new a)
  namesake_is a b h = by (contract_at old a) (contract_at new b) refl refl h
    where
      by : (p q : Option Contract) → contract_at old a ≡ p → contract_at new b ≡ q → have_one_name p q ≡ true → Known a × (b ≡ namesake old new a)
      by None None is_a is_b h = absurd (true≢false (sym h))
      by None (Some d) is_a is_b h = absurd (true≢false (sym h))
      by (Some c) None is_a is_b h = absurd (true≢false (sym h))
      by (Some c) (Some d) is_a is_b h =
          let k = kept old new match a c is_a in (
            (c, is_a),
            one_id b (namesake old new a)
                (one_number new once_new b (namesake old new a) d k.contract is_b k.there (sym (same_is c.name d.name h) ∙ k.alike.name)),
          )

  -- different contracts have different namesakes
  namesakes_one : (a b : ContractId) → Known a → Known b → namesake old new a ≡ namesake old new b → a.0 ≡ b.0
  namesakes_one a b is_a is_b e =
      let k = kept old new match a is_a.0 is_a.1 in
      let l = kept old new match b is_b.0 is_b.1 in
      let one : k.contract ≡ l.contract = same_Some k.contract l.contract (sym k.there ∙ ap (contract_at new) e ∙ l.there) in
      one_number old once_old a b is_a.0 is_b.0 is_a.1 is_b.1 (k.alike.name ∙ ap (λ (c : Contract). c.name) one ∙ sym l.alike.name)

  pub namesakes_differ : (a b : ContractId) → Known a → Known b → nat_eq (namesake old new a).0 (namesake old new b).0 ≡ nat_eq a.0 b.0
  namesakes_differ a b is_a is_b =
      by (nat_eq (namesake old new a).0 (namesake old new b).0) (nat_eq a.0 b.0)
      (λ h. (Decides-eqb a.0 b.0).1 (namesakes_one a b is_a is_b
      (one_id (namesake old new a) (namesake old new b) ((Decides-eqb (namesake old new a).0 (namesake old new b).0).0 h))))
      (λ h. (Decides-eqb (namesake old new a).0 (namesake old new b).0).1
      (ap (λ (id : ContractId). (namesake old new id).0) (one_id a b ((Decides-eqb a.0 b.0).0 h))))
    where
      by : (s t : Bool) → (s ≡ true → t ≡ true) → (t ≡ true → s ≡ true) → s ≡ t
      by true true f g = refl
      by true false f g = sym (f refl)
      by false true f g = g refl
      by false false f g = refl
