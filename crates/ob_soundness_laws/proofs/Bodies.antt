-- The body that a request enters, and what the class table says of it.
use Rattle.std.proofs.Common.{◌≡◌, ℕ, zero, suc, Bool, true, false, List, [], ◌∷◌, drop, Option, Some, None, refl, sym, ap, subst, ◌∙◌}
use Rattle.std.specs.Prelude.{slice_get, bytes_eq, get_or, All, IsSomeAnd, IsTrue, MatchBool, option_map, if◌then◌else◌}
use Rattle.std.specs.Option.{option_and_then}
use Rattle.std.specs.List.{position}
use Rattle.std.proofs.lemmas.Option.{same_Some, get_or_from_slice_get}
use Rattle.std.proofs.lemmas.List.Quantifiers.{position-Some}
use Rattle.ob_base.specs.declared.id.TxId.{TxId}
use Rattle.ob_base.specs.Names.{is_label}
use Rattle.ob_table.specs.Tables.{ClassTable, contract_at, signature_at}
use Rattle.ob_table.specs.declared.contract.Contract.{Contract}
use Rattle.ob_table.specs.declared.contract.Signature.{Signature}
use Rattle.ob_table_spec.specs.Conditions.{IsClassTable, IsContract, IsConstructor, IsTransaction, IsParam, MayLeave}
use Rattle.ob_heap_spec.specs.Contents.{Content, IsObjectOf, IsObject}
use Rattle.ob_places_laws.proofs.Tables.{each_at, contract_is}
use Rattle.ob_rest_spec.specs.AtRest.{IsStoreAtRest}
use Rattle.ob_invocation_spec.specs.Entries.{HandleUse, Entry, used_as_receiver}
use Rattle.ob_soundness_laws.specs.Requests.{IsEntered, by_request_new, by_request_call, EntersNew, EntersCall}
use Rattle.ob_soundness_laws.proofs.Entries.{enters_new, enters_call}

-- The body that is entered: of a class of the table, with its signature, whose permissions may follow one another.
pub record EntersBody (table : ClassTable) (e : Entry) : Type 0 where
  pub own : Contract
  pub is_own : contract_at table e.contract ≡ Some own
  pub class : own.interface ≡ false
  pub signature : signature_at own e.tx ≡ Some e.signature
  pub params : All (IsParam table) e.signature.params
  pub leaves : (u : HandleUse) → e.receiver ≡ Some u → MayLeave u.entry u.exit

module _ (table : ClassTable) (made : IsClassTable table) where
  -- the constructor stands first
  first_is : (c : Contract) → IsContract table c → c.interface ≡ false → (s : Signature) → slice_get c.transactions 0 ≡ Some s
      → IsConstructor table c s
  first_is c law class s at = subst (λ (x : Option Signature). IsSomeAnd x (IsConstructor table c)) at
      (subst (λ (b : Bool). MatchBool b (c.constructor ≡ None) ((c.constructor ≡ Some (record { 0 = 0 }))
      × IsSomeAnd (slice_get c.transactions 0) (IsConstructor table c))) class law.constructor).1

  -- and transactions after it
  later_is : (c : Contract) → IsContract table c → c.interface ≡ false → (n : ℕ) (s : Signature)
      → slice_get c.transactions (suc n) ≡ Some s → IsTransaction table c s
  later_is c law class n s at = each_at (IsTransaction table c) (drop 1 c.transactions) n s
      (subst (λ (b : Bool). All (IsTransaction table c) (if b then c.transactions else drop 1 c.transactions)) class law.transactions)
      (later c.transactions at)
    where
      later : (xs : List Signature) → slice_get xs (suc n) ≡ Some s → slice_get (drop 1 xs) n ≡ Some s
      later [] e = absurd cc
      later (x ∷ xs) e = e

  new_body : (e : Entry) → EntersNew table e → EntersBody table e
  new_body e n = go (contract_at table e.contract) refl
    where
      go : (x : Option Contract) → contract_at table e.contract ≡ x → EntersBody table e
      go None is = absurd (let z : ◌≡◌ {A = Option Signature} None (Some e.signature) =
          ap (option_and_then (λ (c : Contract). if c.interface then None else slice_get c.transactions 0)) (sym is) ∙ n.constructor in cc)
      go (Some c) is = by_kind c.interface refl
        where
          told : (if c.interface then None else slice_get c.transactions 0) ≡ Some e.signature
          told = ap (option_and_then (λ (c : Contract). if c.interface then None else slice_get c.transactions 0)) (sym is) ∙ n.constructor

          by_kind : (b : Bool) → c.interface ≡ b → EntersBody table e
          by_kind true i = absurd (let z = rw i at told in cc)
          by_kind false i =
              let at : slice_get c.transactions 0 ≡ Some e.signature =
              ap (λ (b : Bool). if b then None else slice_get c.transactions 0) (sym i) ∙ told in
              record {
                own = c;
                is_own = is;
                class = i;
                signature = ap (signature_at c) n.tx ∙ at;
                params = (first_is c (contract_is table made e.contract c is) i e.signature at).signature.params;
                leaves = λ u r. absurd (let z : ◌≡◌ {A = Option HandleUse} None (Some u) = sym n.receiver ∙ r in cc);
              }

  call_body : (content : Content) → IsStoreAtRest table content → (e : Entry) → EntersCall table content e → EntersBody table e
  call_body content rests e n = by_number e.tx.0 refl
    where
      of_class : IsObject table content.objects n.object
      of_class = each_at (IsObject table content.objects) content.objects n.handle.object n.object rests.is_content.objects n.there

      class : n.own.interface ≡ false
      class = (subst (λ (x : Option Contract). IsSomeAnd x (λ c. IsObjectOf content.objects c n.object))
          (ap (contract_at table) n.contract ∙ n.is_own) of_class).contract

      law : IsContract table n.own
      law = contract_is table made e.contract n.own n.is_own

      -- the constructor has no name that may be asked
      not_first : e.tx.0 ≡ 0 → ⊥
      not_first z = named_empty (position (λ (s : Signature). bytes_eq n.asked s.name) n.own.transactions) refl n.named
        where
          first : slice_get n.own.transactions 0 ≡ Some e.signature
          first = ap (slice_get n.own.transactions) (sym z) ∙ n.signature

          empty : e.signature.name ≡ []
          empty = (first_is n.own law class e.signature first).name

          no_label : (xs : List ℕ) → bytes_eq xs [] ≡ true → IsTrue (is_label xs) → ⊥
          no_label [] same label = absurd (let z : false ≡ true = label in cc)
          no_label (x ∷ xs) same label = absurd (let z : false ≡ true = same in cc)

          named_empty : (x : Option ℕ) → position (λ (s : Signature). bytes_eq n.asked s.name) n.own.transactions ≡ x
              → option_map (λ n. record { 0 = n }) x ≡ Some e.tx → ⊥
          named_empty None at is = absurd (let w = is in cc)
          named_empty (Some m) at is =
              let p = position-Some (λ (s : Signature). bytes_eq n.asked s.name) n.own.transactions m e.signature at in
              let zero : m ≡ 0 = ap (λ (t : TxId). t.0) (same_Some (record { 0 = m }) e.tx is) ∙ z in
              let found : get_or n.own.transactions m e.signature ≡ e.signature =
              get_or_from_slice_get n.own.transactions m e.signature e.signature (ap (slice_get n.own.transactions) zero ∙ first) in
              no_label n.asked (ap (bytes_eq n.asked) (sym empty) ∙ ap (λ (s : Signature). bytes_eq n.asked s.name) (sym found) ∙ p.1) n.label

      -- who uses the handle of the receiver
      used : (u : HandleUse) → e.receiver ≡ Some u → (u.entry ≡ e.signature.entry) × (u.exit ≡ e.signature.exit)
      used u r = let z : Some (used_as_receiver n.name n.handle e.contract e.signature) ≡ Some u = sym n.receiver ∙ r in
          let y = same_Some (used_as_receiver n.name n.handle e.contract e.signature) u z in
          (ap (λ (v : HandleUse). v.entry) (sym y), ap (λ (v : HandleUse). v.exit) (sym y))

      by_number : (m : ℕ) → e.tx.0 ≡ m → EntersBody table e
      by_number zero z = absurd (not_first z)
      by_number (suc m) z =
          let t = later_is n.own law class m e.signature (ap (slice_get n.own.transactions) (sym z) ∙ n.signature) in
          record {
            own = n.own;
            is_own = n.is_own;
            class = class;
            signature = n.signature;
            params = t.signature.params;
            leaves = λ u r. let s = used u r in subst (λ p. MayLeave p u.exit) (sym s.0) (subst (MayLeave e.signature.entry) (sym s.1) t.exit_may_follow);
          }

-- the body of what is entered
pub entered_body : (table : ClassTable) → IsClassTable table → (content : Content) → IsStoreAtRest table content → (e : Entry)
    → IsEntered table content e → EntersBody table e
entered_body table made content rests e (by_request_new who r labels is passed within) =
    new_body table made e (enters_new table content e who r is)
entered_body table made content rests e (by_request_call who r labels is passed within) =
    call_body table made content rests e (enters_call table content e who r labels is)
