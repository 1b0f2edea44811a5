-- What a contract of a class table runs for a transaction of its interface has the same parameters and result.
use Rattle.std.proofs.Common.{◌≡◌, ◌≢◌, ℕ, zero, suc, ◌<◌, Bool, true, false, List, [], ◌∷◌, map, length, drop, Option, Some, None, refl, sym, ap, ◌∙◌, subst, arith, eqb-true, true≢false, ◌⊎◌, inl, inr, cond}
use Rattle.std.proofs.lemmas.Option.{get_or_from_slice_get, slice_get-get_or}
use Rattle.std.proofs.lemmas.List.Sums.{passes_at_first}
use Rattle.std.proofs.lemmas.Slice.Eq.{bytes_eq-Decides}
use Rattle.std.specs.Prelude.{option_map, option_and_then, slice_get, slice_index_or, nat_eq, nat_lt, ◌==◌, position, bytes_eq, IsTrue, IsSomeAnd, IfSome, MatchBool, All, Contains, if◌then◌else◌}
use Rattle.std.specs.Option.{option_map_or}
use Rattle.std.specs.List.{position_or_len}
use Rattle.ob_base.specs.Names.{is_name}
use Rattle.ob_base.specs.declared.id.ContractId.{ContractId}
use Rattle.ob_base.specs.declared.id.TxId.{TxId}
use Rattle.ob_table.specs.Tables.{ClassTable, contract_at, signature_at, signature_of}
use Rattle.ob_table.specs.declared.contract.Contract.{Contract}
use Rattle.ob_table.specs.declared.contract.Signature.{Signature}
use Rattle.ob_table_spec.specs.Conditions.{IsClassTable, IsContract, IsTransaction, IsConstructor, transactions_in, MeetsInterface, AnswersInterface, asked_of, AreDistinct}
use Rattle.ob_heap_spec.specs.Dispatch.{implements_it, transaction_named}
use Rattle.ob_lower_correct.proofs.Standing.{none_some, some_same}
use Rattle.ob_lower_correct.proofs.Changes.{same_or}
use Rattle.ob_lower_correct.proofs.Expressions.{called_so}
use Rattle.ob_lower_correct.proofs.CallsObject.{Agrees}

-- Lists.

within : {A : Type 0} (xs : List A) (n : ℕ) (x : A) → slice_get xs n ≡ Some x → n < length xs
within [] n x e = absurd (none_some e)
within (y ∷ xs) zero x e = omega arith
within (y ∷ xs) (suc n) x e = let r = within xs n x e in omega (arith, r)

below_or : (a b : ℕ) → a ≢ b → (a < b) ⊎ (b < a)
below_or zero zero d = absurd (d refl)
below_or zero (suc b) d = inl (omega arith)
below_or (suc a) zero d = inr (omega arith)
below_or (suc a) (suc b) d = one_more (below_or a b (λ e. d (ap suc e)))
  where
    one_more : (a < b) ⊎ (b < a) → (suc a < suc b) ⊎ (suc b < suc a)
    one_more (inl l) = inl (omega (arith, l))
    one_more (inr l) = inr (omega (arith, l))

get_map : {A B : Type 0} (f : A → B) (xs : List A) (n : ℕ) (x : A) → slice_get xs n ≡ Some x → slice_get (map f xs) n ≡ Some (f x)
get_map f [] n x e = absurd (none_some e)
get_map f (y ∷ xs) zero x e = ap (option_map f) e
get_map f (y ∷ xs) (suc n) x e = get_map f xs n x e

map_within : {A B : Type 0} (f : A → B) (xs : List A) → length (map f xs) ≡ length xs
map_within f [] = refl
map_within f (x ∷ xs) = ap suc (map_within f xs)

all_at : {A : Type 0} (P : A → Type 0) (xs : List A) (n : ℕ) (x : A) → All P xs → slice_get xs n ≡ Some x → P x
all_at P xs n x all e = subst P (get_or_from_slice_get xs n x x e) (all n x (within xs n x e))

-- of distinct names each stands once
once : (xs : List Signature) (i j : ℕ) (x y : Signature) → AreDistinct (map (λ s. s.name) xs) → slice_get xs i ≡ Some x → slice_get xs j ≡ Some y → x.name ≡ y.name → x ≡ y
once xs i j x y distinct ei ej same = by_number (same_or i j)
  where
    apart : (a b : ℕ) (u v : Signature) → a < b → slice_get xs a ≡ Some u → slice_get xs b ≡ Some v → u.name ≡ v.name → ⊥
    apart a b u v lt ea eb e =
        distinct a b u.name lt (subst (λ n. b < n) (sym (map_within (λ (s : Signature). s.name) xs)) (within xs b v eb))
        (get_or_from_slice_get (map (λ (s : Signature). s.name) xs) a u.name u.name (get_map (λ s. s.name) xs a u ea) ∙ e
        ∙ sym (get_or_from_slice_get (map (λ (s : Signature). s.name) xs) b v.name u.name (get_map (λ s. s.name) xs b v eb)))

    by_order : (i < j) ⊎ (j < i) → x ≡ y
    by_order (inl lt) = absurd (apart i j x y lt ei ej same)
    by_order (inr lt) = absurd (apart j i y x lt ej ei (sym same))

    by_number : (i ≡ j) ⊎ (i ≢ j) → x ≡ y
    by_number (inl e) = some_same x y (sym ei ∙ ap (slice_get xs) e ∙ ej)
    by_number (inr d) = by_order (below_or i j d)

-- the first that passes does
first_passes : {A : Type 0} (p : A → Bool) (xs : List A) (n : ℕ) (x : A) → position p xs ≡ Some n → slice_get xs n ≡ Some x → p x ≡ true
first_passes p xs n x e ex = by_found (nat_lt (position_or_len p xs) (length xs)) e
  where
    by_found : (b : Bool) → cond b (Some (position_or_len p xs)) None ≡ Some n → p x ≡ true
    by_found false e = absurd (none_some e)
    by_found true e =
        let same : position_or_len p xs ≡ n = some_same (position_or_len p xs) n e in
        ap p (sym (get_or_from_slice_get xs (position_or_len p xs) x x (ap (slice_get xs) same ∙ ex)))
        ∙ passes_at_first p xs x (subst (λ i. i < length xs) (sym same) (within xs n x ex))

-- Contracts.

contract_id_is : (a b : ContractId) → nat_eq a.0 b.0 ≡ true → a ≡ b
contract_id_is a b e = ap (λ n. record { 0 = n }) (eqb-true a.0 b.0 e)

implemented_is : (declared : ContractId) (o : Option ContractId) → option_map_or (λ (id : ContractId). declared.0 == id.0) o false ≡ true → o ≡ Some declared
implemented_is declared None e = absurd (true≢false (sym e))
implemented_is declared (Some id) e = ap Some (sym (contract_id_is declared id e))

named_is : (o : Option ℕ) (t : TxId) → option_map (λ n. record { 0 = n }) o ≡ Some t → o ≡ Some t.0
named_is None t e = absurd (none_some e)
named_is (Some n) t e = ap (λ z. option_map (λ (x : TxId). x.0) z) e

module _ (table : ClassTable) (conditions : IsClassTable table) where
  -- a contract that implements an interface is none
  is_no_interface : (own : Contract) (b : Bool) → own.interface ≡ b → IsContract table own → (id : ContractId) → own.implements ≡ Some id → own.interface ≡ false
  is_no_interface own false eb c id ei = eb
  is_no_interface own true eb c id ei = absurd (none_some (sym (c.interface eb).1 ∙ ei))

  no_name : (name : List ℕ) → name ≡ [] → IsTrue (is_name name) → ⊥
  no_name name e t = true≢false (sym (sym (ap is_name e) ∙ t))

  -- the transaction of a name is the one that answers
  answers_by : (own : Contract) (ts : List Signature) (s g : Signature) (n k : ℕ) → IsSomeAnd (slice_get ts 0) (IsConstructor table own) → All (IsTransaction table own) (drop 1 ts) → AreDistinct (map (λ s. s.name) (drop 1 ts))
      → slice_get (drop 1 ts) k ≡ Some s → slice_get ts n ≡ Some g → s.name ≡ g.name → g ≡ s
  answers_by own [] s g n k first all distinct es eg same = absurd (none_some eg)
  answers_by own (c ∷ ts) s g zero k first all distinct es eg same =
      absurd (no_name s.name (same ∙ ap (λ (x : Signature). x.name) (sym (some_same c g eg)) ∙ first.name) (all_at (IsTransaction table own) ts k s all es).name)
  answers_by own (c ∷ ts) s g (suc n) k first all distinct es eg same = once ts n k g s distinct eg es (sym same)

  implementing : (declared : ContractId) (tx : TxId) (asked : Signature) (contract : ContractId) (own : Contract) (t : TxId) (g : Signature) → contract_at table contract ≡ Some own → signature_of table declared tx ≡ Some asked
      → implements_it declared own ≡ true → transaction_named own asked.name ≡ Some t → signature_at own t ≡ Some g → (map asked_of g.params ≡ map asked_of asked.params) × (g.result ≡ asked.result)
  implementing declared tx asked contract own t g eown easked ei et eg =
      let c : IsContract table own = all_at (IsContract table) table.contracts contract.0 own conditions.contracts eown in
      let is_implemented = implemented_is declared own.implements ei in
      let interface = called_so (contract_at table declared) (λ i. (i.interface ≡ true) × MeetsInterface i own) (subst (λ o. IfSome o (λ id. IsSomeAnd (contract_at table id) (λ i. (i.interface ≡ true) × MeetsInterface i own))) is_implemented c.implements) in
      let asked_at : slice_get interface.0.transactions tx.0 ≡ Some asked = sym (ap (option_and_then (λ x. signature_at x tx)) interface.1) ∙ easked in
      let met = all_at (λ a. (x : Signature) × Contains (transactions_in own) x × AnswersInterface interface.0 own a x) interface.0.transactions tx.0 asked interface.2.1.transactions asked_at in
      let plain = is_no_interface own own.interface refl c declared is_implemented in
      let in_own : transactions_in own ≡ drop 1 own.transactions = ap (λ b. if b then own.transactions else drop 1 own.transactions) plain in
      let at_own : slice_get (drop 1 own.transactions) met.1.0 ≡ Some met.0 = found_at (drop 1 own.transactions) met.1.0 met.0 (subst (λ ts. met.1.0 < length ts) in_own met.1.1) (ap (λ ts. slice_index_or ts met.1.0 met.0) (sym in_own) ∙ met.1.2) in
      let constructor_first = subst (λ b. MatchBool b (own.constructor ≡ None) ((own.constructor ≡ Some (record { 0 = 0 })) × IsSomeAnd (slice_get own.transactions 0) (IsConstructor table own))) plain c.constructor in
      let name_is : asked.name ≡ g.name = (bytes_eq-Decides asked.name g.name).0 (first_passes (λ s. bytes_eq asked.name s.name) own.transactions t.0 g (named_is (position (λ s. bytes_eq asked.name s.name) own.transactions) t et) eg) in
      let same : g ≡ met.0 = answers_by own own.transactions met.0 g t.0 met.1.0 constructor_first.1 (subst (All (IsTransaction table own)) in_own c.transactions) (subst (λ ts. AreDistinct (map (λ s. s.name) ts)) in_own c.distinct_transactions) at_own eg (met.2.name ∙ name_is) in
      (ap (λ (x : Signature). map asked_of x.params) same ∙ met.2.params, ap (λ (x : Signature). x.result) same ∙ met.2.result)
    where
      found_at : {A : Type 0} (xs : List A) (k : ℕ) (x : A) → k < length xs → slice_index_or xs k x ≡ x → slice_get xs k ≡ Some x
      found_at xs k x lt e = slice_get-get_or xs k x lt ∙ ap Some e

  pub agrees : Agrees table
  agrees declared tx asked contract own t g eown easked eans eg = by_same (declared.0 == contract.0) refl eans
    where
      by_implements : (b : Bool) → implements_it declared own ≡ b → (if b then transaction_named own asked.name else None) ≡ Some t → (map asked_of g.params ≡ map asked_of asked.params) × (g.result ≡ asked.result)
      by_implements true eb e = implementing declared tx asked contract own t g eown easked eb e eg
      by_implements false eb e = absurd (none_some e)

      by_same : (b : Bool) → nat_eq declared.0 contract.0 ≡ b → (if b then Some tx else if implements_it declared own then transaction_named own asked.name else None) ≡ Some t → (map asked_of g.params ≡ map asked_of asked.params) × (g.result ≡ asked.result)
      by_same true eb e =
          let same : g ≡ asked = some_same g asked (sym eg ∙ ap (signature_at own) (sym (some_same tx t e)) ∙ sym (ap (option_and_then (λ c. signature_at c tx)) (ap (contract_at table) (contract_id_is declared contract eb) ∙ eown)) ∙ easked) in
          (ap (λ (x : Signature). map asked_of x.params) same, ap (λ (x : Signature). x.result) same)
      by_same false eb e = by_implements (implements_it declared own) refl e

  -- a constructor has no result
  pub constructors : (contract : ContractId) (own : Contract) (g : Signature) → contract_at table contract ≡ Some own → own.interface ≡ false → slice_get own.transactions 0 ≡ Some g → g.result ≡ None
  constructors contract own g eown plain eg =
      let c : IsContract table own = all_at (IsContract table) table.contracts contract.0 own conditions.contracts eown in
      let first = subst (λ b. MatchBool b (own.constructor ≡ None) ((own.constructor ≡ Some (record { 0 = 0 })) × IsSomeAnd (slice_get own.transactions 0) (IsConstructor table own))) plain c.constructor in
      (subst (λ o. IsSomeAnd o (IsConstructor table own)) eg first.1).result
