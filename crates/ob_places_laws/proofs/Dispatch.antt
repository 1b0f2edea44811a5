-- What an object runs for a transaction that its contract or its interface declares.
use Rattle.std.proofs.Common.{◌≡◌, ◌≢◌, ℕ, zero, suc, ◌<◌, Bool, true, false, List, [], ◌∷◌, map, length, drop, get_or, Some, None, refl, sym, ap, ◌∙◌, subst, arith, eq-eqb, lt-ltb, true≢false, ◌⊎◌, inl, inr, ⊎_elim}
use Rattle.std.proofs.lemmas.Option.{get_or_from_slice_get, slice_get-get_or, slice_get_within, same_Some}
use Rattle.std.proofs.lemmas.List.{length-map}
use Rattle.std.proofs.lemmas.List.Sums.{passes_at_first, fails_before_first}
use Rattle.std.proofs.lemmas.Bool.{cond-true, cond-false, cases_order, cases_lt, both_ways, ne_eqb}
use Rattle.std.proofs.lemmas.Slice.Eq.{bytes_eq-Decides}
use Rattle.std.specs.Bool.{◌==◌}
use Rattle.std.specs.Prelude.{option_map, slice_get, slice_index_or, nat_eq, nat_lt, position, bytes_eq, IsTrue, IsSomeAnd, All, Contains, if◌then◌else◌}
use Rattle.std.specs.Option.{option_map_or}
use Rattle.std.specs.List.{position_or_len}
use Rattle.ob_base.specs.Names.{is_name}
use Rattle.ob_base.specs.declared.id.ContractId.{ContractId}
use Rattle.ob_base.specs.declared.id.TxId.{TxId}
use Rattle.ob_base.specs.declared.permission.Mode.{Mode}
use Rattle.ob_base.specs.declared.permission.Mode.TheVariants.{Owned, Shared, Unowned}
use Rattle.ob_base.specs.declared.permission.Perm.{Perm}
use Rattle.ob_perm.specs.Permissions.{owns}
use Rattle.ob_perm.specs.Masks.{states_of, held, permission_of}
use Rattle.ob_perm.specs.Naming.{for_contract}
use Rattle.ob_perm.proofs.StandsLemmas.{permission_of-perm_of}
use Rattle.ob_table.specs.Tables.{ClassTable, contract_at, signature_at, signature_of}
use Rattle.ob_table.specs.declared.contract.Contract.{Contract}
use Rattle.ob_table.specs.declared.contract.Param.{Param}
use Rattle.ob_table.specs.declared.contract.ResolvedType.{ResolvedType}
use Rattle.ob_table.specs.declared.contract.Signature.{Signature}
use Rattle.ob_table.specs.declared.seen.Kind.TheVariants.{Reference}
use Rattle.ob_table_spec.specs.Conditions.{IsClassTable, IsContract, IsTransaction, IsConstructor, transactions_in, AnswersInterface, IsSaidAs, asked_of, naming, AreDistinct}
use Rattle.ob_table_spec.specs.WellFormed.{is_implemented, serves_as, is_constructor}
use Rattle.ob_heap_spec.specs.Dispatch.{implements_it, transaction_named, answering}
use Rattle.ob_heap_spec.specs.Objects.{Object, seen_state}
use Rattle.ob_heap_spec.specs.Contents.{IsStateOf}
use Rattle.ob_silica_places.specs.Parameters.{Parameter, parameter_of, parameters}
use Rattle.ob_silica_places.specs.Converting.{converted}
use Rattle.ob_flow_spec.specs.Joining.{same_mode}
use Rattle.ob_places_laws.specs.Serving.{AllowsState}
use Rattle.ob_places_laws.specs.Answering.{Answers, HasAnswer}
use Rattle.ob_places_laws.proofs.Tables.{each_at, contract_is, has_constructor, transaction_is, called_is, no_constructor, signature_from, leaves_as_came}
use Rattle.ob_places_laws.proofs.Interfaces.{implemented_is, implemented_other, interface_is, implementing_plain}
use Rattle.ob_places_laws.proofs.Conversions.{for_contract_numbered, serves_itself, serves_for_reference, naming_in, converted_same, converted_down, converted_mode}
use Rattle.ob_places_laws.proofs.SeenStates.{converted_allows_state, allowed_before}

-- Lists.

get_map : {A B : Type 0} (f : A → B) (xs : List A) (n : ℕ) (x : A) → slice_get xs n ≡ Some x
    → slice_get (map f xs) n ≡ Some (f x)
get_map f [] n x e = absurd (cc)
get_map f (y ∷ xs) zero x e = ap (option_map f) e
get_map f (y ∷ xs) (suc n) x e = get_map f xs n x e

found_at : {A : Type 0} (xs : List A) (k : ℕ) (x : A) → k < length xs → slice_index_or xs k x ≡ x
    → slice_get xs k ≡ Some x
found_at xs k x lt e = slice_get-get_or xs k x lt ∙ ap Some e

-- Of distinct names each stands once.
once : (xs : List Signature) (i j : ℕ) (x y : Signature) → AreDistinct (map (λ s. s.name) xs) → slice_get xs i ≡ Some x
    → slice_get xs j ≡ Some y → x.name ≡ y.name → x ≡ y
once xs i j x y distinct ei ej same = by_order (cases_order i j)
  where
    apart : (a b : ℕ) (u v : Signature) → a < b → slice_get xs a ≡ Some u → slice_get xs b ≡ Some v → u.name ≡ v.name
        → ⊥
    apart a b u v lt ea eb e =
        distinct a b u.name lt (subst (λ n. b < n) (sym (length-map xs (λ (s : Signature). s.name)))
        (slice_get_within xs b v eb))
        (get_or_from_slice_get (map (λ (s : Signature). s.name) xs) a u.name u.name (get_map (λ s. s.name) xs a u ea)
        ∙ e
        ∙ sym (get_or_from_slice_get (map (λ (s : Signature). s.name) xs) b v.name u.name
        (get_map (λ s. s.name) xs b v eb)))

    by_order : (i ≡ j) ⊎ ((i < j) ⊎ (j < i)) → x ≡ y
    by_order (inl e) = same_Some x y (sym ei ∙ ap (slice_get xs) e ∙ ej)
    by_order (inr (inl lt)) = absurd (apart i j x y lt ei ej same)
    by_order (inr (inr lt)) = absurd (apart j i y x lt ej ei (sym same))

-- Where something passes, there is a first that does.
first_low : {A : Type 0} (p : A → Bool) (xs : List A) (j : ℕ) (x : A) → slice_get xs j ≡ Some x → p x ≡ true
    → position_or_len p xs < length xs
first_low p xs j x e h = ⊎_elim
    (λ low. low)
    (λ past. let within = slice_get_within xs j x e in
    absurd (both_ways (p x) (sym (ap p (get_or_from_slice_get xs j x x e)) ∙ fails_before_first p xs j x
    (omega (arith, within, past))) h))
    (cases_lt (position_or_len p xs) (length xs))

first_found : {A : Type 0} (p : A → Bool) (xs : List A) (j : ℕ) (x : A) → slice_get xs j ≡ Some x → p x ≡ true
    → (n : ℕ) × (y : A) × (position p xs ≡ Some n) × (slice_get xs n ≡ Some y) × (p y ≡ true)
first_found p xs j x e h =
    let low = first_low p xs j x e h in (
      position_or_len p xs,
      get_or xs (position_or_len p xs) x,
      cond-true (nat_lt (position_or_len p xs) (length xs)) (Some (position_or_len p xs)) None (lt-ltb _ _ low),
      slice_get-get_or xs (position_or_len p xs) x low,
      passes_at_first p xs x low,
    )

no_name : (name : List ℕ) → name ≡ [] → IsTrue (is_name name) → ⊥
no_name name e t = true≢false (sym (sym (ap is_name e) ∙ t))

-- A transaction of a name is found at no other number, and never at the constructor's.
named_once : (table : ClassTable) (own : Contract) (ts : List Signature) (s g : Signature) (n k : ℕ)
    → IsSomeAnd (slice_get ts 0) (IsConstructor table own) → All (IsTransaction table own) (drop 1 ts)
    → AreDistinct (map (λ s. s.name) (drop 1 ts)) → slice_get (drop 1 ts) k ≡ Some s → slice_get ts n ≡ Some g
    → s.name ≡ g.name → (g ≡ s) × (n ≢ 0)
named_once table own [] s g n k first all distinct es eg same = absurd (cc)
named_once table own (c ∷ ts) s g zero k first all distinct es eg same =
    absurd (no_name s.name (same ∙ ap (λ (x : Signature). x.name) (sym (same_Some c g eg)) ∙ first.name)
    (each_at (IsTransaction table own) ts k s all es).name)
named_once table own (c ∷ ts) s g (suc n) k first all distinct es eg same =
    (once ts n k g s distinct eg es (sym same), λ e. omega (arith, e))

later : {A : Type 0} (ts : List A) (k : ℕ) (s : A) → slice_get (drop 1 ts) k ≡ Some s → slice_get ts (suc k) ≡ Some s
later [] k s e = absurd (cc)
later (t ∷ ts) k s e = e

-- a transaction stands at the number that is found by its name, which isn't the constructor's
record IsFound (ts : List Signature) (s : Signature) (name : List ℕ) : Type 0 where
  pub number : ℕ
  pub found : position (λ (x : Signature). bytes_eq name x.name) ts ≡ Some number
  pub there : slice_get ts number ≡ Some s
  pub other : number ≢ 0

found_among : (table : ClassTable) (own : Contract) (ts : List Signature) (s : Signature) (name : List ℕ) (k : ℕ)
    → IsSomeAnd (slice_get ts 0) (IsConstructor table own) → All (IsTransaction table own) (drop 1 ts)
    → AreDistinct (map (λ s. s.name) (drop 1 ts)) → slice_get (drop 1 ts) k ≡ Some s → s.name ≡ name → IsFound ts s name
found_among table own ts s name k first all distinct es named =
    let passes = (bytes_eq-Decides name s.name).1 (sym named) in
    let found = first_found (λ (x : Signature). bytes_eq name x.name) ts (suc k) s (later ts k s es) passes in
    let same = named ∙ (bytes_eq-Decides name found.1.name).0 found.4 in
    let one = named_once table own ts s found.1 found.0 k first all distinct es found.3 same in
    record { number = found.0; found = found.2; there = found.3 ∙ ap Some one.0; other = one.1 }

-- A contract's transaction is found by its name.
found_by_name : (table : ClassTable) (own : Contract) → IsContract table own → own.interface ≡ false → (s : Signature)
    → Contains (transactions_in own) s → (name : List ℕ) → s.name ≡ name → IsFound own.transactions s name
found_by_name table own c plain s has name named =
    found_among table own own.transactions s name has.0
    (subst (λ o. IsSomeAnd o (IsConstructor table own)) (sym made.1) made.2)
    (subst (All (IsTransaction table own)) in_own c.transactions)
    (subst (λ ts. AreDistinct (map (λ s. s.name) ts)) in_own c.distinct_transactions)
    (found_at (drop 1 own.transactions) has.0 s (subst (λ ts. has.0 < length ts) in_own has.1)
    (ap (λ ts. slice_index_or ts has.0 s) (sym in_own) ∙ has.2)) named
  where
    in_own : transactions_in own ≡ drop 1 own.transactions
    in_own = ap (λ b. if b then own.transactions else drop 1 own.transactions) plain

    made : (s : Signature) × (slice_get own.transactions 0 ≡ Some s) × IsConstructor table own s
    made = has_constructor table own c plain

-- Permissions of `this`.

-- What a contract says of `this` is what its interface asks, said for the contract.
pub said_as_is : (table : ClassTable) → IsClassTable table
    → (d e : ContractId) (interface own : Contract) (asked p : Perm)
    → contract_at table d ≡ Some interface → contract_at table e ≡ Some own → is_implemented table e d ≡ true
    → IsSaidAs interface own asked p
    → permission_of p ≡ converted table (Reference d) (Reference e) (permission_of asked)
said_as_is table is d e interface own asked p ed ee i said =
    ap permission_of said
    ∙ permission_of-perm_of (for_contract (naming interface own) (permission_of asked))
    (for_contract_numbered (naming interface own) (permission_of asked) (naming_in table is d e interface own ed ee))
    ∙ sym (converted_down table is d e interface own (permission_of asked) ed ee i)

-- Of one contract a transaction answers itself.
pub answers_itself : (table : ClassTable) (d : ContractId) (s : Signature) → Answers table d d s s
answers_itself table d s = record {
  params = refl;
  result = refl;
  entry = sym (converted_same table (Reference d) (permission_of s.entry));
  exit = sym (converted_same table (Reference d) (permission_of s.exit));
  public = λ e. e;
}

module _ (table : ClassTable) (is : IsClassTable table) where
  -- an object of the contract itself
  by_itself : (d : ContractId) (tx : TxId) (asked : Signature) (own : Contract) → contract_at table d ≡ Some own
      → signature_of table d tx ≡ Some asked
      → own.interface ≡ false → is_constructor table d tx.0 ≡ false → HasAnswer table d d own tx asked
  by_itself d tx asked own ed easked plain called =
      let there : signature_at own tx ≡ Some asked = sym (signature_from table d tx own ed) ∙ easked in
      record {
        number = tx;
        signature = asked;
        found = cond-true (d.0 == d.0) (Some tx) _ (eq-eqb d.0 d.0 refl);
        there = there;
        no_constructor = plain_number (no_constructor table d own tx.0 ed called);
        transaction = called_is table is d own tx asked ed called there;
        answers = answers_itself table d asked;
      }
    where
      plain_number : (own.interface ≡ true) ⊎ (tx.0 ≢ 0) → tx.0 ≢ 0
      plain_number (inl i) = absurd (both_ways own.interface plain i)
      plain_number (inr other) = other

  -- an object of a contract that implements the interface
  by_name : (d e : ContractId) (tx : TxId) (asked : Signature) (own : Contract) → contract_at table e ≡ Some own
      → signature_of table d tx ≡ Some asked → is_implemented table e d ≡ true → HasAnswer table d e own tx asked
  by_name d e tx asked own ee easked i =
      let interface = interface_is table is e d own ee i in
      let there = sym (signature_from table d tx interface.0 interface.1) ∙ easked in
      let met = each_at (Met interface.0) interface.0.transactions tx.0 asked interface.3.transactions there in
      answered interface.0 interface.1 met.0 met.2
      (found_by_name table own (contract_is table is e own ee)
      (implementing_plain table is e d own ee i) met.0 met.1 asked.name met.2.name)
    where
      Met : Contract → Signature → Type 0
      Met interface a = (x : Signature) × Contains (transactions_in own) x × AnswersInterface interface own a x

      not_same : nat_eq d.0 e.0 ≡ false
      not_same = ne_eqb d.0 e.0 (λ z. both_ways (nat_eq e.0 d.0) (implemented_other table is e d i)
          (eq-eqb e.0 d.0 (sym z)))

      implements : implements_it d own ≡ true
      implements =
          let names = implemented_is table e d i in
          let same : names.0 ≡ own = same_Some names.0 own (sym names.1 ∙ ee) in
          ap (λ o. option_map_or (λ (id : ContractId). d.0 == id.0) o false)
          (ap (λ (y : Contract). y.implements) (sym same) ∙ names.2)
          ∙ eq-eqb d.0 d.0 refl

      answered : (interface : Contract) → contract_at table d ≡ Some interface → (s : Signature)
          → AnswersInterface interface own asked s
          → IsFound own.transactions s asked.name → HasAnswer table d e own tx asked
      answered interface ed s h f = record {
        number = record { 0 = f.number };
        signature = s;
        found = cond-false (d.0 == e.0) (Some tx) _ not_same
            ∙ cond-true (implements_it d own) (transaction_named own asked.name) None implements
            ∙ ap (option_map (λ n. record { 0 = n })) f.found;
        there = f.there;
        no_constructor = f.other;
        transaction = transaction_is table own (contract_is table is e own ee) (record { 0 = f.number }) s
            (inr f.other) f.there;
        answers = record {
          params = h.params;
          result = h.result;
          entry = said_as_is table is d e interface own asked.entry s.entry ed ee i h.entry;
          exit = said_as_is table is d e interface own asked.exit s.exit ed ee i h.exit;
          public = λ z. h.public;
        };
      }

  -- An object has an answer to each transaction that its contract or its interface declares.
  pub has_answer : (d e : ContractId) (tx : TxId) (asked : Signature) (own : Contract) → contract_at table e ≡ Some own
      → own.interface ≡ false
      → signature_of table d tx ≡ Some asked → is_constructor table d tx.0 ≡ false
      → serves_as table (Reference d) (Reference e) ≡ true
      → HasAnswer table d e own tx asked
  has_answer d e tx asked own ee plain easked called serves = by_which (serves_for_reference table d e serves)
    where
      by_which : (d ≡ e) ⊎ (is_implemented table e d ≡ true) → HasAnswer table d e own tx asked
      by_which (inl same) =
          subst (λ z. HasAnswer table d z own tx asked) same
          (by_itself d tx asked own (ap (contract_at table) same ∙ ee) easked plain called)
      by_which (inr i) = by_name d e tx asked own ee easked i

  -- What is found is that answer.
  pub answer_is : (d e : ContractId) (tx : TxId) (asked : Signature) (own : Contract) (t : TxId) (s : Signature)
      → contract_at table e ≡ Some own → own.interface ≡ false
      → signature_of table d tx ≡ Some asked → is_constructor table d tx.0 ≡ false
      → serves_as table (Reference d) (Reference e) ≡ true
      → answering d tx asked e own ≡ Some t → signature_at own t ≡ Some s
      → (t.0 ≢ 0) × IsTransaction table own s × Answers table d e asked s
  answer_is d e tx asked own t s ee plain easked called serves et es =
      let a = has_answer d e tx asked own ee plain easked called serves in
      let number : a.number ≡ t = same_Some a.number t (sym a.found ∙ et) in
      let signature : a.signature ≡ s = same_Some a.signature s (sym a.there ∙ ap (signature_at own) number ∙ es) in (
        subst (λ (x : TxId). x.0 ≢ 0) number a.no_constructor,
        subst (IsTransaction table own) signature a.transaction,
        subst (Answers table d e asked) signature a.answers,
      )

-- What follows from an answer.

-- The state in which a call finds an object, as its caller sees it, lets the answer begin; and where the answer leaves
-- it in a state of its exit, this is one of the declared exit.
module _ (table : ClassTable) (is : IsClassTable table) (own : Contract) (o : Object)
    (ec : contract_at table o.contract ≡ Some own) (state : IsStateOf own o.state) where
  pub answer_begins : (d : ContractId) (asked s : Signature)
      → serves_as table (Reference d) (Reference o.contract) ≡ true → Answers table d o.contract asked s
      → AllowsState (permission_of asked.entry) (seen_state table d o)
      → AllowsState (permission_of s.entry) (seen_state table o.contract o)
  answer_begins d asked s serves a h = subst (λ p. AllowsState p (seen_state table o.contract o)) (sym a.entry)
      (converted_allows_state table is own o ec state d o.contract (permission_of asked.entry) serves
      (serves_itself table (Reference o.contract)) h)

  pub answer_ends : (d : ContractId) (asked s : Signature) → serves_as table (Reference d) (Reference o.contract) ≡ true
      → Answers table d o.contract asked s
      → AllowsState (permission_of s.exit) (seen_state table o.contract o)
      → AllowsState (permission_of asked.exit) (seen_state table d o)
  answer_ends d asked s serves a h = allowed_before table is own o ec state d (permission_of asked.exit) serves
      (subst (λ p. AllowsState p (seen_state table o.contract o)) a.exit h)

pub answer_entry_mode : (table : ClassTable) (d e : ContractId) (asked s : Signature) → Answers table d e asked s
    → same_mode (permission_of s.entry) (permission_of asked.entry) ≡ true
answer_entry_mode table d e asked s a =
    subst (λ p. same_mode p (permission_of asked.entry) ≡ true) (sym a.entry)
    (converted_mode table (Reference d) (Reference e) (permission_of asked.entry))

pub answer_exit_mode : (table : ClassTable) (d e : ContractId) (asked s : Signature) → Answers table d e asked s
    → same_mode (permission_of s.exit) (permission_of asked.exit) ≡ true
answer_exit_mode table d e asked s a =
    subst (λ p. same_mode p (permission_of asked.exit) ≡ true) (sym a.exit)
    (converted_mode table (Reference d) (Reference e) (permission_of asked.exit))

-- Permissions of the code that are held in the same way have the same mode.
pub mode_same : (p q : Perm) → same_mode (permission_of p) (permission_of q) ≡ true → p.mode ≡ q.mode
mode_same p q e = at p.mode p.states q.mode q.states e
  where
    at : (m : Mode) (a : ℕ) (n : Mode) (b : ℕ) → same_mode (held m (states_of a)) (held n (states_of b)) ≡ true → m ≡ n
    at Owned a Owned b e = refl
    at Owned a Shared b e = absurd (true≢false (sym e))
    at Owned a Unowned b e = absurd (true≢false (sym e))
    at Shared a Owned b e = absurd (true≢false (sym e))
    at Shared a Shared b e = refl
    at Shared a Unowned b e = absurd (true≢false (sym e))
    at Unowned a Owned b e = absurd (true≢false (sym e))
    at Unowned a Shared b e = absurd (true≢false (sym e))
    at Unowned a Unowned b e = refl

-- A transaction that isn't entered as an owner's is left as it was entered.
pub transaction_as_came : (table : ClassTable) (c : Contract) (s : Signature) → IsTransaction table c s
    → owns (permission_of s.entry) ≡ false
    → permission_of s.exit ≡ permission_of s.entry
transaction_as_came table c s is e = leaves_as_came s.entry s.exit is.exit_may_follow e

-- what is asked of an argument, as a parameter
as_parameter : ResolvedType × Perm → Parameter
as_parameter x = record { of = x.0; exit = x.1 }

asked_again : (ps : List Param) → map as_parameter (map asked_of ps) ≡ map parameter_of ps
unfolding as_parameter
asked_again [] = refl
asked_again (p ∷ ps) = ap (λ xs. parameter_of p ∷ xs) (asked_again ps)

-- The parameters of an answer are those that were asked.
pub same_parameters : (ps qs : List Param) → map asked_of ps ≡ map asked_of qs
    → map parameter_of ps ≡ map parameter_of qs
same_parameters ps qs e = sym (asked_again ps) ∙ ap (λ xs. map as_parameter xs) e ∙ asked_again qs

pub answer_parameters : (table : ClassTable) (d e : ContractId) (asked s : Signature) → Answers table d e asked s
    → parameters s ≡ parameters asked
answer_parameters table d e asked s a = same_parameters s.params asked.params a.params
