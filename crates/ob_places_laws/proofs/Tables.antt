-- What a class table promises of what stands at a number.
use Rattle.std.proofs.Common.{◌≡◌, ◌≢◌, ℕ, zero, suc, Bool, true, false, not, ◌&&◌, List, [], ◌∷◌, drop, Option, Some, None, refl, sym, ap, subst, ◌∙◌, arith, ◌⊎◌, inl, inr, ⊎_elim, eqb-true}
use Rattle.std.specs.Prelude.{option_and_then, slice_get, nat_eq, IsSomeAnd, IfSome, MatchBool, All, if◌then◌else◌}
use Rattle.std.specs.Option.{option_map_or}
use Rattle.std.proofs.lemmas.Option.{slice_get_within, get_or_from_slice_get, same_Some}
use Rattle.std.proofs.lemmas.Bool.{eq-eqb, both_ways}
use Rattle.ob_base.specs.declared.id.ContractId.{ContractId}
use Rattle.ob_base.specs.declared.id.FieldId.{FieldId}
use Rattle.ob_base.specs.declared.id.TxId.{TxId}
use Rattle.ob_base.specs.declared.permission.Mode.{Mode}
use Rattle.ob_base.specs.declared.permission.Mode.TheVariants.{Owned, Shared, Unowned}
use Rattle.ob_base.specs.declared.permission.Perm.{Perm}
use Rattle.ob_perm.specs.Permissions.{owns}
use Rattle.ob_perm.specs.Masks.{states_of, held, permission_of}
use Rattle.ob_table.specs.Tables.{ClassTable, contract_at, field_at, signature_at, signature_of}
use Rattle.ob_table.specs.declared.contract.Contract.{Contract}
use Rattle.ob_table.specs.declared.contract.Field.{Field}
use Rattle.ob_table.specs.declared.contract.Param.{Param}
use Rattle.ob_table.specs.declared.contract.Listed.{Listed}
use Rattle.ob_table.specs.declared.contract.Signature.{Signature}
use Rattle.ob_table.specs.declared.contract.ResolvedType.{ResolvedType}
use Rattle.ob_table.specs.declared.contract.ResolvedType.TheVariants.{Int, Bool as BoolKind, Text, Reference}
use Rattle.ob_table_spec.specs.Conditions.{IsClassTable, IsContract, IsField, IsPermOn, IsType, IsExitOf, IsParam, IsListed, IsSignature, IsConstructor, IsTransaction, MayLeave}
use Rattle.ob_table_spec.specs.WellFormed.{constructor_at, is_constructor}
use Rattle.ob_silica_places.specs.Known.{permission_of_type}
use Rattle.ob_flow_spec.specs.Contexts.{listed_at}

-- Look-ups.

pub there_is : {A : Type 0} (o : Option A) (P : A → Type 0) → IsSomeAnd o P → (x : A) × (o ≡ Some x) × P x
there_is None P h = absurd h
there_is (Some x) P h = (x, refl, h)

pub there_so : {A : Type 0} (o : Option A) (P : A → Type 0) (x : A) → o ≡ Some x → IsSomeAnd o P → P x
there_so o P x e h = subst (λ z. IsSomeAnd z P) e h

pub there_from : {A : Type 0} (o : Option A) (P : A → Type 0) (x : A) → o ≡ Some x → P x → IsSomeAnd o P
there_from o P x e h = subst (λ z. IsSomeAnd z P) (sym e) h

pub if_there_so : {A : Type 0} (o : Option A) (P : A → Type 0) (x : A) → o ≡ Some x → IfSome o P → P x
if_there_so o P x e h = subst (λ z. IfSome z P) e h

pub each_at : {A : Type 0} (P : A → Type 0) (xs : List A) (n : ℕ) (x : A) → All P xs → slice_get xs n ≡ Some x → P x
each_at P xs n x all e =
    subst P (get_or_from_slice_get xs n x x e) (all n x (slice_get_within xs n x e))

some_then : {A B : Type 0} (f : A → Option B) (o : Option A) (y : B) → option_and_then f o ≡ Some y
    → (x : A) × (o ≡ Some x) × (f x ≡ Some y)
some_then f None y e = absurd (cc)
some_then f (Some x) y e = (x, refl, e)

-- Contracts.

pub contract_is : (table : ClassTable) → IsClassTable table → (id : ContractId) (c : Contract)
    → contract_at table id ≡ Some c
    → IsContract table c
contract_is table is id c e = each_at (IsContract table) table.contracts id.0 c is.contracts e

pub field_is : (table : ClassTable) (c : Contract) → IsContract table c → (id : FieldId) (f : Field)
    → field_at c id ≡ Some f
    → IsField table c f
field_is table c is id f e = each_at (IsField table c) c.fields id.0 f is.fields e

pub signature_at_number : (table : ClassTable) (id : ContractId) (tx : TxId) (s : Signature)
    → signature_of table id tx ≡ Some s
    → (c : Contract) × (contract_at table id ≡ Some c) × (signature_at c tx ≡ Some s)
signature_at_number table id tx s e = some_then (λ c. signature_at c tx) (contract_at table id) s e

pub signature_from : (table : ClassTable) (id : ContractId) (tx : TxId) (c : Contract) → contract_at table id ≡ Some c
    → signature_of table id tx ≡ signature_at c tx
signature_from table id tx c e = ap (λ o. option_and_then (λ c. signature_at c tx) o) e

-- Constructors and transactions.

-- A contract that is no interface has a constructor, which has the number 0.
pub has_constructor : (table : ClassTable) (c : Contract) → IsContract table c → c.interface ≡ false
    → (s : Signature) × (slice_get c.transactions 0 ≡ Some s) × IsConstructor table c s
has_constructor table c is plain =
    there_is (slice_get c.transactions 0) (IsConstructor table c) (subst (λ b. MatchBool b (c.constructor ≡ None)
    ((c.constructor ≡ Some (record { 0 = 0 }))
    × IsSomeAnd (slice_get c.transactions 0) (IsConstructor table c))) plain is.constructor).1

pub constructor_is : (table : ClassTable) (c : Contract) → IsContract table c → c.interface ≡ false
    → (tx : TxId) (s : Signature)
    → tx.0 ≡ 0 → signature_at c tx ≡ Some s → IsConstructor table c s
constructor_is table c is plain tx s first e =
    let made = has_constructor table c is plain in
    subst (IsConstructor table c) (same_Some made.0 s
    (sym made.1 ∙ ap (slice_get c.transactions) (sym first) ∙ e)) made.2

-- the constructor that a `new` runs
pub constructor_found : (table : ClassTable) → IsClassTable table → (id : ContractId) (s : Signature)
    → constructor_at table id ≡ Some s
    → (c : Contract) × (contract_at table id ≡ Some c) × (c.interface ≡ false) × (slice_get c.transactions 0 ≡ Some s)
    × IsConstructor table c s
constructor_found table is id s e =
    let found = some_then (λ (c : Contract). if c.interface then None else slice_get c.transactions 0)
    (contract_at table id) s e in
    let here = plain_one found.0 found.0.interface refl found.2 in (
      found.0,
      found.1,
      here.0,
      here.1,
      constructor_is table found.0 (contract_is table is id found.0 found.1) here.0
          (record { 0 = 0 }) s refl here.1,
    )
  where
    plain_one : (c : Contract) (b : Bool) → c.interface ≡ b → (if b then None else slice_get c.transactions 0) ≡ Some s
        → (c.interface ≡ false) × (slice_get c.transactions 0 ≡ Some s)
    plain_one c true eb e = absurd (cc)
    plain_one c false eb e = (eb, e)

after_first : (ts : List Signature) (n : ℕ) (s : Signature) → n ≢ 0 → slice_get ts n ≡ Some s
    → (k : ℕ) × (n ≡ suc k) × (slice_get (drop 1 ts) k ≡ Some s)
after_first [] n s other e = absurd (cc)
after_first (t ∷ ts) zero s other e = absurd (other refl)
after_first (t ∷ ts) (suc k) s other e = (k, refl, e)

-- In an interface each number is a transaction's, and elsewhere each but 0.
pub transaction_is : (table : ClassTable) (c : Contract) → IsContract table c → (tx : TxId) (s : Signature)
    → (c.interface ≡ true) ⊎ (tx.0 ≢ 0) → signature_at c tx ≡ Some s → IsTransaction table c s
transaction_is table c is tx s which e = by_interface c.interface refl which
  where
    by_interface : (b : Bool) → c.interface ≡ b → (c.interface ≡ true) ⊎ (tx.0 ≢ 0) → IsTransaction table c s
    by_interface true eb which =
        let all : All (IsTransaction table c) c.transactions =
        subst (λ b. All (IsTransaction table c)
        (if b then c.transactions else drop 1 c.transactions)) eb is.transactions in
        each_at (IsTransaction table c) c.transactions tx.0 s all e
    by_interface false eb (inl i) = absurd (both_ways c.interface eb i)
    by_interface false eb (inr other) =
        let all : All (IsTransaction table c) (drop 1 c.transactions) =
        subst (λ b. All (IsTransaction table c)
        (if b then c.transactions else drop 1 c.transactions)) eb is.transactions in
        let later = after_first c.transactions tx.0 s other e in
        each_at (IsTransaction table c) (drop 1 c.transactions) later.0 s all later.2

-- A number that is no constructor's.
pub no_constructor : (table : ClassTable) (id : ContractId) (c : Contract) (n : ℕ) → contract_at table id ≡ Some c
    → is_constructor table id n ≡ false → (c.interface ≡ true) ⊎ (n ≢ 0)
no_constructor table id c n e none = by_interface c.interface refl
  where
    here : (not c.interface && nat_eq n 0) ≡ false
    here = sym (ap (λ o. option_map_or (λ c. not c.interface && nat_eq n 0) o false) e) ∙ none

    by_interface : (b : Bool) → c.interface ≡ b → (c.interface ≡ true) ⊎ (n ≢ 0)
    by_interface true eb = inl eb
    by_interface false eb =
        inr (λ z. both_ways (nat_eq n 0) (sym (ap (λ b. not b && nat_eq n 0) eb) ∙ here) (eq-eqb n 0 z))

pub called_is : (table : ClassTable) → IsClassTable table → (id : ContractId) (c : Contract) (tx : TxId) (s : Signature)
    → contract_at table id ≡ Some c → is_constructor table id tx.0 ≡ false → signature_at c tx ≡ Some s
    → IsTransaction table c s
called_is table is id c tx s ec none e =
    transaction_is table c (contract_is table is id c ec) tx s (no_constructor table id c tx.0 ec none) e

zero_or_not : (n : ℕ) → (n ≡ 0) ⊎ (n ≢ 0)
zero_or_not zero = inl refl
zero_or_not (suc n) = inr (λ e. omega (arith, e))

-- What stands at a number is the constructor of a contract or a transaction.
pub constructor_or_transaction : (table : ClassTable) (c : Contract) → IsContract table c → (tx : TxId) (s : Signature)
    → signature_at c tx ≡ Some s
    → ((c.interface ≡ false) × (tx.0 ≡ 0) × IsConstructor table c s) ⊎ IsTransaction table c s
constructor_or_transaction table c is tx s e = by_interface c.interface refl (zero_or_not tx.0)
  where
    by_interface : (b : Bool) → c.interface ≡ b → (tx.0 ≡ 0) ⊎ (tx.0 ≢ 0)
        → ((c.interface ≡ false) × (tx.0 ≡ 0) × IsConstructor table c s) ⊎ IsTransaction table c s
    by_interface true eb which = inr (transaction_is table c is tx s (inl eb) e)
    by_interface false eb (inl first) = inl (eb, first, constructor_is table c is eb tx s first e)
    by_interface false eb (inr other) = inr (transaction_is table c is tx s (inr other) e)

pub signature_is : (table : ClassTable) (c : Contract) → IsContract table c → (tx : TxId) (s : Signature)
    → signature_at c tx ≡ Some s
    → IsSignature table c s
signature_is table c is tx s e =
    ⊎_elim (λ made. made.2.signature) (λ called. called.signature) (constructor_or_transaction table c is tx s e)

pub listed_are : (table : ClassTable) (c : Contract) → IsContract table c → (tx : TxId) (s : Signature)
    → signature_at c tx ≡ Some s
    → All (IsListed table c) s.listed
listed_are table c is tx s e = ⊎_elim
    (λ made. subst (All (IsListed table c)) (sym made.2.listed) (λ k d low. absurd (omega (arith, low))))
    (λ called. called.listed)
    (constructor_or_transaction table c is tx s e)

-- The field that is listed at a number.
pub listed_is : (table : ClassTable) (c : Contract) (ls : List Listed) (f : ℕ) (l : Listed) → All (IsListed table c) ls
    → listed_at ls f ≡ Some l → IsListed table c l × (l.field.0 ≡ f)
listed_is table c [] f l all e = absurd (cc)
listed_is table c (x ∷ ls) f l all e =
    by_number (λ found. listed_is table c ls f l (λ k d low. all (suc k) d (omega (arith, low))) found)
    (nat_eq x.field.0 f) refl e
  where
    by_number : (listed_at ls f ≡ Some l → IsListed table c l × (l.field.0 ≡ f)) → (b : Bool) → nat_eq x.field.0 f ≡ b
        → (if b then Some x else listed_at ls f) ≡ Some l → IsListed table c l × (l.field.0 ≡ f)
    by_number more true eb e =
        let same = same_Some x l e in (
          subst (IsListed table c) same (all 0 x (omega arith)),
          ap (λ (y : Listed). y.field.0) (sym same)
              ∙ eqb-true x.field.0 f eb,
        )
    by_number more false eb e = more e

-- Parameters and results.

pub param_is : (table : ClassTable) (c : Contract) (s : Signature) → IsSignature table c s → (k : ℕ) (p : Param)
    → slice_get s.params k ≡ Some p → IsParam table p
param_is table c s is k p e = each_at (IsParam table) s.params k p is.params e

pub result_is : (table : ClassTable) (c : Contract) (s : Signature) → IsSignature table c s → (of : ResolvedType)
    → s.result ≡ Some of
    → IsType table of
result_is table c s is of e = if_there_so s.result (IsType table) of e is.result

pub reference_is : (table : ClassTable) (id : ContractId) (p : Perm) → IsType table (Reference id p)
    → (c : Contract) × (contract_at table id ≡ Some c) × IsPermOn c p
reference_is table id p is = there_is (contract_at table id) (λ c. IsPermOn c p) is

-- Permissions at the end.

-- What doesn't own its object at the entry is held at the exit as there.
pub leaves_as_came : (entry exit : Perm) → MayLeave entry exit → owns (permission_of entry) ≡ false
    → permission_of exit ≡ permission_of entry
leaves_as_came entry exit may e = at entry.mode exit.mode refl refl
  where
    at : (m n : Mode) → entry.mode ≡ m → exit.mode ≡ n → permission_of exit ≡ permission_of entry
    at Owned n em en =
        absurd (both_ways (owns (permission_of entry)) e (ap (λ k. owns (held k (states_of entry.states))) em))
    at Shared n em en =
        ap (λ k. held k (states_of exit.states)) (may (λ o. let z : Shared ≡ Owned = sym em ∙ o in cc) ∙ em)
        ∙ sym (ap (λ k. held k (states_of entry.states)) em)
    at Unowned n em en =
        ap (λ k. held k (states_of exit.states)) (may (λ o. let z : Unowned ≡ Owned = sym em ∙ o in cc) ∙ em)
        ∙ sym (ap (λ k. held k (states_of entry.states)) em)

pub exit_came : (table : ClassTable) (of : ResolvedType) (exit : Perm) → IsExitOf table of exit
    → owns (permission_of_type of) ≡ false
    → permission_of exit ≡ permission_of_type of
exit_came table Int exit is e = ap permission_of is
exit_came table BoolKind exit is e = ap permission_of is
exit_came table Text exit is e = ap permission_of is
exit_came table (Reference id p) exit is e = leaves_as_came p exit is.1 e

pub param_as_came : (table : ClassTable) (p : Param) → IsParam table p → owns (permission_of_type p.of) ≡ false
    → permission_of p.exit ≡ permission_of_type p.of
param_as_came table p is e = exit_came table p.of p.exit is.exit e
