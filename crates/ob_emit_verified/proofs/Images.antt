-- The image of a class table: its contracts, bodies and marks.
use Rattle.std.proofs.Common.{◌≡◌, ℕ, zero, suc, ◌+◌, ◌<◌, Bool, true, false, List, [], ◌∷◌, map, length, Option, Some, None, refl, sym, ap, ◌∙◌, arith, eqb-true, true≢false, inl, inr}
use Rattle.std.specs.Prelude.{not, ◌&&◌, ◌||◌, ◌==◌, nat_eq, find, slice_get, is_some, option_map, bytes_eq}
use Rattle.std.specs.Option.{option_map_or}
use Rattle.std.proofs.lemmas.Bool.{or_cases, or_left, or_right, eq-eqb, false_from_ne_true}
use Rattle.std.proofs.lemmas.Bool.Decides.{eqb_tells}
use Rattle.std.proofs.lemmas.List.{length-map}
use Rattle.std.proofs.lemmas.Option.{slice_get-map, slice_get_within}
use Rattle.ob_base.specs.declared.id.ContractId.{ContractId}
use Rattle.ob_base.specs.declared.id.FieldId.{FieldId}
use Rattle.ob_base.specs.declared.id.TxId.{TxId}
use Rattle.ob_perm.specs.Masks.{permission_of}
use Rattle.ob_perm.specs.Permissions.{is_shared}
use Rattle.ob_table.specs.Tables.{ClassTable, contract_at, contract_id, field_at, signature_at}
use Rattle.ob_table.specs.declared.contract.Contract.{Contract}
use Rattle.ob_table.specs.declared.contract.Field.{Field}
use Rattle.ob_table.specs.declared.contract.Param.{Param}
use Rattle.ob_table.specs.declared.contract.ResolvedType.{ResolvedType}
use Rattle.ob_table.specs.declared.contract.ResolvedType.TheVariants as typed
use Rattle.ob_table.specs.declared.contract.Signature.{Signature}
use Rattle.ob_table.specs.declared.seen.Kind.{Kind}
use Rattle.ob_table.specs.declared.seen.Kind.TheVariants as kind
use Rattle.ob_table_spec.specs.Conditions.{IsClassTable}
use Rattle.ob_table_spec.specs.WellFormed.{kind_of_resolved, serves_as, is_implemented, is_constructor as constructs}
use Rattle.ob_silica.specs.Terms.{SilicaBody}
use Rattle.ob_silica_steps.specs.Configurations.{is_terms_of}
use Rattle.ob_places_laws.proofs.Interfaces.{interface_is, interface_implements_none}
use Rattle.ob_code.specs.declared.image.BodyCode.{BodyCode}
use Rattle.ob_code.specs.declared.image.ContractCode.{ContractCode}
use Rattle.ob_code.specs.declared.image.FieldCode.{FieldCode}
use Rattle.ob_code.specs.Code.{is_marked, is_interface, is_private, is_constructor, is_transaction_named, contract_code}
use Rattle.ob_verify_spec.specs.Kinds.{kind_of_type, kind_of_param, implements_number, fits}
use Rattle.ob_verify_spec.specs.Frames.{kind_of_result}
use Rattle.ob_verify_spec.specs.Calling.{ImplementsInterfacesAlone}
use Rattle.ob_verify_spec.proofs.Cells.{none_some, some_same}
use Rattle.ob_emit_spec.specs.EmittedImages.{type_code, param_code, field_code, mark_if, implements_code, emitted_body, tx_id, emitted_bodies, emitted_contract, emitted_contracts, image_of}
use Rattle.ob_emit_verified.proofs.Saying.{kinds_passed, TakesParams, IsTransactionOf}

-- Contracts.

contract_there : (table : ClassTable) (bodies : List SilicaBody) (n k : ℕ) (cs : List Contract)
    → slice_get (emitted_contracts table bodies n cs) k ≡ option_map (emitted_contract table bodies (contract_id (n + k))) (slice_get cs k)
contract_there table bodies n k [] = refl
contract_there table bodies n zero (c ∷ cs) =
    let e : n ≡ n + 0 = omega arith in
    ap (λ m. Some (emitted_contract table bodies (contract_id m) c)) e
contract_there table bodies n (suc k) (c ∷ cs) =
    let e : n + 1 + k ≡ n + suc k = omega arith in
    contract_there table bodies (n + 1) k cs ∙ ap (λ m. option_map (emitted_contract table bodies (contract_id m)) (slice_get cs k)) e

-- the contract of a number in the image is that of the table
pub contract_same : (table : ClassTable) (bodies : List SilicaBody) (id : ContractId)
    → contract_code (image_of table bodies) id ≡ option_map (emitted_contract table bodies id) (contract_at table id)
contract_same table bodies id = contract_there table bodies 0 id.0 table.contracts
    ∙ ap (λ m. option_map (emitted_contract table bodies (contract_id m)) (contract_at table id)) (let e : 0 + id.0 ≡ id.0 = omega arith in e)

pub contract_found : (table : ClassTable) (bodies : List SilicaBody) (id : ContractId) (own : Contract)
    → contract_at table id ≡ Some own
    → contract_code (image_of table bodies) id ≡ Some (emitted_contract table bodies id own)
contract_found table bodies id own e = contract_same table bodies id ∙ ap (option_map (emitted_contract table bodies id)) e

-- a contract of the image is that of one of the table
pub record IsEmitted (table : ClassTable) (bodies : List SilicaBody) (id : ContractId) (c : ContractCode) : Type 0 where
  pub own : Contract
  pub is_own : contract_at table id ≡ Some own
  pub same : emitted_contract table bodies id own ≡ c

pub contract_emitted : (table : ClassTable) (bodies : List SilicaBody) (id : ContractId) (c : ContractCode)
    → contract_code (image_of table bodies) id ≡ Some c → IsEmitted table bodies id c
contract_emitted table bodies id c e = by_own (contract_at table id) refl
  where
    by_own : (o : Option Contract) → contract_at table id ≡ o → IsEmitted table bodies id c
    by_own None i =
        let none : contract_code (image_of table bodies) id ≡ None = contract_same table bodies id ∙ ap (option_map (emitted_contract table bodies id)) i in
        absurd (none_some (sym none ∙ e))
    by_own (Some own) i = record { own = own; is_own = i; same = some_same (sym (contract_found table bodies id own i) ∙ e) }

-- Bodies.

-- the body of a number, with this signature
abbrev pub emitted_at : ClassTable → List SilicaBody → ContractId → Contract → TxId → Signature → BodyCode
emitted_at table bodies id own tx s = emitted_body table id own tx s (find (is_terms_of id tx) bodies)

pub body_there : (table : ClassTable) (bodies : List SilicaBody) (id : ContractId) (own : Contract) (n k : ℕ) (ss : List Signature)
    → slice_get (emitted_bodies table bodies id own n ss) k ≡ option_map (emitted_at table bodies id own (tx_id (n + k))) (slice_get ss k)
body_there table bodies id own n k [] = refl
body_there table bodies id own n zero (s ∷ ss) =
    let e : n ≡ n + 0 = omega arith in
    ap (λ m. Some (emitted_at table bodies id own (tx_id m) s)) e
body_there table bodies id own n (suc k) (s ∷ ss) =
    let e : n + 1 + k ≡ n + suc k = omega arith in
    body_there table bodies id own (n + 1) k ss ∙ ap (λ m. option_map (emitted_at table bodies id own (tx_id m)) (slice_get ss k)) e

-- the body of a number in a contract of the image has the signature of that number
pub body_same : (table : ClassTable) (bodies : List SilicaBody) (id : ContractId) (own : Contract) (tx : TxId)
    → slice_get (emitted_contract table bodies id own).bodies tx.0 ≡ option_map (emitted_at table bodies id own tx) (signature_at own tx)
body_same table bodies id own tx = body_there table bodies id own 0 tx.0 own.transactions
    ∙ ap (λ m. option_map (emitted_at table bodies id own (tx_id m)) (signature_at own tx)) (let e : 0 + tx.0 ≡ tx.0 = omega arith in e)

-- Marks.

first_mark : (a b c : Bool) → is_marked 0 (mark_if 1 a + mark_if 2 b + mark_if 4 c) ≡ a
first_mark true true true = refl
first_mark true true false = refl
first_mark true false true = refl
first_mark true false false = refl
first_mark false true true = refl
first_mark false true false = refl
first_mark false false true = refl
first_mark false false false = refl

second_mark : (a b c : Bool) → is_marked 1 (mark_if 1 a + mark_if 2 b + mark_if 4 c) ≡ b
second_mark true true true = refl
second_mark true true false = refl
second_mark true false true = refl
second_mark true false false = refl
second_mark false true true = refl
second_mark false true false = refl
second_mark false false true = refl
second_mark false false false = refl

third_mark : (a b c : Bool) → is_marked 2 (mark_if 1 a + mark_if 2 b + mark_if 4 c) ≡ c
third_mark true true true = refl
third_mark true true false = refl
third_mark true false true = refl
third_mark true false false = refl
third_mark false true true = refl
third_mark false true false = refl
third_mark false false true = refl
third_mark false false false = refl

pub interface_marked : (table : ClassTable) (bodies : List SilicaBody) (id : ContractId) (own : Contract)
    → is_interface (emitted_contract table bodies id own) ≡ own.interface
interface_marked table bodies id own = third_mark own.asset own.main own.interface

pub private_marked : (table : ClassTable) (id : ContractId) (own : Contract) (tx : TxId) (s : Signature)
    (body : Option SilicaBody) → is_private (emitted_body table id own tx s body) ≡ s.private
private_marked table id own tx s None = first_mark s.private (constructs table id tx.0) (not (constructs table id tx.0) && is_shared (permission_of s.entry))
private_marked table id own tx s (Some body) = first_mark s.private (constructs table id tx.0) (not (constructs table id tx.0) && is_shared (permission_of s.entry))

pub constructor_marked : (table : ClassTable) (id : ContractId) (own : Contract) (tx : TxId) (s : Signature)
    (body : Option SilicaBody)
    → is_constructor (emitted_body table id own tx s body) ≡ constructs table id tx.0
constructor_marked table id own tx s None = second_mark s.private (constructs table id tx.0) (not (constructs table id tx.0) && is_shared (permission_of s.entry))
constructor_marked table id own tx s (Some body) = second_mark s.private (constructs table id tx.0) (not (constructs table id tx.0) && is_shared (permission_of s.entry))

pub body_named : (table : ClassTable) (id : ContractId) (own : Contract) (tx : TxId) (s : Signature) (body : Option SilicaBody)
    → (emitted_body table id own tx s body).name ≡ s.name
body_named table id own tx s None = refl
body_named table id own tx s (Some body) = refl

pub named_so : (table : ClassTable) (id : ContractId) (own : Contract) (tx : TxId) (s : Signature) (name : List ℕ)
    (body : Option SilicaBody)
    → is_transaction_named name (emitted_body table id own tx s body) ≡ not (constructs table id tx.0) && bytes_eq name s.name
named_so table id own tx s name None = ap (λ b. not b && bytes_eq name s.name) (constructor_marked table id own tx s None)
named_so table id own tx s name (Some body) = ap (λ b. not b && bytes_eq name s.name) (constructor_marked table id own tx s (Some body))

-- Kinds.

type_kind : (t : ResolvedType) → kind_of_type (type_code t) ≡ kind_of_resolved t
type_kind typed.Int = refl
type_kind typed.Bool = refl
type_kind typed.Text = refl
type_kind (typed.Reference id p) = refl

param_kind : (p : Param) (t : ResolvedType) → p.of ≡ t → kind_of_param (param_code p) ≡ kind_of_resolved p.of
param_kind p typed.Int e = rw e refl
param_kind p typed.Bool e = rw e refl
param_kind p typed.Text e = rw e refl
param_kind p (typed.Reference id q) e = rw e refl

param_kinds : (ps : List Param) → map kind_of_param (map param_code ps) ≡ kinds_passed ps
param_kinds [] = refl
param_kinds (p ∷ ps) = ap (λ k. k ∷ map kind_of_param (map param_code ps)) (param_kind p p.of refl) ∙ ap (λ ks. kind_of_resolved p.of ∷ ks) (param_kinds ps)

pub takes_params : (table : ClassTable) (id : ContractId) (own : Contract) (tx : TxId) (s : Signature) (body : Option SilicaBody)
    → TakesParams (emitted_body table id own tx s body) s
takes_params table id own tx s None = record { kinds = param_kinds s.params; count = length-map s.params param_code }
takes_params table id own tx s (Some body) = record { kinds = param_kinds s.params; count = length-map s.params param_code }

result_of : (t : Option ResolvedType) → option_map kind_of_type (option_map type_code t) ≡ option_map kind_of_resolved t
result_of None = refl
result_of (Some t) = ap Some (type_kind t)

pub result_given : (table : ClassTable) (id : ContractId) (own : Contract) (tx : TxId) (s : Signature) (body : Option SilicaBody)
    → kind_of_result (emitted_body table id own tx s body) ≡ option_map kind_of_resolved s.result
result_given table id own tx s None = result_of s.result
result_given table id own tx s (Some body) = result_of s.result

some_mapped : {A B : Type 0} (f : A → B) (o : Option A) → is_some (option_map f o) ≡ is_some o
some_mapped f None = refl
some_mapped f (Some x) = refl

pub results_given : (table : ClassTable) (id : ContractId) (own : Contract) (tx : TxId) (s : Signature)
    (body : Option SilicaBody) → is_some (emitted_body table id own tx s body).result ≡ is_some s.result
results_given table id own tx s None = some_mapped type_code s.result
results_given table id own tx s (Some body) = some_mapped type_code s.result

pub transaction_of : (table : ClassTable) (id : ContractId) (own : Contract) (tx : TxId) (s : Signature)
    (body : Option SilicaBody) → constructs table id tx.0 ≡ false
    → IsTransactionOf (emitted_body table id own tx s body) s
transaction_of table id own tx s body plain = record {
  params = takes_params table id own tx s body;
  result = result_given table id own tx s body;
  results = results_given table id own tx s body;
  plain = constructor_marked table id own tx s body ∙ plain;
}

-- Interfaces.

implements_so : (d : ContractId) (i : Option ContractId) → (implements_code i == d.0 + 1) ≡ option_map_or
    (λ (k : ContractId). nat_eq d.0 k.0) i false
implements_so d None = elim (eqb_tells 0 (d.0 + 1)) [ inl u ↦ let e : 0 ≡ d.0 + 1 = u.1 in absurd (omega arith) | inr u ↦ u.0 ]
implements_so d (Some k) = elim (eqb_tells d.0 k.0) [
  | inl u ↦ eq-eqb (suc k.0) (d.0 + 1) (let e : d.0 ≡ k.0 = u.1 in omega arith) ∙ sym u.0
  | inr u ↦ false_from_ne_true (suc k.0 == d.0 + 1) (λ e. let g : suc k.0 ≡ d.0 + 1 = eqb-true (suc k.0) (d.0 + 1) e in u.1 (omega arith)) ∙ sym u.0
]

-- a contract of the image implements an interface where that of the table does
pub implements_same : (table : ClassTable) (bodies : List SilicaBody) (c d : ContractId) (own : Contract)
    → contract_at table c ≡ Some own
    → implements_number d (emitted_contract table bodies c own) ≡ is_implemented table c d
implements_same table bodies c d own e =
    implements_so d own.implements ∙ sym (ap (λ o. option_map_or (λ (found : Contract). option_map_or (λ (k : ContractId). nat_eq d.0 k.0) found.implements false) o false) e)

pub implements_alone : (table : ClassTable) (bodies : List SilicaBody) → IsClassTable table
    → ImplementsInterfacesAlone (image_of table bodies)
implements_alone table bodies is_table = record { interfaces = interfaces; contracts = contracts }
  where
    interfaces : (c d : ContractId) (own other : ContractCode) → contract_code (image_of table bodies) c ≡ Some own
        → implements_number d own ≡ true → contract_code (image_of table bodies) d ≡ Some other
        → is_interface other ≡ true
    interfaces c d own other ec implements ed =
        let x = contract_emitted table bodies c own ec in
        let y = contract_emitted table bodies d other ed in
        let so : is_implemented table c d ≡ true = sym (implements_same table bodies c d x.own x.is_own) ∙ ap (implements_number d) x.same ∙ implements in
        let found = interface_is table is_table c d x.own x.is_own so in
        let same : found.0 ≡ y.own = some_same (sym found.1 ∙ y.is_own) in
        ap is_interface (sym y.same) ∙ interface_marked table bodies d y.own ∙ ap (λ (z : Contract). z.interface) (sym same) ∙ found.2

    contracts : (c d : ContractId) (own : ContractCode) → contract_code (image_of table bodies) c ≡ Some own
        → is_interface own ≡ true → implements_number d own ≡ false
    contracts c d own ec interface =
        let x = contract_emitted table bodies c own ec in
        let is_one : x.own.interface ≡ true = sym (interface_marked table bodies c x.own) ∙ ap is_interface x.same ∙ interface in
        ap (implements_number d) (sym x.same) ∙ implements_same table bodies c d x.own x.is_own ∙ interface_implements_none table is_table c d x.own x.is_own is_one

number_fits : (table : ClassTable) (bodies : List SilicaBody) (c i : ContractId)
    → option_map_or (implements_number i) (contract_code (image_of table bodies) c) false ≡ is_implemented table c i
number_fits table bodies c i = by_own (contract_at table c) refl
  where
    by_own : (o : Option Contract) → contract_at table c ≡ o
        → option_map_or (implements_number i) (contract_code (image_of table bodies) c) false ≡ is_implemented table c i
    by_own None e =
        let none : contract_code (image_of table bodies) c ≡ None = contract_same table bodies c ∙ ap (option_map (emitted_contract table bodies c)) e in
        ap (λ z. option_map_or (implements_number i) z false) none
        ∙ sym (ap (λ o. option_map_or (λ (found : Contract). option_map_or (λ (k : ContractId). nat_eq i.0 k.0) found.implements false) o false) e)
    by_own (Some own) e = ap (λ z. option_map_or (implements_number i) z false) (contract_found table bodies c own e) ∙ implements_same table bodies c i own e

either_fits : (table : ClassTable) (bodies : List SilicaBody) (i c : ContractId) → nat_eq i.0 c.0 || is_implemented table c i ≡ true
    → (c.0 == i.0) || option_map_or (implements_number i) (contract_code (image_of table bodies) c) false ≡ true
either_fits table bodies i c e = elim (or_cases (nat_eq i.0 c.0) (is_implemented table c i) e) [
  | inl same ↦ or_left (c.0 == i.0) (option_map_or (implements_number i) (contract_code (image_of table bodies) c) false) (eq-eqb c.0 i.0 (sym (eqb-true i.0 c.0 same)))
  | inr implements ↦ or_right (c.0 == i.0) (option_map_or (implements_number i) (contract_code (image_of table bodies) c) false) (number_fits table bodies c i ∙ implements)
]

-- what serves by the table fits by the image
pub serves_in : (table : ClassTable) (bodies : List SilicaBody) (wanted has : Kind) → serves_as table wanted has ≡ true
    → fits (image_of table bodies) has wanted ≡ true
serves_in table bodies kind.Int kind.Int e = refl
serves_in table bodies kind.Bool kind.Bool e = refl
serves_in table bodies kind.Text kind.Text e = refl
serves_in table bodies (kind.Reference i) (kind.Reference c) e = either_fits table bodies i c e
serves_in table bodies wanted has e = absurd (true≢false (sym e))

-- Fields.

pub field_in : (table : ClassTable) (bodies : List SilicaBody) (id : ContractId) (own : Contract) (n : FieldId) (field : Field)
    → field_at own n ≡ Some field
    → (option_map (λ (z : FieldCode). kind_of_type z.of) (slice_get (emitted_contract table bodies id own).fields n.0) ≡ Some (kind_of_resolved field.of)) × (n.0 < length (emitted_contract table bodies id own).fields)
field_in table bodies id own n field e =
    let there : slice_get (map field_code own.fields) n.0 ≡ Some (field_code field) = slice_get-map field_code own.fields n.0 ∙ ap (option_map field_code) e in
    (ap (option_map (λ (z : FieldCode). kind_of_type z.of)) there ∙ ap Some (type_kind field.of), slice_get_within (map field_code own.fields) n.0 (field_code field) there)
