-- What an emitted image has at a number, and what the conditions on the class table say of it.
use Rattle.std.proofs.Common.{◌≡◌, ℕ, zero, suc, ◌+◌, ◌<◌, Bool, true, false, cond, List, [], ◌∷◌, length, Option, Some, None, refl, sym, ap, ◌∙◌, subst, arith, eqb-true}
use Rattle.std.proofs.lemmas.Bool.{and_parts, not-true, lt-ltb}
use Rattle.std.proofs.lemmas.Option.{slice_get_within, get_or_from_slice_get}
use Rattle.std.specs.Prelude.{not, ◌&&◌, nat_eq, nat_lt, find, position, slice_get, option_map, All, IsSomeAnd, MatchBool}
use Rattle.std.specs.List.{position_or_len}
use Rattle.std.specs.Option.{option_map_or}
use Rattle.ob_base.specs.Optional.{◌>>=◌}
use Rattle.ob_base.specs.declared.id.ContractId.{ContractId}
use Rattle.ob_base.specs.declared.id.TxId.{TxId}
use Rattle.ob_table.specs.Tables.{ClassTable, contract_at, contract_id, signature_at}
use Rattle.ob_table.specs.declared.contract.Contract.{Contract}
use Rattle.ob_table.specs.declared.contract.Signature.{Signature}
use Rattle.ob_table_spec.specs.Conditions.{IsClassTable, IsContract, IsConstructor}
use Rattle.ob_table_spec.specs.WellFormed.{is_constructor as constructs}
use Rattle.ob_silica.specs.Terms.{SilicaBody}
use Rattle.ob_silica_steps.specs.Calling.{constructor_id}
use Rattle.ob_silica_steps.specs.Configurations.{is_terms_of}
use Rattle.ob_code.specs.declared.image.BodyCode.{BodyCode}
use Rattle.ob_code.specs.declared.image.ContractCode.{ContractCode}
use Rattle.ob_code.specs.Code.{is_constructor, contract_code, body_code}
use Rattle.ob_emit_spec.specs.EmittedImages.{emitted_body, tx_id, emitted_bodies, emitted_contract, emitted_contracts, image_of}
use Rattle.ob_emit_spec.proofs.Marks.{constructor_marked}

-- Contracts.

contract_there : (table : ClassTable) (bodies : List SilicaBody) (n k : ℕ) (cs : List Contract)
    → slice_get (emitted_contracts table bodies n cs) k
    ≡ option_map (emitted_contract table bodies (contract_id (n + k))) (slice_get cs k)
contract_there table bodies n k [] = refl
contract_there table bodies n zero (c ∷ cs) =
    let e : n ≡ n + 0 = omega arith in
    ap (λ m. Some (emitted_contract table bodies (contract_id m) c)) e
contract_there table bodies n (suc k) (c ∷ cs) =
    let e : n + 1 + k ≡ n + suc k = omega arith in
    contract_there table bodies (n + 1) k cs
    ∙ ap (λ m. option_map (emitted_contract table bodies (contract_id m)) (slice_get cs k)) e

-- the contract of a number in the image is that of the table
pub contract_same : (table : ClassTable) (bodies : List SilicaBody) (id : ContractId)
    → contract_code (image_of table bodies) id ≡ option_map (emitted_contract table bodies id) (contract_at table id)
contract_same table bodies id =
    let e : 0 + id.0 ≡ id.0 = omega arith in
    contract_there table bodies 0 id.0 table.contracts
    ∙ ap (λ m. option_map (emitted_contract table bodies (contract_id m)) (contract_at table id)) e

pub contract_found : (table : ClassTable) (bodies : List SilicaBody) (id : ContractId) (own : Contract)
    → contract_at table id ≡ Some own
    → contract_code (image_of table bodies) id ≡ Some (emitted_contract table bodies id own)
contract_found table bodies id own e = contract_same table bodies id ∙ ap (option_map (emitted_contract table bodies id)) e

-- Bodies.

-- the body of a number, with this signature
abbrev pub emitted_at : ClassTable → List SilicaBody → ContractId → Contract → TxId → Signature → BodyCode
emitted_at table bodies id own tx s = emitted_body table id own tx s (find (is_terms_of id tx) bodies)

body_there : (table : ClassTable) (bodies : List SilicaBody) (id : ContractId) (own : Contract) (n k : ℕ) (ss : List Signature)
    → slice_get (emitted_bodies table bodies id own n ss) k
    ≡ option_map (emitted_at table bodies id own (tx_id (n + k))) (slice_get ss k)
body_there table bodies id own n k [] = refl
body_there table bodies id own n zero (s ∷ ss) =
    let e : n ≡ n + 0 = omega arith in
    ap (λ m. Some (emitted_at table bodies id own (tx_id m) s)) e
body_there table bodies id own n (suc k) (s ∷ ss) =
    let e : n + 1 + k ≡ n + suc k = omega arith in
    body_there table bodies id own (n + 1) k ss
    ∙ ap (λ m. option_map (emitted_at table bodies id own (tx_id m)) (slice_get ss k)) e

-- the body of a number in a contract of the image has the signature of that number
pub body_same : (table : ClassTable) (bodies : List SilicaBody) (id : ContractId) (own : Contract) (tx : TxId)
    → slice_get (emitted_contract table bodies id own).bodies tx.0
    ≡ option_map (emitted_at table bodies id own tx) (signature_at own tx)
body_same table bodies id own tx =
    let e : 0 + tx.0 ≡ tx.0 = omega arith in
    body_there table bodies id own 0 tx.0 own.transactions
    ∙ ap (λ m. option_map (emitted_at table bodies id own (tx_id m)) (signature_at own tx)) e

-- a body of the image, whether it has terms or not
pub signed_found : (table : ClassTable) (bodies : List SilicaBody) (id : ContractId) (own : Contract) (tx : TxId) (s : Signature)
    → contract_at table id ≡ Some own → signature_at own tx ≡ Some s
    → body_code (image_of table bodies) id tx ≡ Some (emitted_body table id own tx s (find (is_terms_of id tx) bodies))
signed_found table bodies id own tx s eo es =
    ap (λ (z : Option ContractCode). z >>= λ (c : ContractCode). slice_get c.bodies tx.0) (contract_found table bodies id own eo)
    ∙ body_same table bodies id own tx ∙ ap (option_map (emitted_at table bodies id own tx)) es

pub bodies_length : (table : ClassTable) (bodies : List SilicaBody) (id : ContractId) (own : Contract) (n : ℕ)
    (ss : List Signature)
    → length (emitted_bodies table bodies id own n ss) ≡ length ss
bodies_length table bodies id own n [] = refl
bodies_length table bodies id own n (s ∷ ss) = ap suc (bodies_length table bodies id own (n + 1) ss)

-- The conditions on the class table.

pub all_at : {A : Type 0} (P : A → Type 0) (xs : List A) (n : ℕ) (x : A) → All P xs → slice_get xs n ≡ Some x → P x
all_at P xs n x all e = subst P (get_or_from_slice_get xs n x x e) (all n x (slice_get_within xs n x e))

pub contract_meets : (table : ClassTable) → IsClassTable table → (id : ContractId) (own : Contract)
    → contract_at table id ≡ Some own
    → IsContract table own
contract_meets table conditions id own e = all_at (IsContract table) table.contracts id.0 own conditions.contracts e

-- the constructor of a contract stands first
pub constructor_first : (table : ClassTable) (own : Contract) → IsContract table own → own.interface ≡ false
    → (own.constructor ≡ Some constructor_id) × IsSomeAnd (slice_get own.transactions 0) (IsConstructor table own)
constructor_first table own c plain =
    subst (λ b. MatchBool b (own.constructor ≡ None)
    ((own.constructor ≡ Some constructor_id)
    × IsSomeAnd (slice_get own.transactions 0) (IsConstructor table own))) plain c.constructor

-- an interface has none
pub interface_constructs_none : (table : ClassTable) (own : Contract) → IsContract table own → own.interface ≡ true
    → own.constructor ≡ None
interface_constructs_none table own c interface =
    subst (λ b. MatchBool b (own.constructor ≡ None)
    ((own.constructor ≡ Some constructor_id)
    × IsSomeAnd (slice_get own.transactions 0) (IsConstructor table own))) interface c.constructor

pub constructs_so : (table : ClassTable) (id : ContractId) (own : Contract) → contract_at table id ≡ Some own → (n : ℕ)
    → constructs table id n ≡ not own.interface && nat_eq n 0
constructs_so table id own e n = ap (λ o. option_map_or (λ (c : Contract). not c.interface && nat_eq n 0) o false) e

-- a constructor is that of a contract, and stands first
pub constructor_parts : (table : ClassTable) (id : ContractId) (own : Contract) → contract_at table id ≡ Some own → (n : ℕ)
    → constructs table id n ≡ true → (own.interface ≡ false) × (n ≡ 0)
constructor_parts table id own e n is =
    let p = and_parts (not own.interface) (nat_eq n 0) (sym (constructs_so table id own e n) ∙ is) in
    (not-true own.interface p.0, eqb-true n 0 p.1)

-- The place of the constructor.

first_place : (p : BodyCode → Bool) (b : BodyCode) (bs : List BodyCode) → p b ≡ true → position p (b ∷ bs) ≡ Some 0
first_place p b bs e =
    let low : 0 < suc (length bs) = omega arith in
    ap (λ t. let n = cond (not t) (1 + position_or_len p bs) 0 in cond (nat_lt n (suc (length bs))) (Some n) None) e
    ∙ ap (λ t. cond t (Some 0) None) (lt-ltb 0 (suc (length bs)) low)

-- of a contract's bodies the first is its constructor's
pub constructor_there : (table : ClassTable) (bodies : List SilicaBody) (id : ContractId) (own : Contract) (ss : List Signature)
    → contract_at table id ≡ Some own → own.interface ≡ false → IsSomeAnd (slice_get ss 0) (IsConstructor table own)
    → position is_constructor (emitted_bodies table bodies id own 0 ss) ≡ Some 0
constructor_there table bodies id own [] e plain first = absurd first
constructor_there table bodies id own (s ∷ ss) e plain first =
    first_place is_constructor (emitted_at table bodies id own (tx_id 0) s) (emitted_bodies table bodies id own 1 ss)
    (constructor_marked table id own (tx_id 0) s (find (is_terms_of id (tx_id 0)) bodies)
    ∙ constructs_so table id own e 0 ∙ ap (λ b. not b && nat_eq 0 0) plain)
