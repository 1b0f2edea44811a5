-- The image of a program says the same as its class table.
use Rattle.std.proofs.Common.{◌≡◌, ◌≢◌, ℕ, suc, ◌+◌, ◌<◌, Bool, true, false, cond, List, [], ◌∷◌, map, length, drop, Option, Some, None, refl, sym, ap, ◌∙◌, subst, arith, eqb-true, true≢false}
use Rattle.std.proofs.lemmas.Bool.{false≢true, false_from_ne_true, lt-ltb}
use Rattle.std.proofs.lemmas.List.{get_or-map, length-map}
use Rattle.std.proofs.lemmas.List.Sums.{position_or_len_is}
use Rattle.std.proofs.lemmas.Option.{slice_get-map, slice_get_within, get_or_from_slice_get, same_Some}
use Rattle.std.proofs.lemmas.Slice.Eq.{bytes_eq-Decides}
use Rattle.std.specs.Prelude.{not, ◌&&◌, ◌==◌, nat_lt, get_or, find, position, slice_get, option_map, option_and_then, bytes_eq, All, IsTrue, IsSomeAnd, IfSome, if◌then◌else◌}
use Rattle.std.specs.List.{position_or_len}
use Rattle.std.specs.Option.{option_map_or}
use Rattle.ob_base.specs.Names.{is_name}
use Rattle.ob_base.specs.Optional.{◌>>=◌}
use Rattle.ob_base.specs.declared.id.ContractId.{ContractId}
use Rattle.ob_base.specs.declared.id.StateId.{StateId}
use Rattle.ob_base.specs.declared.id.TxId.{TxId}
use Rattle.ob_table.specs.Tables.{ClassTable, contract_at, signature_at, signature_of}
use Rattle.ob_table.specs.declared.contract.Contract.{Contract}
use Rattle.ob_table.specs.declared.contract.Field.{Field}
use Rattle.ob_table.specs.declared.contract.Signature.{Signature}
use Rattle.ob_table_spec.specs.Conditions.{IsContract, IsTransaction, IsConstructor, MeetsInterface, AreDistinct}
use Rattle.ob_table_spec.specs.WellFormed.{is_constructor as constructs}
use Rattle.ob_heap_spec.specs.Dispatch.{transaction_named, implements_it, answering}
use Rattle.ob_heap_spec.specs.Objects.{Object, state_number, is_available, has_field, seen_between, seen_state, is_in_state}
use Rattle.ob_silica.specs.Terms.{SilicaBody}
use Rattle.ob_silica_steps.specs.Calling.{constructor_id}
use Rattle.ob_silica_steps.specs.Configurations.{SilicaProgram, is_terms_of}
use Rattle.ob_code.specs.declared.image.BodyCode.{BodyCode}
use Rattle.ob_code.specs.declared.image.ContractCode.{ContractCode}
use Rattle.ob_code.specs.declared.instruction.Instruction.{Instruction}
use Rattle.ob_code.specs.Code.{is_interface, is_transaction_named, contract_code, body_code}
use Rattle.ob_code_table.specs.Images.{instruction_of, instruction_at, constructor_number, constructor_of, transaction_number, is_available_in, has_field_code, named_between, state_seen_by, is_in_state_of, CalleeId, answer_of, callee}
use Rattle.ob_emit_spec.specs.EmittedImages.{field_code, emitted_body, tx_id, emitted_bodies, emitted_contract}
use Rattle.ob_emit_spec.proofs.Contracts as emitted
use Rattle.ob_emit_spec.proofs.Contracts.{emitted_at, body_same, bodies_length, all_at, constructor_first, constructor_parts, constructor_there}
pub use Rattle.ob_emit_spec.proofs.Contracts.{contract_meets}
pub use Rattle.ob_emit_spec.proofs.Marks.{interface_marked, private_marked, constructor_marked, share_entry_marked}
use Rattle.ob_coherent_spec.specs.Remaining.{IsCheckedProgram}
use Rattle.ob_emit_correct.specs.Law.{code_of}
use Rattle.ob_emit_correct.proofs.Matching.{HasBody, code_in}

-- Contracts.

-- the contract of a number in the image is that of the table
pub contract_same : (program : SilicaProgram) (id : ContractId)
    → contract_code (code_of program) id ≡ option_map (emitted_contract program.table program.bodies id)
    (contract_at program.table id)
contract_same program id = emitted.contract_same program.table program.bodies id

pub contract_found : (program : SilicaProgram) (id : ContractId) (own : Contract) → contract_at program.table id ≡ Some own
    → contract_code (code_of program) id ≡ Some (emitted_contract program.table program.bodies id own)
contract_found program id own e = emitted.contract_found program.table program.bodies id own e

-- a contract of the image is that of one of the table
pub record IsEmitted (program : SilicaProgram) (id : ContractId) (c : ContractCode) : Type 0 where
  pub own : Contract
  pub is_own : contract_at program.table id ≡ Some own
  pub same : c ≡ emitted_contract program.table program.bodies id own

pub contract_emitted : (program : SilicaProgram) (id : ContractId) (c : ContractCode)
    → contract_code (code_of program) id ≡ Some c
    → IsEmitted program id c
contract_emitted program id c e = by_own (contract_at program.table id) refl
  where
    by_own : (o : Option Contract) → contract_at program.table id ≡ o → IsEmitted program id c
    by_own None i =
        let none : contract_code (code_of program) id ≡ None =
        contract_same program id ∙ ap (option_map (emitted_contract program.table program.bodies id)) i in
        absurd cc
    by_own (Some own) i = record { own = own; is_own = i; same = same_Some c _ (sym e ∙ contract_found program id own i) }

-- Bodies.

-- a body of the image, whether it has terms or not
pub signed_found : (program : SilicaProgram) (id : ContractId) (own : Contract) (tx : TxId) (s : Signature)
    → contract_at program.table id ≡ Some own → signature_at own tx ≡ Some s
    → body_code (code_of program) id tx ≡ Some (emitted_body program.table id own tx s (find (is_terms_of id tx) program.bodies))
signed_found program id own tx s eo es = emitted.signed_found program.table program.bodies id own tx s eo es

pub body_found : (program : SilicaProgram) (id : ContractId) (tx : TxId) (b : HasBody program id tx)
    → body_code (code_of program) id tx ≡ Some (emitted_body program.table id b.own tx b.signature (Some b.body))
body_found program id tx b =
    signed_found program id b.own tx b.signature b.is_own b.is_signature
    ∙ ap (λ z. Some (emitted_body program.table id b.own tx b.signature z)) b.found

-- the instructions of the image are those of the body's code
pub instruction_same : (program : SilicaProgram) (id : ContractId) (tx : TxId) (b : HasBody program id tx) (at : ℕ)
    → instruction_at (code_of program) id tx at ≡ slice_get (code_in program id tx b) at
instruction_same program id tx b at =
    ap (λ (z : Option ContractCode). z >>= λ (c : ContractCode). instruction_of c tx at) (contract_found program id b.own b.is_own)
    ∙ ap (λ (x : Bool). if x then None else instruction_in (slice_get own.bodies tx.0))
    (interface_marked program.table program.bodies id b.own ∙ b.class)
    ∙ ap instruction_in
    (sym (ap (λ (z : Option ContractCode). z >>= λ (c : ContractCode). slice_get c.bodies tx.0) (contract_found program id b.own b.is_own))
    ∙ body_found program id tx b)
  where
    own : ContractCode
    own = emitted_contract program.table program.bodies id b.own

    instruction_in : Option BodyCode → Option Instruction
    instruction_in body = body >>= λ (c : BodyCode). slice_get c.instructions at

pub instruction_found : (program : SilicaProgram) (id : ContractId) (tx : TxId) (b : HasBody program id tx) (at : ℕ)
    (i : Instruction)
    → slice_get (code_in program id tx b) at ≡ Some i → instruction_at (code_of program) id tx at ≡ Some i
instruction_found program id tx b at i e = instruction_same program id tx b at ∙ e

-- Fields and states.

available_agree : (state : Option StateId) (f : Option Field)
    → option_map_or (is_available_in state) (option_map field_code f) false ≡ option_map_or (is_available state) f false
available_agree state None = refl
available_agree state (Some f) = refl

pub fields_agree : (table : ClassTable) (bodies : List SilicaBody) (id : ContractId) (own : Contract) (state : Option StateId)
    (k : ℕ)
    → has_field_code (emitted_contract table bodies id own) state k ≡ has_field own state k
fields_agree table bodies id own state k =
    ap (λ f. option_map_or (is_available_in state) f false) (slice_get-map field_code own.fields k)
    ∙ available_agree state (slice_get own.fields k)

between_agree : (program : SilicaProgram) (c d : ContractId) (declared own : Option Contract) (s : ℕ)
    → named_between (option_map (emitted_contract program.table program.bodies c) declared)
    (option_map (emitted_contract program.table program.bodies d) own) s ≡ seen_between declared own s
between_agree program c d None None s = refl
between_agree program c d None (Some own) s = refl
between_agree program c d (Some declared) None s = refl
between_agree program c d (Some declared) (Some own) s = refl

seen_agree : (program : SilicaProgram) (declared : ContractId) (o : Object)
    → state_seen_by (code_of program) declared o ≡ seen_state program.table declared o
seen_agree program declared o =
    ap (λ z. if declared.0 == o.contract.0 then state_number o.state else z)
    (ap (λ c. named_between c (contract_code (code_of program) o.contract) (state_number o.state))
    (contract_same program declared)
    ∙ ap (λ c. named_between (option_map (emitted_contract program.table program.bodies declared)
    (contract_at program.table declared)) c (state_number o.state)) (contract_same program o.contract)
    ∙ between_agree program declared o.contract (contract_at program.table declared) (contract_at program.table o.contract)
    (state_number o.state))

pub states_agree : (program : SilicaProgram) (declared : ContractId) (s : StateId) (o : Object)
    → is_in_state_of (code_of program) declared s o ≡ is_in_state program.table declared s o
states_agree program declared s o = ap (λ n. n == s.0) (seen_agree program declared o)

-- Names of transactions.

-- no constructor of a contract has this name
record NamesNoConstructor (table : ClassTable) (id : ContractId) (own : Contract) (name : List ℕ) : Type 0 where
  each : (k : ℕ) (s : Signature) → slice_get own.transactions k ≡ Some s → constructs table id k ≡ true
      → bytes_eq name s.name ≡ false

named_so : (table : ClassTable) (id : ContractId) (own : Contract) (tx : TxId) (s : Signature) (name : List ℕ)
    (body : Option SilicaBody)
    → is_transaction_named name (emitted_body table id own tx s body) ≡ not (constructs table id tx.0) && bytes_eq name s.name
named_so table id own tx s name None = ap (λ b. not b && bytes_eq name s.name) (constructor_marked table id own tx s None)
named_so table id own tx s name (Some body) = ap (λ b. not b && bytes_eq name s.name)
    (constructor_marked table id own tx s (Some body))

named_if : (constructor named : Bool) → (constructor ≡ true → named ≡ false) → not constructor && named ≡ named
named_if true named h = sym (h refl)
named_if false named h = refl

place_same : (table : ClassTable) (bodies : List SilicaBody) (id : ContractId) (own : Contract) (name : List ℕ) (n : ℕ)
    (ss : List Signature)
    → ((k : ℕ) (s : Signature) → slice_get ss k ≡ Some s → constructs table id (n + k) ≡ true → bytes_eq name s.name ≡ false)
    → position_or_len (is_transaction_named name) (emitted_bodies table bodies id own n ss)
    ≡ position_or_len (λ (s : Signature). bytes_eq name s.name) ss
place_same table bodies id own name n [] h = refl
place_same table bodies id own name n (s ∷ ss) h =
    let zero_more : n + 0 ≡ n = omega arith in
    let named : is_transaction_named name (emitted_body table id own (tx_id n) s (find (is_terms_of id (tx_id n)) bodies))
    ≡ bytes_eq name s.name =
    named_so table id own (tx_id n) s name (find (is_terms_of id (tx_id n)) bodies)
    ∙ named_if (constructs table id n) (bytes_eq name s.name) (λ e. h 0 s refl (ap (constructs table id) zero_more ∙ e)) in
    ap (λ t. cond (not t) (1 + position_or_len (is_transaction_named name)
    (emitted_bodies table bodies id own (n + 1) ss)) 0) named
    ∙ ap (λ m. cond (not (bytes_eq name s.name)) (1 + m) 0)
    (place_same table bodies id own name (n + 1) ss
    (λ k x e is. let more : n + suc k ≡ n + 1 + k = omega arith in h (suc k) x e (ap (constructs table id) more ∙ is)))

-- a place as that of a list of so many
abbrev place_in : ℕ → ℕ → Option TxId
place_in count place = option_map (λ n. record { 0 = n }) (cond (nat_lt place count) (Some place) None)

-- a name that no constructor has is that of the same transaction in the image
names_agree : (table : ClassTable) (bodies : List SilicaBody) (id : ContractId) (own : Contract) (name : List ℕ)
    → NamesNoConstructor table id own name
    → transaction_number (emitted_contract table bodies id own) name ≡ transaction_named own name
names_agree table bodies id own name h =
    ap (λ n. place_in n (position_or_len (is_transaction_named name) (emitted_bodies table bodies id own 0 own.transactions)))
    (bodies_length table bodies id own 0 own.transactions)
    ∙ ap (place_in (length own.transactions))
    (place_same table bodies id own name 0 own.transactions
    (λ k s e is. let same : 0 + k ≡ k = omega arith in h.each k s e (ap (constructs table id) (sym same) ∙ is)))

-- an interface has no constructor
no_constructor_of_interface : (table : ClassTable) (id : ContractId) (own : Contract) → contract_at table id ≡ Some own
    → own.interface ≡ true → (name : List ℕ) → NamesNoConstructor table id own name
no_constructor_of_interface table id own e interface name =
    record { each = λ k s es is. absurd (true≢false (sym interface ∙ (constructor_parts table id own e k is).0)) }

no_bytes : (xs : List ℕ) → IsTrue (is_name xs) → bytes_eq xs [] ≡ false
no_bytes [] named = absurd (false≢true named)
no_bytes (x ∷ xs) named = refl

-- a contract's constructor has no name
no_constructor_named : (table : ClassTable) (id : ContractId) (own : Contract) → contract_at table id ≡ Some own
    → IsContract table own → (name : List ℕ) → IsTrue (is_name name) → NamesNoConstructor table id own name
no_constructor_named table id own e c name named = record {
  each = λ k s es is. unnamed k s es
      (constructor_parts table id own e k is);
}
  where
    unnamed : (k : ℕ) (s : Signature) → slice_get own.transactions k ≡ Some s → (own.interface ≡ false) × (k ≡ 0)
        → bytes_eq name s.name ≡ false
    unnamed k s es p =
        let first : IsConstructor table own s = subst (λ o. IsSomeAnd o (IsConstructor table own))
        (ap (slice_get own.transactions) (sym p.1) ∙ es) (constructor_first table own c p.0).1 in
        ap (bytes_eq name) first.name ∙ no_bytes name named

-- the transactions of an interface have names of their own
interface_named : (table : ClassTable) (own : Contract) → IsContract table own → own.interface ≡ true → (n : ℕ) (s : Signature)
    → slice_get own.transactions n ≡ Some s → IsTrue (is_name s.name)
interface_named table own c interface n s e =
    (all_at (IsTransaction table own) own.transactions n s
    (subst (λ b. All (IsTransaction table own)
    (if b then own.transactions else drop 1 own.transactions)) interface c.transactions) e).name

names_differ : (a b : List ℕ) → a ≢ b → bytes_eq a b ≡ false
names_differ a b ne = false_from_ne_true (bytes_eq a b) (λ e. ne ((bytes_eq-Decides a b).0 e))

-- of distinct names the one at a number is the first of that name
first_named : (ss : List Signature) → AreDistinct (map (λ s. s.name) ss) → (n : ℕ) (s : Signature) → slice_get ss n ≡ Some s
    → position (λ (x : Signature). bytes_eq s.name x.name) ss ≡ Some n
first_named ss distinct n s e =
    let low : n < length ss = slice_get_within ss n s e in
    let at : position_or_len (λ (x : Signature). bytes_eq s.name x.name) ss ≡ n =
    position_or_len_is (λ (x : Signature). bytes_eq s.name x.name) ss n s (omega arith) before
    (λ l. (bytes_eq-Decides s.name (get_or ss n s).name).1
    (ap (λ (x : Signature). x.name) (sym (get_or_from_slice_get ss n s s e)))) in
    ap (λ m. cond (nat_lt m (length ss)) (Some m) None) at ∙ ap (λ b. cond b (Some n) None) (lt-ltb n (length ss) low)
  where
    before : (k : ℕ) → k < n → bytes_eq s.name (get_or ss k s).name ≡ false
    before k lt =
        let low : n < length ss = slice_get_within ss n s e in
        names_differ s.name (get_or ss k s).name
        (λ same. distinct k n s.name lt (subst (λ m. n < m) (sym (length-map ss (λ (x : Signature). x.name))) low)
        (get_or-map (λ (x : Signature). x.name) ss k s s.name (omega arith) ∙ sym same
        ∙ ap (λ (x : Signature). x.name) (sym (get_or_from_slice_get ss n s s e))
        ∙ sym (get_or-map (λ (x : Signature). x.name) ss n s s.name low)))

-- Callees.

-- the contract and the signature of a declared transaction
record IsDeclared (table : ClassTable) (contract : ContractId) (tx : TxId) (asked : Signature) : Type 0 where
  own : Contract
  is_own : contract_at table contract ≡ Some own
  signature : signature_at own tx ≡ Some asked

declared_parts : (table : ClassTable) (contract : ContractId) (tx : TxId) (asked : Signature)
    → signature_of table contract tx ≡ Some asked → IsDeclared table contract tx asked
declared_parts table contract tx asked e = by_own (contract_at table contract) refl
  where
    by_own : (o : Option Contract) → contract_at table contract ≡ o → IsDeclared table contract tx asked
    by_own None i = let none : signature_of table contract tx
        ≡ None = ap (option_and_then (λ (c : Contract). signature_at c tx)) i in absurd cc
    by_own (Some own) i =
        record { own = own; is_own = i; signature = sym (ap (option_and_then (λ (c : Contract). signature_at c tx)) i) ∙ e }

-- what answers for a transaction of a contract or interface by its name
abbrev named_answer : SilicaProgram → ContractId → TxId → Object → Contract → Option CalleeId
named_answer program contract tx o d =
    slice_get (emitted_contract program.table program.bodies contract d).bodies tx.0 >>= answer_of (code_of program) o

-- what a call of a contract or interface runs, once that is known
callee_of : (program : SilicaProgram) (contract : ContractId) (tx : TxId) (o : Object) (d : Contract)
    → contract_at program.table contract ≡ Some d
    → callee (code_of program) contract tx o ≡ (if d.interface then named_answer program contract tx o d else Some (contract, tx))
callee_of program contract tx o d e =
    ap (λ (z : Option ContractCode). z >>= λ (c : ContractCode).
    if is_interface c then (slice_get c.bodies tx.0 >>= answer_of (code_of program) o) else Some (contract, tx))
    (contract_found program contract d e)
    ∙ ap (λ b. if b then named_answer program contract tx o d else Some (contract, tx))
    (interface_marked program.table program.bodies contract d)

body_name : (table : ClassTable) (id : ContractId) (own : Contract) (tx : TxId) (s : Signature) (body : Option SilicaBody)
    → (emitted_body table id own tx s body).name ≡ s.name
body_name table id own tx s None = refl
body_name table id own tx s (Some body) = refl

-- of an interface, the transaction of the object's contract that has the name
by_interface : (program : SilicaProgram) (contract : ContractId) (tx : TxId) (asked : Signature) (o : Object) (d own : Contract)
    (t : TxId)
    → contract_at program.table contract ≡ Some d → d.interface ≡ true → signature_at d tx ≡ Some asked
    → contract_at program.table o.contract ≡ Some own → NamesNoConstructor program.table o.contract own asked.name
    → transaction_named own asked.name ≡ Some t → callee (code_of program) contract tx o ≡ Some (o.contract, t)
by_interface program contract tx asked o d own t ed interface es eo names named =
    let body = emitted_at program.table program.bodies contract d tx asked in
    callee_of program contract tx o d ed
    ∙ ap (λ b. if b then named_answer program contract tx o d else Some (contract, tx)) interface
    ∙ ap (λ z. z >>= answer_of (code_of program) o) (body_same program.table program.bodies contract d tx
    ∙ ap (option_map (emitted_at program.table program.bodies contract d tx)) es)
    ∙ ap (λ (z : Option ContractCode). z >>= λ (c : ContractCode). transaction_number c body.name >>= answer)
    (contract_found program o.contract own eo)
    ∙ ap (λ name. transaction_number (emitted_contract program.table program.bodies o.contract own) name >>= answer)
    (body_name program.table contract d tx asked (find (is_terms_of contract tx) program.bodies))
    ∙ ap (λ z. z >>= answer) (names_agree program.table program.bodies o.contract own asked.name names ∙ named)
  where
    answer : TxId → Option CalleeId
    answer n = Some (o.contract, n)

same_id : (a b : ContractId) → (a.0 == b.0) ≡ true → a ≡ b
same_id a b e = ap (λ n. let made : ContractId = record { 0 = n } in made) (eqb-true a.0 b.0 e)

-- of the object's own contract, that transaction
by_own_contract : (program : SilicaProgram) → IsCheckedProgram program
    → (tx : TxId) (asked : Signature) (o : Object) (own : Contract) (b : Bool) → own.interface ≡ b
    → contract_at program.table o.contract ≡ Some own → signature_at own tx ≡ Some asked
    → callee (code_of program) o.contract tx o ≡ Some (o.contract, tx)
by_own_contract program checked tx asked o own false plain eo es =
    callee_of program o.contract tx o own eo
    ∙ ap (λ b. if b then named_answer program o.contract tx o own else Some (o.contract, tx)) plain
by_own_contract program checked tx asked o own true interface eo es =
    let c = contract_meets program.table checked.table o.contract own eo in
    let distinct : AreDistinct (map (λ (s : Signature). s.name) own.transactions) =
    subst (λ b. AreDistinct (map (λ (s : Signature). s.name)
    (if b then own.transactions else drop 1 own.transactions))) interface c.distinct_transactions in
    by_interface program o.contract tx asked o own own tx eo interface es eo
    (no_constructor_of_interface program.table o.contract own eo interface asked.name)
    (ap (option_map (λ n. let made : TxId = record { 0 = n } in made)) (first_named own.transactions distinct tx.0 asked es))

implemented_is : (declared : ContractId) (i : Option ContractId)
    → option_map_or (λ (id : ContractId). declared.0 == id.0) i false ≡ true → i ≡ Some declared
implemented_is declared None e = absurd (false≢true e)
implemented_is declared (Some id) e = ap Some (sym (same_id declared id e))

-- of an interface that the object's contract implements, the transaction that answers
by_implemented : (program : SilicaProgram) → IsCheckedProgram program
    → (contract : ContractId) (tx : TxId) (asked : Signature) (o : Object) (d own : Contract) (t : TxId)
    → contract_at program.table contract ≡ Some d → signature_at d tx ≡ Some asked
    → contract_at program.table o.contract ≡ Some own
    → implements_it contract own ≡ true → transaction_named own asked.name ≡ Some t
    → callee (code_of program) contract tx o ≡ Some (o.contract, t)
by_implemented program checked contract tx asked o d own t ed es eo implements named =
    let c = contract_meets program.table checked.table o.contract own eo in
    let met : IsSomeAnd (contract_at program.table contract)
    (λ interface. (interface.interface ≡ true) × MeetsInterface interface own) =
    subst (λ i. IfSome i (λ id. IsSomeAnd (contract_at program.table id)
    (λ interface. (interface.interface ≡ true) × MeetsInterface interface own)))
    (implemented_is contract own.implements implements) c.implements in
    let interface : d.interface ≡ true = (subst
    (λ z. IsSomeAnd z (λ interface. (interface.interface ≡ true) × MeetsInterface interface own)) ed met).0 in
    by_interface program contract tx asked o d own t ed interface es eo
    (no_constructor_named program.table o.contract own eo c asked.name
    (interface_named program.table d (contract_meets program.table checked.table contract d ed) interface tx.0 asked es)) named

-- what answers a call is what the machine runs for it
pub callee_found : (program : SilicaProgram) → IsCheckedProgram program
    → (contract : ContractId) (tx : TxId) (asked : Signature) (o : Object) (own : Contract) (t : TxId)
    → signature_of program.table contract tx ≡ Some asked → contract_at program.table o.contract ≡ Some own
    → answering contract tx asked o.contract own ≡ Some t
    → callee (code_of program) contract tx o ≡ Some (o.contract, t)
callee_found program checked contract tx asked o own t easked eo answers = by_same (contract.0 == o.contract.0) refl answers
  where
    declared : IsDeclared program.table contract tx asked
    declared = declared_parts program.table contract tx asked easked

    by_name : (b : Bool) → implements_it contract own ≡ b → (if b then transaction_named own asked.name else None) ≡ Some t
        → callee (code_of program) contract tx o ≡ Some (o.contract, t)
    by_name true e f =
        by_implemented program checked contract tx asked o declared.own own t declared.is_own declared.signature eo e f
    by_name false e f = absurd (let none : ◌≡◌ {A = Option TxId} None (Some t) = f in cc)

    by_same : (b : Bool) → (contract.0 == o.contract.0) ≡ b
        → (if b then Some tx else if implements_it contract own then transaction_named own asked.name else None) ≡ Some t
        → callee (code_of program) contract tx o ≡ Some (o.contract, t)
    by_same true e f =
        let one = same_id contract o.contract e in
        let same : declared.own ≡ own = same_Some declared.own own
        (sym declared.is_own ∙ ap (contract_at program.table) one ∙ eo) in
        ap (λ c. callee (code_of program) c tx o) one
        ∙ by_own_contract program checked tx asked o own own.interface refl eo
        (ap (λ c. signature_at c tx) (sym same) ∙ declared.signature)
        ∙ ap (λ z. Some (o.contract, z)) (same_Some tx t f)
    by_same false e f = by_name (implements_it contract own) refl f

-- Constructors.

-- the constructor of a contract that is no interface has the number 0
pub constructor_found : (program : SilicaProgram) → IsCheckedProgram program → (id : ContractId) (own : Contract)
    → contract_at program.table id ≡ Some own → own.interface ≡ false → constructor_of (code_of program) id ≡ Some constructor_id
constructor_found program checked id own e plain =
    ap (λ (z : Option ContractCode). z >>= constructor_number) (contract_found program id own e)
    ∙ ap (option_map (λ n. let made : TxId = record { 0 = n } in made))
    (constructor_there program.table program.bodies id own own.transactions e plain
    (constructor_first program.table own (contract_meets program.table checked.table id own e) plain).1)
