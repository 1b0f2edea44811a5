-- What calls and `new` name is there in the image of a class table.
use Rattle.std.proofs.Common.{◌≡◌, ◌≢◌, ℕ, zero, suc, ◌+◌, ◌<◌, Bool, true, false, cond, List, [], ◌∷◌, map, length, drop, Option, Some, None, Contains, slice_get, get_or, refl, sym, ap, ◌∙◌, subst, arith, eqb-true}
use Rattle.std.specs.Prelude.{not, ◌&&◌, ◌||◌, ◌==◌, nat_eq, find, option_map, option_and_then, bytes_eq, if◌then◌else◌}
use Rattle.std.specs.List.{list_all}
use Rattle.std.specs.Option.{option_map_or}
use Rattle.std.proofs.lemmas.Bool.{or_right, or_left, eq-eqb, false_from_ne_true, and_parts}
use Rattle.std.proofs.lemmas.List.{length-map}
use Rattle.std.proofs.lemmas.Option.{slice_get_within, slice_get-get_or}
use Rattle.std.proofs.lemmas.Slice.Eq.{bytes_eq-Decides}
use Rattle.ob_base.specs.Optional.{◌>>=◌}
use Rattle.ob_base.specs.declared.id.ContractId.{ContractId}
use Rattle.ob_base.specs.declared.id.TxId.{TxId}
use Rattle.ob_base.specs.declared.permission.Perm.{Perm}
use Rattle.ob_table.specs.Tables.{ClassTable, contract_at, contract_id, signature_at, signature_of}
use Rattle.ob_table.specs.declared.contract.Contract.{Contract}
use Rattle.ob_table.specs.declared.contract.Param.{Param}
use Rattle.ob_table.specs.declared.contract.ResolvedType.{ResolvedType}
use Rattle.ob_table.specs.declared.contract.Signature.{Signature}
use Rattle.ob_table.specs.declared.seen.Kind.{Kind}
use Rattle.ob_table_spec.specs.Conditions.{IsClassTable, MeetsInterface, AnswersInterface, asked_of, transactions_in, AreDistinct}
use Rattle.ob_table_spec.specs.WellFormed.{StaticFrame, kind_of_resolved, is_implemented, is_constructor as constructs_at}
use Rattle.ob_silica.specs.Terms.{SilicaBody}
use Rattle.ob_silica_steps.specs.Configurations.{is_terms_of}
use Rattle.ob_places_laws.proofs.Interfaces.{interface_is, implementing_plain}
use Rattle.ob_places_laws.proofs.Tables.{contract_is, each_at, has_constructor, signature_at_number}
use Rattle.ob_code.specs.declared.image.BodyCode.{BodyCode}
use Rattle.ob_code.specs.declared.image.ContractCode.{ContractCode}
use Rattle.ob_code.specs.Code.{is_interface, is_private, is_constructor, is_transaction_named, contract_code}
use Rattle.ob_verify_spec.specs.Kinds.{implements_number}
use Rattle.ob_verify_spec.specs.Frames.{kinds_of_params, kind_of_result}
use Rattle.ob_verify_spec.specs.Conditions.{same_kinds, same_result, answers_for, has_answer, answers_if_implemented, is_answered, constructs}
use Rattle.ob_verify_spec.proofs.Cells.{none_some, some_same, same_kind_self}
use Rattle.ob_emit_spec.specs.EmittedImages.{emitted_body, tx_id, emitted_bodies, emitted_contract, image_of}
use Rattle.ob_emit_verified.proofs.Faultless.{all_pass}
use Rattle.ob_emit_verified.proofs.Saying.{kinds_passed, IsMade, IsCalled}
use Rattle.ob_emit_verified.proofs.Images.{contract_found, contract_emitted, emitted_at, body_same, interface_marked, private_marked, constructor_marked, body_named, named_so, takes_params, result_given, transaction_of, implements_same}

-- Names.

-- a constructor is a contract's, and has the number 0
constructs_so : (table : ClassTable) (id : ContractId) (own : Contract) → contract_at table id ≡ Some own → (n : ℕ)
    → constructs_at table id n ≡ not own.interface && nat_eq n 0
constructs_so table id own e n = ap (λ o. option_map_or (λ (c : Contract). not c.interface && nat_eq n 0) o false) e

later_plain : (table : ClassTable) (id : ContractId) (own : Contract) → contract_at table id ≡ Some own → (n : ℕ) → 0 < n
    → constructs_at table id n ≡ false
later_plain table id own e n past = false_from_ne_true (constructs_at table id n) (λ is.
    let p = and_parts (not own.interface) (nat_eq n 0) (sym (constructs_so table id own e n) ∙ is) in
    let zero_is : n ≡ 0 = eqb-true n 0 p.1 in absurd (omega arith))

distinct_rest : (s : Signature) (ss : List Signature) → AreDistinct (map (λ (x : Signature). x.name) (s ∷ ss))
    → AreDistinct (map (λ (x : Signature). x.name) ss)
distinct_rest s ss distinct i j d lt below = distinct (suc i) (suc j) d (omega arith) (omega arith)

names_differ : (a b : List ℕ) → a ≢ b → bytes_eq a b ≡ false
names_differ a b ne = false_from_ne_true (bytes_eq a b) (λ e. ne ((bytes_eq-Decides a b).0 e))

name_at : (ss : List Signature) (j : ℕ) (s : Signature) (d : List ℕ) → slice_get ss j ≡ Some s
    → get_or (map (λ (x : Signature). x.name) ss) j d ≡ s.name
name_at [] j s d e = absurd (none_some e)
name_at (t ∷ ss) zero s d e = ap (λ (x : Signature). x.name) (some_same e)
name_at (t ∷ ss) (suc j) s d e = name_at ss j s d e

-- of transactions with distinct names the one of a name is found
named_found : (table : ClassTable) (bodies : List SilicaBody) (id : ContractId) (own : Contract)
    → contract_at table id ≡ Some own → (n j : ℕ) (ss : List Signature) (s : Signature) → 0 < n
    → AreDistinct (map (λ (x : Signature). x.name) ss) → slice_get ss j ≡ Some s
    → (t : TxId) × (find (is_transaction_named s.name) (emitted_bodies table bodies id own n ss) ≡ Some (emitted_at table bodies id own t s))
named_found table bodies id own e n j [] s past distinct there = absurd (none_some there)
named_found table bodies id own e n zero (x ∷ ss) s past distinct there =
    let same : x ≡ s = some_same there in
    let test : is_transaction_named s.name (emitted_at table bodies id own (tx_id n) s) ≡ true =
    named_so table id own (tx_id n) s s.name (find (is_terms_of id (tx_id n)) bodies)
    ∙ ap (λ b. not b && bytes_eq s.name s.name) (later_plain table id own e n past) ∙ (bytes_eq-Decides s.name s.name).1 refl in (
      tx_id n,
      subst (λ (z : Signature). find (is_transaction_named s.name) (emitted_at table bodies id own (tx_id n) z ∷ emitted_bodies table bodies id own (n + 1) ss) ≡ Some (emitted_at table bodies id own (tx_id n) s)) (sym same)
          (ap (λ b. cond b (Some (emitted_at table bodies id own (tx_id n) s)) (find (is_transaction_named s.name) (emitted_bodies table bodies id own (n + 1) ss))) test),
    )
named_found table bodies id own e n (suc j) (x ∷ ss) s past distinct there =
    let rest = named_found table bodies id own e (n + 1) j ss s (omega arith) (distinct_rest x ss distinct) there in
    let low : j < length ss = slice_get_within ss j s there in
    let many : length (map (λ (y : Signature). y.name) ss) ≡ length ss = length-map ss (λ (y : Signature). y.name) in
    let other : x.name ≢ s.name = λ same. distinct 0 (suc j) s.name (omega arith) (omega arith) (same ∙ sym (name_at ss j s s.name there)) in
    let test : is_transaction_named s.name (emitted_at table bodies id own (tx_id n) x) ≡ false =
    named_so table id own (tx_id n) x s.name (find (is_terms_of id (tx_id n)) bodies)
    ∙ ap (λ b. not b && bytes_eq s.name x.name) (later_plain table id own e n past) ∙ names_differ s.name x.name (λ same. other (sym same)) in
    (rest.0, ap (λ b. cond b (Some (emitted_at table bodies id own (tx_id n) x)) (find (is_transaction_named s.name) (emitted_bodies table bodies id own (n + 1) ss))) test ∙ rest.1)

-- the same of a contract, whose constructor stands first
answer_found : (table : ClassTable) (bodies : List SilicaBody) (id : ContractId) (own : Contract)
    → contract_at table id ≡ Some own → own.interface ≡ false → (j : ℕ) (ss : List Signature) (s : Signature)
    → AreDistinct (map (λ (x : Signature). x.name) (drop 1 ss)) → slice_get (drop 1 ss) j ≡ Some s
    → (t : TxId) × (find (is_transaction_named s.name) (emitted_bodies table bodies id own 0 ss) ≡ Some (emitted_at table bodies id own t s))
answer_found table bodies id own e plain j [] s distinct there = absurd (none_some there)
answer_found table bodies id own e plain j (x ∷ ss) s distinct there =
    let rest = named_found table bodies id own e 1 j ss s (omega arith) distinct there in
    let test : is_transaction_named s.name (emitted_at table bodies id own (tx_id 0) x) ≡ false =
    named_so table id own (tx_id 0) x s.name (find (is_terms_of id (tx_id 0)) bodies)
    ∙ ap (λ b. not b && bytes_eq s.name x.name) (constructs_so table id own e 0 ∙ ap (λ b. not b && nat_eq 0 0) plain) in
    (rest.0, ap (λ b. cond b (Some (emitted_at table bodies id own (tx_id 0) x)) (find (is_transaction_named s.name) (emitted_bodies table bodies id own 1 ss))) test ∙ rest.1)

-- Interfaces.

kinds_asked : (ps : List Param) → kinds_passed ps ≡ map (λ (a : ResolvedType × Perm). kind_of_resolved a.0) (map asked_of ps)
kinds_asked [] = refl
kinds_asked (p ∷ ps) = ap (λ ks. kind_of_resolved p.of ∷ ks) (kinds_asked ps)

kinds_self : (ks : List Kind) → same_kinds ks ks ≡ true
kinds_self [] = refl
kinds_self (k ∷ ks) = rw (same_kind_self k, kinds_self ks) refl

result_self : (k : Option Kind) → same_result k k ≡ true
result_self None = refl
result_self (Some k) = same_kind_self k

-- a transaction that is as its interface asks answers for that
answers_so : (table : ClassTable) (id c : ContractId) (interface own : Contract) (tx t : TxId) (asked s : Signature)
    (first second : Option SilicaBody) → AnswersInterface interface own asked s
    → answers_for (emitted_body table id interface tx asked first) (emitted_body table c own t s second) ≡ true
answers_so table id c interface own tx t asked s first second answers =
    let private : is_private (emitted_body table c own t s second) ≡ false = private_marked table c own t s second ∙ answers.public in
    let kinds : kinds_of_params (emitted_body table c own t s second) ≡ kinds_of_params (emitted_body table id interface tx asked first) =
    (takes_params table c own t s second).kinds ∙ kinds_asked s.params
    ∙ ap (map (λ (a : ResolvedType × Perm). kind_of_resolved a.0)) answers.params ∙ sym (kinds_asked asked.params) ∙ sym (takes_params table id interface tx asked first).kinds in
    let results : kind_of_result (emitted_body table c own t s second) ≡ kind_of_result (emitted_body table id interface tx asked first) =
    result_given table c own t s second ∙ ap (option_map kind_of_resolved) answers.result ∙ sym (result_given table id interface tx asked first) in
    let same : same_kinds (kinds_of_params (emitted_body table id interface tx asked first)) (kinds_of_params (emitted_body table c own t s second)) ≡ true =
    ap (same_kinds (kinds_of_params (emitted_body table id interface tx asked first))) kinds ∙ kinds_self (kinds_of_params (emitted_body table id interface tx asked first)) in
    let given : same_result (kind_of_result (emitted_body table id interface tx asked first)) (kind_of_result (emitted_body table c own t s second)) ≡ true =
    ap (same_result (kind_of_result (emitted_body table id interface tx asked first))) results ∙ result_self (kind_of_result (emitted_body table id interface tx asked first)) in
    rw (private, same, given) refl

has_answer_by : (asked : BodyCode) (own : ContractCode) (name : List ℕ) (b : BodyCode) → asked.name ≡ name
    → find (is_transaction_named name) own.bodies ≡ Some b → answers_for asked b ≡ true
    → has_answer asked own ≡ true
has_answer_by asked own name b named found answers =
    ap (λ z. option_map_or (answers_for asked) z false) (ap (λ z. find (is_transaction_named z) own.bodies) named ∙ found) ∙ answers

-- a contract that implements an interface has an answer for each of its transactions
answer_there : (table : ClassTable) (bodies : List SilicaBody) → IsClassTable table
    → (id c : ContractId) (interface own : Contract) (tx : TxId) (asked : Signature) (first : Option SilicaBody)
    → contract_at table id ≡ Some interface → signature_at interface tx ≡ Some asked → contract_at table c ≡ Some own → is_implemented table c id ≡ true
    → has_answer (emitted_body table id interface tx asked first) (emitted_contract table bodies c own) ≡ true
answer_there table bodies is_table id c interface own tx asked first ei es ec implements =
    let met = interface_is table is_table c id own ec implements in
    let meets_it : MeetsInterface interface own = subst (λ z. MeetsInterface z own) (some_same (sym met.1 ∙ ei)) met.3 in
    let answer = each_at (λ (a : Signature). (s : Signature) × Contains (transactions_in own) s × AnswersInterface interface own a s) interface.transactions tx.0 asked meets_it.transactions es in
    let plain : own.interface ≡ false = implementing_plain table is_table c id own ec implements in
    let transactions : transactions_in own ≡ drop 1 own.transactions = ap (λ b. if b then own.transactions else drop 1 own.transactions) plain in
    let in_rest : Contains (drop 1 own.transactions) answer.0 = subst (λ z. Contains z answer.0) transactions answer.1 in
    let at : slice_get (drop 1 own.transactions) in_rest.0 ≡ Some answer.0 = slice_get-get_or (drop 1 own.transactions) in_rest.0 answer.0 in_rest.1 ∙ ap Some in_rest.2 in
    let distinct : AreDistinct (map (λ (x : Signature). x.name) (drop 1 own.transactions)) =
    subst (λ z. AreDistinct (map (λ (x : Signature). x.name) z)) transactions (contract_is table is_table c own ec).distinct_transactions in
    let found = answer_found table bodies c own ec plain in_rest.0 own.transactions answer.0 distinct at in
    has_answer_by (emitted_body table id interface tx asked first) (emitted_contract table bodies c own) answer.0.name (emitted_at table bodies c own found.0 answer.0)
    (body_named table id interface tx asked first ∙ sym answer.2.name) found.1
    (answers_so table id c interface own tx found.0 asked answer.0 first (find (is_terms_of c found.0) bodies) answer.2)

answered_by : (table : ClassTable) (bodies : List SilicaBody) → IsClassTable table
    → (id c : ContractId) (interface own : Contract) (tx : TxId) (asked : Signature) (first : Option SilicaBody)
    → contract_at table id ≡ Some interface → signature_at interface tx ≡ Some asked → contract_at table c ≡ Some own → (b : Bool) → is_implemented table c id ≡ b
    → answers_if_implemented id (emitted_body table id interface tx asked first) (emitted_contract table bodies c own) ≡ true
answered_by table bodies is_table id c interface own tx asked first ei es ec true e =
    or_right (not (implements_number id (emitted_contract table bodies c own)) || is_interface (emitted_contract table bodies c own))
    (has_answer (emitted_body table id interface tx asked first) (emitted_contract table bodies c own))
    (answer_there table bodies is_table id c interface own tx asked first ei es ec e)
answered_by table bodies is_table id c interface own tx asked first ei es ec false e =
    or_left (not (implements_number id (emitted_contract table bodies c own)) || is_interface (emitted_contract table bodies c own))
    (has_answer (emitted_body table id interface tx asked first) (emitted_contract table bodies c own))
    (or_left (not (implements_number id (emitted_contract table bodies c own))) (is_interface (emitted_contract table bodies c own)) (ap not (implements_same table bodies c id own ec ∙ e)))

all_answer : (table : ClassTable) (bodies : List SilicaBody) → IsClassTable table
    → (id : ContractId) (interface : Contract) (tx : TxId) (asked : Signature) (first : Option SilicaBody)
    → contract_at table id ≡ Some interface → signature_at interface tx ≡ Some asked
    → list_all (answers_if_implemented id (emitted_body table id interface tx asked first)) (image_of table bodies).contracts ≡ true
all_answer table bodies is_table id interface tx asked first ei es = all_pass (answers_if_implemented id (emitted_body table id interface tx asked first)) (image_of table bodies).contracts one
  where
    one : (y : ContractCode) → Contains (image_of table bodies).contracts y
        → answers_if_implemented id (emitted_body table id interface tx asked first) y ≡ true
    one y c =
        let at : slice_get (image_of table bodies).contracts c.0 ≡ Some y = slice_get-get_or (image_of table bodies).contracts c.0 y c.1 ∙ ap Some c.2 in
        let x = contract_emitted table bodies (contract_id c.0) y at in
        subst (λ z. answers_if_implemented id (emitted_body table id interface tx asked first) z ≡ true) x.same
        (answered_by table bodies is_table id (contract_id c.0) interface x.own tx asked first ei es x.is_own (is_implemented table (contract_id c.0) id) refl)

pub answered : (table : ClassTable) (bodies : List SilicaBody) → IsClassTable table
    → (id : ContractId) (own : Contract) (tx : TxId) (s : Signature) (first : Option SilicaBody)
    → contract_at table id ≡ Some own → signature_at own tx ≡ Some s → is_answered (image_of table bodies) id (emitted_body table id own tx s first) ≡ true
answered table bodies is_table id own tx s first eo es =
    or_right (not (option_map_or is_interface (contract_code (image_of table bodies) id) false))
    (list_all (answers_if_implemented id (emitted_body table id own tx s first)) (image_of table bodies).contracts) (all_answer table bodies is_table id own tx s first eo es)

-- Calls.

body_in : (table : ClassTable) (bodies : List SilicaBody) (id : ContractId) (own : Contract) (tx : TxId) (s : Signature)
    → signature_at own tx ≡ Some s
    → slice_get (emitted_contract table bodies id own).bodies tx.0 ≡ Some (emitted_at table bodies id own tx s)
body_in table bodies id own tx s es = body_same table bodies id own tx ∙ ap (option_map (emitted_at table bodies id own tx)) es

pub called_in : (table : ClassTable) (bodies : List SilicaBody) → IsClassTable table
    → (id : ContractId) (tx : TxId) (s : Signature) → signature_of table id tx ≡ Some s
    → constructs_at table id tx.0 ≡ false → IsCalled (image_of table bodies) id tx s
called_in table bodies is_table id tx s e plain =
    let own = signature_at_number table id tx s e in
    let first = find (is_terms_of id tx) bodies in
    record {
      body = emitted_body table id own.0 tx s first;
      there = ap (λ (z : Option ContractCode). z >>= λ (c : ContractCode). slice_get c.bodies tx.0) (contract_found table bodies id own.0 own.1) ∙ body_in table bodies id own.0 tx s own.2;
      of = transaction_of table id own.0 tx s first plain;
      answered = answered table bodies is_table id own.0 tx s first own.1 own.2;
    }

-- New.

constructor_first : (table : ClassTable) (bodies : List SilicaBody) (id : ContractId) (own : Contract) (ss : List Signature)
    (s : Signature) → contract_at table id ≡ Some own → own.interface ≡ false
    → slice_get ss 0 ≡ Some s → find is_constructor (emitted_bodies table bodies id own 0 ss) ≡ Some (emitted_at table bodies id own (tx_id 0) s)
constructor_first table bodies id own [] s e plain there = absurd (none_some there)
constructor_first table bodies id own (x ∷ ss) s e plain there =
    let same : x ≡ s = some_same there in
    let test : is_constructor (emitted_at table bodies id own (tx_id 0) x) ≡ true =
    constructor_marked table id own (tx_id 0) x (find (is_terms_of id (tx_id 0)) bodies) ∙ constructs_so table id own e 0 ∙ ap (λ b. not b && nat_eq 0 0) plain in
    ap (λ b. cond b (Some (emitted_at table bodies id own (tx_id 0) x)) (find is_constructor (emitted_bodies table bodies id own 1 ss))) test
    ∙ ap (λ (z : Signature). Some (emitted_at table bodies id own (tx_id 0) z)) same

pub made_in : (f : StaticFrame) (bodies : List SilicaBody) → IsClassTable f.table → (id : ContractId) (own : Contract)
    → contract_at f.table id ≡ Some own → own.interface ≡ false
    → IsMade f (image_of f.table bodies) id
made_in f bodies is_table id own e plain =
    let s = has_constructor f.table own (contract_is f.table is_table id own e) plain in
    let first = find (is_terms_of id (tx_id 0)) bodies in
    let body = emitted_body f.table id own (tx_id 0) s.0 first in
    let found : find is_constructor (emitted_contract f.table bodies id own).bodies ≡ Some body = constructor_first f.table bodies id own own.transactions s.0 e plain s.1 in
    let params = takes_params f.table id own (tx_id 0) s.0 first in
    record {
      signature = s.0;
      there = ap (λ o. option_and_then (λ (c : Contract). if c.interface then None else slice_get c.transactions 0) o) e ∙ ap (λ b. if b then None else slice_get own.transactions 0) plain ∙ s.1;
      body = body;
      constructor = ap (λ (z : Option ContractCode). option_and_then (λ (c : ContractCode). find is_constructor c.bodies) z) (contract_found f.table bodies id own e) ∙ found;
      params = params;
      takes = ap (λ z. option_map_or (constructs (length s.0.params)) z false) (contract_found f.table bodies id own e)
          ∙ ap (λ b. not b && option_map_or (λ (x : BodyCode). length s.0.params == length x.params) (find is_constructor (emitted_contract f.table bodies id own).bodies) false)
          (interface_marked f.table bodies id own ∙ plain)
          ∙ ap (λ z. option_map_or (λ (x : BodyCode). length s.0.params == length x.params) z false) found ∙ eq-eqb (length s.0.params) (length body.params) (sym params.count);
    }
