-- The laws of emitted code, from its bodies.
use Rattle.std.proofs.Common.{◌≡◌, Bool, true, false, List, [], ◌∷◌, Option, Some, None, Contains, slice_get, get_or, refl, sym, ap, ◌∙◌, subst, eqb-true, true≢false}
use Rattle.std.specs.Prelude.{nat_eq, cond, find, is_some, option_map, All}
use Rattle.std.proofs.lemmas.Bool.{and_parts}
use Rattle.std.proofs.lemmas.List.Elements.{All-contains, All-contains_itself}
use Rattle.ob_base.specs.declared.id.ContractId.{ContractId}
use Rattle.ob_base.specs.declared.id.TxId.{TxId}
use Rattle.ob_table.specs.Tables.{ClassTable, contract_at, signature_at}
use Rattle.ob_table.specs.declared.contract.Contract.{Contract}
use Rattle.ob_table.specs.declared.contract.Signature.{Signature}
use Rattle.ob_table_spec.specs.WellFormed.{frame_of, is_implemented}
use Rattle.ob_silica.specs.Terms.{SilicaBody}
use Rattle.ob_silica_formed.specs.Holdings.{held_at_start}
use Rattle.ob_silica_formed.specs.WellFormedTerms.{AreWellFormed, IsWellFormedTerms}
use Rattle.ob_silica_steps.specs.Configurations.{SilicaProgram, is_terms_of}
use Rattle.ob_coherent_spec.specs.Remaining.{IsCheckedBody}
use Rattle.ob_places_laws.proofs.Interfaces.{contract_number, interface_is}
use Rattle.ob_places_laws.proofs.Tables.{there_is}
use Rattle.ob_code.specs.Code.{is_interface}
use Rattle.ob_code.specs.declared.image.ContractCode.{ContractCode}
use Rattle.ob_verify_spec.specs.Kinds.{implements_number}
use Rattle.ob_verify_spec.specs.Frames.{CodeFrame, frames_of}
use Rattle.ob_verify_spec.specs.Laws.{frame_of as frame_in, HasBody}
use Rattle.ob_verify_spec.specs.Verified.{IsVerifiedBody}
use Rattle.ob_verify_spec.proofs.Cells.{none_some, some_same}
use Rattle.ob_verify_spec.proofs.Images.{has_frames}
use Rattle.ob_verify_spec.proofs.Listed.{head, behind}
use Rattle.ob_verify_spec.proofs.SlotKinds.{faultless_verified}
use Rattle.ob_emit_spec.specs.EmittedImages.{emitted_body, emitted_contract, image_of}
use Rattle.ob_emit_verified.specs.Premises.{IsWellFormedProgram}
use Rattle.ob_emit_verified.specs.Law.{CheckedProgramsAreWellFormed, EmittedCodeIsVerified, EmittedCodeImplementsInterfaces, EmittedInterfacesAreThere}
use Rattle.ob_emit_verified.proofs.Faultless.{faultless}
use Rattle.ob_emit_verified.proofs.Images.{contract_emitted, emitted_at, body_same, contract_found, interface_marked, implements_same, implements_alone}
use Rattle.ob_emit_verified.proofs.Bodies.{HasCode, frame_at, certified_body}

-- Bodies that are found.

-- the first that passes is one of the list, and passes
found_by : (p : SilicaBody → Bool) (x : SilicaBody) (bodies : List SilicaBody) (body : SilicaBody) (b : Bool) → p x ≡ b
    → cond b (Some x) (find p bodies) ≡ Some body
    → (find p bodies ≡ Some body → Contains bodies body × (p body ≡ true)) → Contains (x ∷ bodies) body × (p body ≡ true)
found_by p x bodies body true t g rest = let same : x ≡ body = some_same g in (subst (λ z. Contains (x ∷ bodies) z) same (head x bodies), subst (λ z. p z ≡ true) same t)
found_by p x bodies body false t g rest = let later = rest g in (behind x body bodies later.0, later.1)

found_in : (p : SilicaBody → Bool) (bodies : List SilicaBody) (body : SilicaBody) → find p bodies ≡ Some body
    → Contains bodies body × (p body ≡ true)
found_in p [] body e = absurd (none_some e)
found_in p (x ∷ bodies) body e = found_by p x bodies body (p x) refl e (λ g. found_in p bodies body g)

same_tx : (a b : TxId) → a.0 ≡ b.0 → a ≡ b
same_tx a b e = ap (λ n. let made : TxId = record { 0 = n } in made) e

-- the terms that are found for a constructor or transaction, and what the premises say of them
pub record IsFound (table : ClassTable) (bodies : List SilicaBody) (id : ContractId) (tx : TxId) : Type 0 where
  pub code : HasCode table id tx
  pub found : find (is_terms_of id tx) bodies ≡ Some code.body
  pub one_of : Contains bodies code.body
  pub of_contract : code.body.contract ≡ id
  pub of_tx : code.body.tx ≡ tx

formed_at : (table : ClassTable) (body : SilicaBody) (id : ContractId) (tx : TxId) (own : Contract) (s : Signature)
    → contract_at table id ≡ Some own → signature_at own tx ≡ Some s
    → body.contract ≡ id → body.tx ≡ tx → IsWellFormedTerms table body → AreWellFormed (frame_of table id own s) (held_at_start id s.params) body
formed_at table body id tx own s eo es ec et formed =
    let x = there_is (contract_at table body.contract) _ formed in
    let y = there_is (signature_at x.0 body.tx) _ x.2 in
    let same : x.0 ≡ own = some_same (sym x.1 ∙ ap (contract_at table) ec ∙ eo) in
    let signed : y.0 ≡ s = some_same (sym y.1 ∙ ap (λ z. signature_at z body.tx) same ∙ ap (signature_at own) et ∙ es) in
    subst (λ z. AreWellFormed (frame_of table z own s) (held_at_start z s.params) body) ec
    (subst (λ z. AreWellFormed (frame_of table body.contract own z) (held_at_start body.contract z.params) body) signed
    (subst (λ z. AreWellFormed (frame_of table body.contract z y.0) (held_at_start body.contract y.0.params) body) same y.2))

pub found_body : (program : SilicaProgram) → IsWellFormedProgram program
    → (id : ContractId) (tx : TxId) (own : Contract) (s : Signature) (body : SilicaBody) → contract_at program.table id ≡ Some own
    → signature_at own tx ≡ Some s → find (is_terms_of id tx) program.bodies ≡ Some body → IsFound program.table program.bodies id tx
found_body program is id tx own s body eo es e =
    let w = found_in (is_terms_of id tx) program.bodies body e in
    let parts = and_parts (nat_eq body.contract.0 id.0) (nat_eq body.tx.0 tx.0) w.1 in
    let of_contract : body.contract ≡ id = contract_number body.contract id (eqb-true body.contract.0 id.0 parts.0) in
    let of_tx : body.tx ≡ tx = same_tx body.tx tx (eqb-true body.tx.0 tx.0 parts.1) in
    record {
      code = record {
        own = own;
        is_own = eo;
        signature = s;
        is_signature = es;
        body = body;
        formed = formed_at program.table body id tx own s eo es of_contract of_tx (All-contains (IsWellFormedTerms program.table) program.bodies body is.bodies w.0);
      };
      found = e;
      one_of = w.0;
      of_contract = of_contract;
      of_tx = of_tx;
    }

some_terms : (o : Option SilicaBody) → is_some (option_map (λ (body : SilicaBody). body.terms) o) ≡ true
    → (body : SilicaBody) × (o ≡ Some body)
some_terms None e = absurd (true≢false (sym e))
some_terms (Some body) e = (body, refl)

pub mapped_from : {A B : Type 0} (f : A → B) (o : Option A) (y : B) → option_map f o ≡ Some y → (x : A) × (o ≡ Some x) × (f x ≡ y)
mapped_from f None y e = absurd (none_some e)
mapped_from f (Some x) y e = (x, refl, some_same e)

-- the terms that are found are well-formed
pub found_formed : (program : SilicaProgram) → IsWellFormedProgram program
    → (id : ContractId) (tx : TxId) (own : Contract) (s : Signature) (body : SilicaBody) → contract_at program.table id ≡ Some own
    → signature_at own tx ≡ Some s → find (is_terms_of id tx) program.bodies ≡ Some body → AreWellFormed (frame_of program.table id own s) (held_at_start id s.params) body
unfolding found_body
found_formed program is id tx own s body eo es e = (found_body program is id tx own s body eo es e).code.formed

-- Frames of the image.

-- a body of the image that isn't an interface's is that of terms of the program
pub record IsBodyOf (program : SilicaProgram) (f : CodeFrame) : Type 0 where
  pub id : ContractId
  pub tx : TxId
  pub terms : IsFound program.table program.bodies id tx
  pub same : frame_at program.table program.bodies id tx terms.code ≡ f

body_by : (program : SilicaProgram) → IsWellFormedProgram program
    → (f : CodeFrame) (id : ContractId) (tx : TxId) (own : Contract) (s : Signature) (body : SilicaBody)
    → contract_at program.table id ≡ Some own
    → signature_at own tx ≡ Some s → find (is_terms_of id tx) program.bodies ≡ Some body
    → frame_in (image_of program.table program.bodies) id (emitted_contract program.table program.bodies id own) (emitted_body program.table id own tx s (Some body)) ≡ f → IsBodyOf program f
unfolding found_body
body_by program is f id tx own s body eo es e same = record { id = id; tx = tx; terms = found_body program is id tx own s body eo es e; same = same }

-- a body with a signature, in the contract of a number
body_with : (program : SilicaProgram) → IsWellFormedProgram program
    → (f : CodeFrame) (tx : TxId) (own : Contract) (s : Signature) → f.image ≡ image_of program.table program.bodies
    → contract_at program.table f.here ≡ Some own → emitted_contract program.table program.bodies f.here own ≡ f.own → own.interface ≡ false → signature_at own tx ≡ Some s
    → emitted_at program.table program.bodies f.here own tx s ≡ f.body → IsBodyOf program f
body_with program is f tx own s image eo same_own concrete es same_body =
    let terms = some_terms (find (is_terms_of f.here tx) program.bodies) (is.terms f.here tx own s eo concrete es) in
    body_by program is f f.here tx own s terms.0 eo es terms.1
    (ap (λ z. frame_in (image_of program.table program.bodies) f.here z (emitted_body program.table f.here own tx s (Some terms.0))) same_own
    ∙ ap (frame_in (image_of program.table program.bodies) f.here f.own) (ap (emitted_body program.table f.here own tx s) (sym terms.1) ∙ same_body)
    ∙ ap (λ z. frame_in z f.here f.own f.body) (sym image))

body_in : (program : SilicaProgram) → IsWellFormedProgram program → (f : CodeFrame)
    → f.image ≡ image_of program.table program.bodies → (tx : TxId)
    → HasBody (image_of program.table program.bodies) f.here f.own tx f.body → is_interface f.own ≡ false → IsBodyOf program f
body_in program is f image tx has plain =
    let x = contract_emitted program.table program.bodies f.here f.own has.contract in
    let s = mapped_from (emitted_at program.table program.bodies f.here x.own tx) (signature_at x.own tx) f.body
    (sym (body_same program.table program.bodies f.here x.own tx) ∙ ap (λ (z : ContractCode). slice_get z.bodies tx.0) x.same ∙ has.body) in
    body_with program is f tx x.own s.0 image x.is_own x.same (sym (interface_marked program.table program.bodies f.here x.own) ∙ ap is_interface x.same ∙ plain) s.1 s.2

pub body_of : (program : SilicaProgram) → IsWellFormedProgram program → (f : CodeFrame)
    → Contains (frames_of (image_of program.table program.bodies)) f → is_interface f.own ≡ false → IsBodyOf program f
body_of program is f c plain =
    let w = (has_frames (image_of program.table program.bodies)).no_other f c in
    body_in program is f w.0 w.1.0 w.1.1 plain

-- The laws.

from_each : {X : Type 0} (P : X → Type 0) (xs : List X) → ((x : X) → Contains xs x → P x) → All P xs
from_each P xs h = λ k d lt. h (get_or xs k d) (All-contains_itself xs k d lt)

pub code_implements : EmittedCodeImplementsInterfaces
code_implements program is = implements_alone program.table program.bodies is.table

pub interfaces_there : EmittedInterfacesAreThere
interfaces_there program is = λ c declared own e implements.
    let x = contract_emitted program.table program.bodies c own e in
    let so : is_implemented program.table c declared ≡ true =
    sym (implements_same program.table program.bodies c declared x.own x.is_own) ∙ ap (implements_number declared) x.same ∙ implements in
    let found = interface_is program.table is.table c declared x.own x.is_own so in
    (emitted_contract program.table program.bodies declared found.0, contract_found program.table program.bodies declared found.0 found.1)

pub code_is_verified : EmittedCodeIsVerified
code_is_verified program is = from_each (λ (f : CodeFrame). is_interface f.own ≡ false → IsVerifiedBody f) (frames_of (image_of program.table program.bodies)) (λ f c plain.
    let b = body_of program is f c plain in
    let frame = frame_at program.table program.bodies b.id b.tx b.terms.code in
    subst IsVerifiedBody b.same (faultless_verified frame (faultless frame (interfaces_there program is) (certified_body program.table program.bodies is.table b.id b.tx b.terms.code))))

pub checked_formed : CheckedProgramsAreWellFormed
checked_formed program is = record {
  table = is.table;
  terms = is.terms;
  bodies = from_each (IsWellFormedTerms program.table) program.bodies (λ body c. (All-contains (IsCheckedBody program.table) program.bodies body is.bodies c).well_formed);
}
