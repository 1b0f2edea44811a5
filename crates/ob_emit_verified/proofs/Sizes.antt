-- A byte can say how many slots a body of an emitted image has.
use Rattle.std.proofs.Common.{◌≡◌, ◌+◌, ◌≤◌, [], Option, Some, None, slice_get, refl, sym, ap, ◌∙◌, subst, arith}
use Rattle.std.specs.Prelude.{find, is_some}
use Rattle.ob_base.specs.declared.id.ContractId.{ContractId}
use Rattle.ob_base.specs.declared.id.TxId.{TxId}
use Rattle.ob_table.specs.Tables.{ClassTable, contract_at, signature_at}
use Rattle.ob_table.specs.declared.contract.Contract.{Contract}
use Rattle.ob_table.specs.declared.contract.Signature.{Signature}
use Rattle.ob_table_spec.specs.Conditions.{IsClassTable}
use Rattle.ob_table_spec.specs.WellFormed.{frame_of}
use Rattle.ob_silica.specs.Terms.{SilicaBody}
use Rattle.ob_silica_formed.specs.Holdings.{held_at_start}
use Rattle.ob_silica_steps.specs.Configurations.{SilicaProgram, is_terms_of}
use Rattle.ob_places_laws.proofs.Tables.{contract_is, signature_at_number, signature_is, constructor_found, if_there_so}
use Rattle.ob_code.specs.declared.image.BodyCode.{BodyCode}
use Rattle.ob_code.specs.declared.image.ContractCode.{ContractCode}
use Rattle.ob_verify_spec.specs.Laws.{HasBody}
use Rattle.ob_emit_spec.specs.Emission.{scratch_of_terms}
use Rattle.ob_emit_spec.specs.EmittedImages.{emitted_body, image_of}
use Rattle.ob_emit_verified.specs.Premises.{IsWellFormedProgram}
use Rattle.ob_emit_verified.specs.Law.{EmittedSlotsFit}
use Rattle.ob_emit_verified.proofs.Operands.{is_there}
use Rattle.ob_emit_verified.proofs.Images.{contract_emitted, emitted_at, body_same}
use Rattle.ob_emit_verified.proofs.Answering.{made_in}
use Rattle.ob_emit_verified.proofs.Bodies.{HasCode, each_formed, few_slots}
use Rattle.ob_emit_verified.proofs.Programs.{found_formed, mapped_from}
use Rattle.ob_emit_verified.proofs.Scratch.{HasFew, terms_few}

-- what the conditions on a class table say of its numbers
has_few : (table : ClassTable) → IsClassTable table → (id : ContractId) (own : Contract) (s : Signature)
    → contract_at table id ≡ Some own → HasFew (frame_of table id own s)
has_few table is id own s e = record {
  called = λ c tx t et. let w = signature_at_number table c tx t et in (signature_is table w.0 (contract_is table is c w.0 w.1) tx t w.2).few;
  made = λ c there t et. (constructor_found table is c t et).4.signature.few;
  there = λ c there plain.
      let x = is_there (contract_at table c) there in
      ap is_some (made_in (frame_of table id own s) [] is c x.0 x.1 (if_there_so (contract_at table c) _ x.0 x.1 plain)).there;
  fields = (contract_is table is id own e).few_fields;
}

body_fits : (table : ClassTable) → IsClassTable table → (id : ContractId) (tx : TxId) (b : HasCode table id tx)
    → b.body.slots + scratch_of_terms b.body.terms ≤ 255
body_fits table is id tx b =
    let f = frame_of table id b.own b.signature in
    let h = held_at_start id b.signature.params in
    let each = each_formed f h b.body.terms b.formed.numbers.forms b.formed.kinds b.formed.results b.formed.params b.formed.references b.formed.bodies b.formed.returns b.formed.turns in
    let slots = few_slots b.body.slots b.formed.numbers.few in
    let scratch = terms_few f (has_few table is id b.own b.signature b.is_own) h b.body.terms each in
    omega arith

-- whether it has terms or not
either_fits : (program : SilicaProgram) → IsWellFormedProgram program
    → (id : ContractId) (tx : TxId) (own : Contract) (s : Signature) (o : Option SilicaBody)
    → contract_at program.table id ≡ Some own
    → signature_at own tx ≡ Some s → find (is_terms_of id tx) program.bodies ≡ o → (emitted_body program.table id own tx s o).slots ≤ 255
either_fits program is id tx own s None eo es e = omega arith
either_fits program is id tx own s (Some body) eo es e =
    body_fits program.table is.table id tx (record { own = own; is_own = eo; signature = s; is_signature = es; body = body; formed = found_formed program is id tx own s body eo es e })

pub slots_fit : EmittedSlotsFit
slots_fit program is = record { each = each }
  where
    each : (c : ContractId) (own : ContractCode) (tx : TxId) (b : BodyCode)
        → HasBody (image_of program.table program.bodies) c own tx b → b.slots ≤ 255
    each c own tx b has =
        let x = contract_emitted program.table program.bodies c own has.contract in
        let s = mapped_from (emitted_at program.table program.bodies c x.own tx) (signature_at x.own tx) b
        (sym (body_same program.table program.bodies c x.own tx) ∙ ap (λ (z : ContractCode). slice_get z.bodies tx.0) x.same ∙ has.body) in
        subst (λ (z : BodyCode). z.slots ≤ 255) s.2 (either_fits program is c tx x.own s.0 (find (is_terms_of c tx) program.bodies) x.is_own s.1 refl)
