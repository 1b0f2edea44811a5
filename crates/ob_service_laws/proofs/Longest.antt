-- The code of a body whose terms are well-formed has instructions.
use Rattle.std.proofs.Common.{◌≡◌, ℕ, ◌+◌, ◌<◌, Bool, true, false, ◌||◌, List, ◌∷◌, ◌++◌, length, Option, Some, None, refl, sym, ◌∙◌, ap, subst, arith, true≢false, length-append}
use Rattle.std.specs.Prelude.{slice_get, find, option_map, option_and_then, IsSome, IsSomeAnd, if◌then◌else◌}
use Rattle.ob_base.specs.declared.id.ContractId.{ContractId}
use Rattle.ob_base.specs.declared.id.TxId.{TxId}
use Rattle.ob_table.specs.Tables.{contract_at, signature_at}
use Rattle.ob_table.specs.declared.contract.Contract.{Contract}
use Rattle.ob_table.specs.declared.contract.Signature.{Signature}
use Rattle.ob_heap_spec.specs.Contents.{Content, IsObject, IsObjectOf}
use Rattle.ob_rest_spec.specs.AtRest.{IsStoreAtRest}
use Rattle.ob_invocation_spec.specs.Entries.{Entry}
use Rattle.ob_silica.specs.Terms.{SilicaForm, SilicaTerms, SilicaBody, unit_form, const_form, op_form, copy_form, move_form, new_form, call_form, call_this_form, change_form, test_form, if_form, loop_form, assert_form, disown_form, drop_form, return_form, revert_form, bad_row_form, no_terms, and_term}
use Rattle.ob_silica_formed.specs.Holdings.{Holdings, held_at_start, form_ends, terms_end, after_form}
use Rattle.ob_silica_steps.specs.Calling.{constructor_id}
use Rattle.ob_silica_steps.specs.Configurations.{SilicaProgram, is_terms_of}
use Rattle.ob_coherent_spec.specs.Remaining.{IsCheckedProgram}
use Rattle.ob_soundness_laws.specs.Requests.{IsEntered, by_request_new, by_request_call}
use Rattle.ob_soundness_laws.proofs.Entries.{enters_new, enters_call}
use Rattle.ob_emit_spec.specs.EmittedImages.{frame_of_body, code_of_body}
use Rattle.ob_emit_spec.specs.Emission.{EmissionFrame, form_code, terms_code}
use Rattle.ob_emit_spec.proofs.Contracts.{all_at}
use Rattle.ob_emit_correct.specs.Law.{code_of}
use Rattle.ob_emit_correct.proofs.Matching.{HasBody}
use Rattle.ob_emit_correct.proofs.Agreeing.{body_found}
use Rattle.ob_emit_correct.proofs.Beginning.{body_formed}
use Rattle.ob_code.specs.Code.{body_code}
use Rattle.ob_machine_steps.specs.Measures.{length_of, longest}
use Rattle.ob_machine_laws.proofs.Measuring.{body_le}

-- ---- terms that end

behind : {A : Type 0} (xs : List A) (y : A) (ys : List A) → 0 < length (xs ++ y ∷ ys)
behind xs y ys = omega (arith, length-append xs (y ∷ ys))

in_front : {A : Type 0} (xs ys : List A) → 0 < length xs → 0 < length (xs ++ ys)
in_front xs ys some = omega (arith, some, length-append xs ys)

at_back : {A : Type 0} (xs ys : List A) → 0 < length ys → 0 < length (xs ++ ys)
at_back xs ys some = omega (arith, some, length-append xs ys)

never : {A : Type 0} → false ≡ true → A
never e = absurd (true≢false (sym e))

form_has : (f : EmissionFrame) (h : Holdings) (form : SilicaForm) (at : ℕ) → form_ends form ≡ true → 0 < length (form_code f h form at)
form_has f h unit_form at e = never e
form_has f h (const_form k value) at e = never e
form_has f h (op_form k operator a b line) at e = never e
form_has f h (copy_form to from) at e = never e
form_has f h (move_form to from contract) at e = never e
form_has f h (new_form k contract args) at e = never e
form_has f h (call_form k receiver contract tx args) at e = never e
form_has f h (call_this_form k tx args) at e = never e
form_has f h (change_form state given) at e = never e
form_has f h (test_form o state branch other join) at e = behind _ _ _
form_has f h (if_form o branch other join) at e = behind _ _ _
form_has f h (loop_form first o body end) at e = never e
form_has f h (assert_form o perm) at e = never e
form_has f h (disown_form o) at e = never e
form_has f h (drop_form k) at e = never e
form_has f h (return_form None) at e = behind _ _ _
form_has f h (return_form (Some o)) at e = behind _ _ _
form_has f h (revert_form o) at e = behind _ _ _
form_has f h bad_row_form at e = never e

terms_by : {A : Type 0} (xs ys : List A) (b c : Bool) → (b ≡ true → 0 < length xs) → (c ≡ true → 0 < length ys) → b || c ≡ true → 0 < length (xs ++ ys)
terms_by xs ys true c here later e = in_front xs ys (here refl)
terms_by xs ys false c here later e = at_back xs ys (later e)

terms_have : (f : EmissionFrame) (h : Holdings) (terms : SilicaTerms) (at : ℕ) → terms_end terms ≡ true → 0 < length (terms_code f h terms at)
terms_have f h no_terms at e = never e
terms_have f h (and_term form span rest) at e =
    terms_by (form_code f h form at) (terms_code f (after_form f.static form h) rest (at + length (form_code f h form at))) (form_ends form) (terms_end rest)
    (λ ends. form_has f h form at ends)
    (λ ends. terms_have f (after_form f.static form h) rest (at + length (form_code f h form at)) ends) e

-- ---- bodies

-- the contract of a constructor isn't an interface
record HasOwn (o : Option Contract) (s : Signature) : Type 0 where
  own : Contract
  is : o ≡ Some own
  class : own.interface ≡ false
  first : slice_get own.transactions 0 ≡ Some s

has_own : (o : Option Contract) (s : Signature) → option_and_then (λ (c : Contract). if c.interface then None else slice_get c.transactions 0) o ≡ Some s → HasOwn o s
has_own None s e = absurd (let none : ◌≡◌ {A = Option Signature} None (Some s) = e in cc)
has_own (Some own) s e = by own.interface refl e
  where
    by : (b : Bool) → own.interface ≡ b → (if b then None else slice_get own.transactions 0) ≡ Some s → HasOwn (Some own) s
    by true class e = absurd (let none : ◌≡◌ {A = Option Signature} None (Some s) = e in cc)
    by false class e = record { own = own; is = refl; class = class; first = e }

there_so : {A : Type 0} (o : Option A) (P : A → Type 0) (x : A) → o ≡ Some x → IsSomeAnd o P → P x
there_so o P x e h = subst (λ z. IsSomeAnd z P) e h

module _ (program : SilicaProgram) (checked : IsCheckedProgram program) where
  has_code : (id : ContractId) (tx : TxId) → HasBody program id tx → 0 < longest (code_of program)
  has_code id tx b =
      let code = terms_have (frame_of_body program.table id b.own tx b.signature b.body) (held_at_start id b.signature.params) b.body.terms 0 (body_formed program checked id tx b).ends in
      let found : length_of (body_code (code_of program) id tx) ≡ length (code_of_body program.table id b.own tx b.signature b.body) = ap length_of (body_found program id tx b) in
      omega (arith, subst (λ (n : ℕ). 0 < n) (sym found) code, body_le (code_of program) id tx)

  body_there : (id : ContractId) (tx : TxId) (own : Contract) (s : Signature) (o : Option SilicaBody) → contract_at program.table id ≡ Some own → own.interface ≡ false → signature_at own tx ≡ Some s
      → find (is_terms_of id tx) program.bodies ≡ o → IsSome (option_map (λ (body : SilicaBody). body.terms) o) → 0 < longest (code_of program)
  body_there id tx own s None is class signed found some = absurd (true≢false (sym some))
  body_there id tx own s (Some body) is class signed found some =
      has_code id tx (record { own = own; is_own = is; class = class; signature = s; is_signature = signed; body = body; found = found })

  has_longest : (id : ContractId) (tx : TxId) (own : Contract) (s : Signature) → contract_at program.table id ≡ Some own → own.interface ≡ false → signature_at own tx ≡ Some s → 0 < longest (code_of program)
  has_longest id tx own s is class signed = body_there id tx own s _ is class signed refl (checked.terms id tx own s is class signed)

  -- what is entered has a body
  pub entered_longest : (content : Content) (e : Entry) → IsStoreAtRest program.table content → IsEntered program.table content e → 0 < longest (code_of program)
  entered_longest content e rests (by_request_new who r labels is passed within) =
      let n = enters_new program.table content e who r is in
      let own = has_own (contract_at program.table e.contract) e.signature n.constructor in
      has_longest e.contract constructor_id own.own e.signature own.is own.class own.first
  entered_longest content e rests (by_request_call who r labels is passed within) =
      let n = enters_call program.table content e who r labels is in
      let object = all_at (IsObject program.table content.objects) content.objects n.handle.object n.object rests.is_content.objects n.there in
      let own = there_so (contract_at program.table n.object.contract) (λ c. IsObjectOf content.objects c n.object) n.own (ap (contract_at program.table) n.contract ∙ n.is_own) object in
      has_longest e.contract e.tx n.own e.signature n.is_own own.contract n.signature
