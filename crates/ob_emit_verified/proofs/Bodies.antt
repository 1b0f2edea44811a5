-- The bodies of an emitted image are certified.
use Rattle.std.proofs.Common.{◌≡◌, ℕ, suc, ◌+◌, ◌≤◌, false, nat_lt, List, [], ◌∷◌, length, Option, Some, None, slice_get, refl, sym, ap, ◌∙◌, subst, arith, inl, inr}
use Rattle.std.specs.Prelude.{max, find, is_some, option_map, option_and_then}
use Rattle.std.specs.Option.{option_map_or}
use Rattle.std.proofs.lemmas.Bool.{false_from_ne_true, ltb-true, lt-ltb}
use Rattle.std.proofs.lemmas.Bool.Decides.{eqb_tells}
use Rattle.std.proofs.Math.Nat.{le-max_left, le-max_right}
use Rattle.ob_base.specs.Limits.{most_slots}
use Rattle.ob_base.specs.declared.id.ContractId.{ContractId}
use Rattle.ob_base.specs.declared.id.TxId.{TxId}
use Rattle.ob_table.specs.Tables.{ClassTable, contract_at, signature_at}
use Rattle.ob_table.specs.declared.contract.Contract.{Contract}
use Rattle.ob_table.specs.declared.contract.Param.{Param}
use Rattle.ob_table.specs.declared.contract.Signature.{Signature}
use Rattle.ob_table.specs.declared.seen.Kind.{Kind}
use Rattle.ob_table.specs.declared.seen.Kind.TheVariants as kind
use Rattle.ob_table_spec.specs.Conditions.{IsClassTable}
use Rattle.ob_table_spec.specs.WellFormed.{StaticFrame, frame_of, kind_of_resolved}
use Rattle.ob_silica.specs.Slots.{slots_of_terms}
use Rattle.ob_silica.specs.Terms.{SilicaForm, test_form, if_form, loop_form, SilicaTerms, no_terms, and_term, SilicaBody}
use Rattle.ob_silica_formed.specs.Holdings.{Holdings, params_held, held_at_start, after_form, after_terms, EachWithin, Each}
use Rattle.ob_silica_formed.specs.Points.{NamesWhatIsThere, HasKinds, TakesResult, LeavesParams, LosesNoReference, NamesBody, ReturnsResult, TakesTurns}
use Rattle.ob_silica_formed.specs.WellFormedTerms.{AreWellFormed}
use Rattle.ob_coherent_spec.specs.Remaining.{IsWellFormedForm}
use Rattle.ob_silica_steps.specs.Configurations.{is_terms_of}
use Rattle.ob_verify_spec.specs.Frames.{CodeFrame}
use Rattle.ob_verify_spec.specs.Conditions.{lacks_slots, has_state}
use Rattle.ob_verify_spec.specs.Ways.{at_entry}
use Rattle.ob_verify_spec.specs.Laws.{frame_of as frame_in}
use Rattle.ob_verify_spec.proofs.Fitting.{fits_self}
use Rattle.ob_verify_spec.proofs.Cells.{none_some}
use Rattle.ob_emit_spec.specs.Emission.{EmissionFrame, scratch_of_terms}
use Rattle.ob_emit_spec.specs.EmittedImages.{emitted_body, emitted_contract, frame_of_body, image_of}
use Rattle.ob_emit_verified.proofs.Flows.{IsCertified}
use Rattle.ob_emit_verified.proofs.Faultless.{IsCertifiedBody}
use Rattle.ob_emit_verified.proofs.Saying.{kinds_passed, Says}
use Rattle.ob_emit_verified.proofs.Operands.{known_of, known_fits, IsCodeOf}
use Rattle.ob_emit_verified.proofs.Terms.{HasRoom, certified_terms}
use Rattle.ob_emit_verified.proofs.Images.{contract_found, emitted_at, body_same, takes_params, result_given, results_given, transaction_of, implements_alone, serves_in, field_in}
use Rattle.ob_emit_verified.proofs.Answering.{called_in, made_in}

-- A body with its contract and signature.

-- the terms of a constructor or transaction, with what the table says of it, are well-formed
pub record HasCode (table : ClassTable) (id : ContractId) (tx : TxId) : Type 0 where
  pub own : Contract
  pub is_own : contract_at table id ≡ Some own
  pub signature : Signature
  pub is_signature : signature_at own tx ≡ Some signature
  pub body : SilicaBody
  pub formed : AreWellFormed (frame_of table id own signature) (held_at_start id signature.params) body

abbrev pub frame_at : (table : ClassTable) (bodies : List SilicaBody) (id : ContractId) (tx : TxId) → HasCode table id tx
    → CodeFrame
frame_at table bodies id tx b =
    frame_in (image_of table bodies) id (emitted_contract table bodies id b.own) (emitted_body table id b.own tx b.signature (Some b.body))

abbrev pub emission_at : (table : ClassTable) (id : ContractId) (tx : TxId) → HasCode table id tx → EmissionFrame
emission_at table id tx b = frame_of_body table id b.own tx b.signature b.body

-- What the image says.

same_signature : (table : ClassTable) (bodies : List SilicaBody) (id : ContractId) (own : Contract) (tx : TxId) (s : Signature)
    → signature_at own tx ≡ Some s
    → slice_get (emitted_contract table bodies id own).bodies tx.0 ≡ Some (emitted_at table bodies id own tx s)
same_signature table bodies id own tx s e = body_same table bodies id own tx ∙ ap (option_map (emitted_at table bodies id own tx)) e

some_mapped : {A B : Type 0} (f : A → B) (o : Option A) → is_some (option_map f o) ≡ is_some o
some_mapped f None = refl
some_mapped f (Some x) = refl

pub says : (table : ClassTable) (bodies : List SilicaBody) → IsClassTable table
    → (id : ContractId) (tx : TxId) (b : HasCode table id tx)
    → Says (frame_of table id b.own b.signature) (frame_at table bodies id tx b)
says table bodies is_table id tx b = record {
  alone = implements_alone table bodies is_table;
  serves = λ wanted has e. serves_in table bodies wanted has e;
  result = result_given table id b.own tx b.signature (Some b.body);
  results = results_given table id b.own tx b.signature (Some b.body) ∙ sym (some_mapped kind_of_resolved b.signature.result);
  field = λ n field e. let w = field_in table bodies id b.own n field e in record { kind = w.0; within = w.1 };
  state = λ s lt. lt-ltb s.0 (length b.own.states) lt;
  tested = λ c own s e lt. ap (λ z. option_map_or (has_state s) z false) (contract_found table bodies c own e) ∙ lt-ltb s.0 (length own.states) lt;
  made = λ c own e plain. made_in (frame_of table id b.own b.signature) bodies is_table c own e plain;
  called = λ c t s e plain. called_in table bodies is_table c t s e plain;
  called_here = λ t s e plain. record {
    body = emitted_at table bodies id b.own t s;
    there = same_signature table bodies id b.own t s (sym (ap (λ (o : Option Contract). option_and_then (λ (c : Contract). signature_at c t) o) b.is_own) ∙ e);
    of = transaction_of table id b.own t s (find (is_terms_of id t) bodies) plain;
  };
}

-- Well-formed forms.

mutual
  pub each_formed : (f : StaticFrame) (h : Holdings) (terms : SilicaTerms) → Each NamesWhatIsThere f h terms
      → Each HasKinds f h terms
      → Each TakesResult f h terms → Each LeavesParams f h terms → Each LosesNoReference f h terms → Each NamesBody f h terms
      → Each ReturnsResult f h terms → Each TakesTurns f h terms → Each IsWellFormedForm f h terms
  each_formed f h no_terms n k t p l b r u = tt
  each_formed f h (and_term form span rest) n k t p l b r u = (
    record { numbers = n.0; kinds = k.0; results = t.0; params = p.0; references = l.0; bodies = b.0; returns = r.0; turns = u.0 },
    within_formed f h form n.1 k.1 t.1 p.1 l.1 b.1 r.1 u.1,
    each_formed f (after_form f form h) rest n.2 k.2 t.2 p.2 l.2 b.2 r.2 u.2,
  )

  within_formed : (f : StaticFrame) (h : Holdings) (form : SilicaForm) → EachWithin NamesWhatIsThere f h form
      → EachWithin HasKinds f h form → EachWithin TakesResult f h form → EachWithin LeavesParams f h form
      → EachWithin LosesNoReference f h form → EachWithin NamesBody f h form → EachWithin ReturnsResult f h form → EachWithin TakesTurns f h form
      → EachWithin IsWellFormedForm f h form
  within_formed f h (test_form place state branch other join) n k t p l b r u = (
    each_formed f h branch n.0 k.0 t.0 p.0 l.0 b.0 r.0 u.0,
    each_formed f h other n.1 k.1 t.1 p.1 l.1 b.1 r.1 u.1,
  )
  within_formed f h (if_form a branch other join) n k t p l b r u = (
    each_formed f h branch n.0 k.0 t.0 p.0 l.0 b.0 r.0 u.0,
    each_formed f h other n.1 k.1 t.1 p.1 l.1 b.1 r.1 u.1,
  )
  within_formed f h (loop_form first a body end) n k t p l b r u = (
    each_formed f _ first n.0 k.0 t.0 p.0 l.0 b.0 r.0 u.0,
    each_formed f _ body n.1 k.1 t.1 p.1 l.1 b.1 r.1 u.1,
  )
  within_formed f h form n k t p l b r u = tt

-- The entry.

-- the kind of a parameter's slot is that of the parameter
param_there : (n : ℕ) (ps : List Param) (k : ℕ) (x : Kind) → (params_held n ps k).kind ≡ Some x
    → (j : ℕ) × (k ≡ n + j) × (slice_get (kinds_passed ps) j ≡ Some x)
param_there n [] k x e = absurd (none_some e)
param_there n (p ∷ ps) k x e = elim (eqb_tells k n) [
  | inl u ↦ (0, let same : k ≡ n = u.1 in omega arith, rw u.0 at e)
  | inr u ↦ let rest = param_there (n + 1) ps k x (rw u.0 at e) in let place : k ≡ n + 1 + rest.0 = rest.1 in (suc rest.0, omega arith, rest.2)
]

entry_holds : (id : ContractId) (ps : List Param) (k : ℕ) (x : Kind) → (held_at_start id ps k).kind ≡ Some x
    → slice_get (kind.Reference id ∷ kinds_passed ps) k ≡ Some x
entry_holds id ps k x e = elim (eqb_tells k 0) [
  | inl u ↦ let first : ◌≡◌ {A = Option Kind} (Some (kind.Reference id)) (Some x) = rw u.0 at e in ap (slice_get (kind.Reference id ∷ kinds_passed ps)) u.1 ∙ first
  | inr u ↦
      let rest = param_there 1 ps k x (rw u.0 at e) in
      let place : k ≡ suc rest.0 = let p : k ≡ 1 + rest.0 = rest.1 in omega arith in
      ap (slice_get (kind.Reference id ∷ kinds_passed ps)) place ∙ rest.2
]

-- Bodies.

pub few_slots : (n : ℕ) → n ≤ most_slots → n ≤ 128
unfolding most_slots
few_slots n le = le

pub code_of : (table : ClassTable) (bodies : List SilicaBody) → IsClassTable table
    → (id : ContractId) (tx : TxId) (b : HasCode table id tx) → IsCodeOf (frame_at table bodies id tx b) (emission_at table id tx b)
code_of table bodies is_table id tx b =
    let enough : max (length b.signature.params + 1) (slots_of_terms b.body.terms) ≤ b.body.slots = b.formed.numbers.slots in
    let first = le-max_left (length b.signature.params + 1) (slots_of_terms b.body.terms) in
    record {
      says = says table bodies is_table id tx b;
      first = omega arith;
      few = few_slots b.body.slots b.formed.numbers.few;
      within = omega arith;
      result = refl;
    }

enough_slots : (table : ClassTable) (bodies : List SilicaBody) (id : ContractId) (tx : TxId) (b : HasCode table id tx)
    → lacks_slots (frame_at table bodies id tx b) 0 ≡ false
enough_slots table bodies id tx b =
    let enough : max (length b.signature.params + 1) (slots_of_terms b.body.terms) ≤ b.body.slots = b.formed.numbers.slots in
    let first = le-max_left (length b.signature.params + 1) (slots_of_terms b.body.terms) in
    let c = frame_at table bodies id tx b in
    let params : length c.body.params ≡ length b.signature.params = (takes_params table id b.own tx b.signature (Some b.body)).count in
    let all : c.body.slots ≡ b.body.slots + scratch_of_terms b.body.terms = refl in
    false_from_ne_true (nat_lt c.body.slots (length c.body.params + 1)) (λ e. let lt = ltb-true c.body.slots (length c.body.params + 1) e in absurd (omega arith))

-- a body's code is certified
pub certified_body : (table : ClassTable) (bodies : List SilicaBody) → IsClassTable table
    → (id : ContractId) (tx : TxId) (b : HasCode table id tx)
    → IsCertifiedBody (frame_at table bodies id tx b)
certified_body table bodies is_table id tx b =
    let c = frame_at table bodies id tx b in
    let f = emission_at table id tx b in
    let h = held_at_start id b.signature.params in
    let of = code_of table bodies is_table id tx b in
    let enough : max (length b.signature.params + 1) (slots_of_terms b.body.terms) ≤ b.body.slots = b.formed.numbers.slots in
    let low = le-max_right (length b.signature.params + 1) (slots_of_terms b.body.terms) in
    let each = each_formed f.static h b.body.terms b.formed.numbers.forms b.formed.kinds b.formed.results b.formed.params b.formed.references b.formed.bodies b.formed.returns b.formed.turns in
    let room : HasRoom c f (slots_of_terms b.body.terms) (scratch_of_terms b.body.terms) = record { low = omega arith; room = omega arith } in
    let code = certified_terms c f of h refl b.body.terms 0 each room b.formed.reached in
    record {
      alone = of.says.alone;
      enough = enough_slots table bodies id tx b;
      before = known_of f.scratch h;
      after = known_of f.scratch (after_terms f.static b.body.terms h);
      entry = known_fits c f.scratch h (at_entry c) (λ k x lt e. (
        x,
        subst (λ z. slice_get (kind.Reference id ∷ z) k ≡ Some x) (sym (takes_params table id b.own tx b.signature (Some b.body)).kinds) (entry_holds id b.signature.params k x e),
        fits_self c.image x,
      ));
      code = subst (λ z. IsCertified c 0 c.body.instructions (known_of f.scratch h) z (known_of f.scratch (after_terms f.static b.body.terms h))) b.formed.ends code;
    }
