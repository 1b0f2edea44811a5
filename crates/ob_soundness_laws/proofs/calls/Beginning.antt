-- Where a body of a checked program begins, it has its terms to run.
use Rattle.std.proofs.Common.{◌≡◌, ℕ, suc, ◌+◌, ◌<◌, ◌≤◌, Bool, true, false, List, [], ◌∷◌, length, Option, Some, None, Ok, refl, sym, ap, subst, ◌∙◌, arith, ⊎_elim, true≢false, cond, eqb-true}
use Rattle.std.specs.Prelude.{nat_eq, find, option_map, max, slice_get, IsSome, IsSomeAnd}
use Rattle.std.specs.Option.{option_and_then}
use Rattle.std.proofs.lemmas.Bool.{cases_Bool, both_ways, and_parts}
use Rattle.std.proofs.lemmas.Option.{same_Some}
use Rattle.ob_base.specs.Limits.{most_slots}
use Rattle.ob_base.specs.declared.id.ContractId.{ContractId}
use Rattle.ob_base.specs.declared.id.TxId.{TxId}
use Rattle.ob_table.specs.Tables.{contract_at, signature_at}
use Rattle.ob_table.specs.declared.contract.Contract.{Contract}
use Rattle.ob_table.specs.declared.contract.Signature.{Signature}
use Rattle.ob_table_spec.specs.WellFormed.{StaticFrame, frame_of}
use Rattle.ob_silica.specs.Terms.{SilicaForm, test_form, if_form, loop_form, SilicaTerms, no_terms, and_term, SilicaBody}
use Rattle.ob_silica.specs.Slots.{slots_of_terms}
use Rattle.ob_silica_steps.specs.Configurations.{SilicaProgram, is_terms_of, terms_at}
use Rattle.ob_silica_formed.specs.Holdings.{Holdings, held_at_start, terms_end, after_form, after_terms, at_head, EachWithin, Each}
use Rattle.ob_silica_formed.specs.Points.{NamesWhatIsThere, HasKinds, TakesResult, LeavesParams, LosesNoReference, NamesBody, ReturnsResult, TakesTurns}
use Rattle.ob_silica_formed.specs.WellFormedTerms.{AreWellFormed}
use Rattle.ob_flow_spec.specs.Contexts.{BodyFrame, Context, this_known, beginning}
use Rattle.ob_flow_spec.specs.Deriving.{derive_all}
use Rattle.ob_flow_laws.proofs.Deriving.{body_passes}
use Rattle.ob_places_laws.proofs.Interfaces.{contract_number}
use Rattle.ob_places_laws.proofs.Tables.{each_at, there_so}
use Rattle.ob_soundness_laws.proofs.remaining.Branches.{reached_goes_on}
use Rattle.ob_coherent_spec.specs.Remaining.{IsCheckedBody, IsCheckedProgram, IsWellFormedForm, GoOn, Remains}

-- Forms that are well-formed.

mutual
  each_formed : (f : StaticFrame) (h : Holdings) (terms : SilicaTerms) → Each NamesWhatIsThere f h terms
      → Each HasKinds f h terms
      → Each TakesResult f h terms → Each LeavesParams f h terms → Each LosesNoReference f h terms
      → Each NamesBody f h terms
      → Each ReturnsResult f h terms → Each TakesTurns f h terms → Each IsWellFormedForm f h terms
  each_formed f h no_terms n k t p l b r w = tt
  each_formed f h (and_term form span rest) n k t p l b r w = (
    record { numbers = n.0; kinds = k.0; results = t.0; params = p.0; references = l.0; bodies = b.0; returns = r.0; turns = w.0 },
    within_formed f h form n.1 k.1 t.1 p.1 l.1 b.1 r.1 w.1,
    each_formed f (after_form f form h) rest n.2 k.2 t.2 p.2 l.2 b.2 r.2 w.2,
  )

  within_formed : (f : StaticFrame) (h : Holdings) (form : SilicaForm) → EachWithin NamesWhatIsThere f h form
      → EachWithin HasKinds f h form → EachWithin TakesResult f h form → EachWithin LeavesParams f h form
      → EachWithin LosesNoReference f h form → EachWithin NamesBody f h form → EachWithin ReturnsResult f h form
      → EachWithin TakesTurns f h form → EachWithin IsWellFormedForm f h form
  within_formed f h (test_form place state branch other join) n k t p l b r w = (
    each_formed f h branch n.0 k.0 t.0 p.0 l.0 b.0 r.0 w.0,
    each_formed f h other n.1 k.1 t.1 p.1 l.1 b.1 r.1 w.1,
  )
  within_formed f h (if_form a branch other join) n k t p l b r w = (
    each_formed f h branch n.0 k.0 t.0 p.0 l.0 b.0 r.0 w.0,
    each_formed f h other n.1 k.1 t.1 p.1 l.1 b.1 r.1 w.1,
  )
  within_formed f h (loop_form first a body end) n k t p l b r w = (
    each_formed f (at_head f first body h) first n.0 k.0 t.0 p.0 l.0 b.0 r.0 w.0,
    each_formed f (after_terms f first (at_head f first body h)) body n.1 k.1 t.1 p.1 l.1 b.1 r.1 w.1,
  )
  within_formed f h form n k t p l b r w = tt

-- Terms of a body that are found.

found_body : (p : SilicaBody → Bool) (bodies : List SilicaBody) (terms : SilicaTerms)
    → option_map (λ (body : SilicaBody). body.terms) (find p bodies) ≡ Some terms
    → (body : SilicaBody) × (n : ℕ) × (slice_get bodies n ≡ Some body) × (p body ≡ true) × (body.terms ≡ terms)
found_body p [] terms e = absurd (cc)
found_body p (body ∷ bodies) terms e = ⊎_elim
    (λ yes. (
      body,
      0,
      refl,
      yes,
      same_Some body.terms terms
          (sym (ap (λ z. option_map (λ (x : SilicaBody). x.terms) (cond z (Some body) (find p bodies))) yes) ∙ e),
    ))
    (λ no. let r = found_body p bodies terms
    (sym (ap (λ z. option_map (λ (x : SilicaBody). x.terms) (cond z (Some body) (find p bodies))) no) ∙ e) in
    (r.0, suc r.1, r.2, r.3, r.4))
    (cases_Bool (p body))

some_terms : (o : Option SilicaTerms) → IsSome o → (terms : SilicaTerms) × (o ≡ Some terms)
some_terms (Some terms) h = (terms, refl)
some_terms None h = absurd (true≢false (sym h))

-- What a body has to run where it begins.
pub record Begins (program : SilicaProgram) (contract : ContractId) (tx : TxId) (own : Contract)
    (s : Signature) : Type 0 where
  pub terms : SilicaTerms
  pub slots : ℕ
  pub found : terms_at program contract tx ≡ Some terms
  pub few : slots ≤ most_slots
  pub params : length s.params < slots
  pub remains : Remains (record {
    table = program.table;
    here = contract;
    own = own;
    tx = tx;
    signature = s;
    slots =
        slots;
  })
      (held_at_start contract s.params)
      (beginning (record {
        table = program.table;
        here = contract;
        own = own;
        tx = tx;
        signature = s;
        slots = slots;
      })) terms []

max_first : (m n k : ℕ) → max m n ≤ k → m ≤ k
max_first m n k h = omega (arith, h)

max_second : (m n k : ℕ) → max m n ≤ k → n ≤ k
max_second m n k h = omega (arith, h)

body_begins : (program : SilicaProgram) (body : SilicaBody) (own : Contract) (s : Signature)
    → IsCheckedBody program.table body → contract_at program.table body.contract ≡ Some own
    → signature_at own body.tx ≡ Some s
    → (terms_at program body.contract body.tx ≡ Some body.terms) → Begins program body.contract body.tx own s
body_begins program body own s is ec es found = record {
  terms = body.terms;
  slots = body.slots;
  found = found;
  few = formed.numbers.few;
  params = (let z = max_first (length s.params + 1)
      (slots_of_terms body.terms) body.slots formed.numbers.slots in omega (arith, z));
  remains = record {
    formed = record {
      forms = each_formed (frame_of program.table body.contract own s) (held_at_start body.contract s.params) body.terms
          formed.numbers.forms formed.kinds formed.results formed.params formed.references formed.bodies formed.returns formed.turns;
      slots = max_second (length s.params + 1) (slots_of_terms body.terms) body.slots formed.numbers.slots;
    };
    itself = ((this_known frame).permission, refl);
    left = derived.0;
    derived = derived.1;
    after = nothing_after derived.0 derived.1;
  };
}
  where
    frame : BodyFrame
    frame = record {
      table = program.table;
      here = body.contract;
      own = own;
      tx = body.tx;
      signature = s;
      slots =
          body.slots;
    }

    formed : AreWellFormed (frame_of program.table body.contract own s) (held_at_start body.contract s.params) body
    formed = there_so (signature_at own body.tx)
        (λ s. AreWellFormed (frame_of program.table body.contract own s)
        (held_at_start body.contract s.params) body) s es
        (there_so (contract_at program.table body.contract) (λ own. IsSomeAnd (signature_at own body.tx)
        (λ s. AreWellFormed (frame_of program.table body.contract own s) (held_at_start body.contract s.params) body))
        own ec is.well_formed)

    derived : (left : Option Context) × (derive_all
        (record {
          table = program.table;
          here = body.contract;
          own = own;
          tx = body.tx;
          signature = s;
          slots =
              body.slots;
        }) [] body.terms
        (beginning (record {
          table = program.table;
          here = body.contract;
          own = own;
          tx = body.tx;
          signature = s;
          slots = body.slots;
        })) ≡ Ok left)
    derived = body_passes program.table body
        (record {
          table = program.table;
          here = body.contract;
          own = own;
          tx = body.tx;
          signature = s;
          slots =
              body.slots;
        })
        (ap (λ o. option_and_then (λ (c : Contract). option_map (λ (x : Signature). record {
          table = program.table;
          here = body.contract;
          own = c;
          tx = body.tx;
          signature = x;
          slots = body.slots;
        }) (signature_at c body.tx)) o) ec
        ∙ ap (option_map (λ (x : Signature). record {
          table = program.table;
          here = body.contract;
          own = own;
          tx = body.tx;
          signature = x;
          slots = body.slots;
        })) es)
        is.derives

    nothing_after : (left : Option Context)
        → derive_all (record {
          table = program.table;
          here = body.contract;
          own = own;
          tx = body.tx;
          signature = s;
          slots = body.slots;
        }) [] body.terms
        (beginning (record {
          table = program.table;
          here = body.contract;
          own = own;
          tx = body.tx;
          signature = s;
          slots = body.slots;
        })) ≡ Ok left
        → GoOn (record {
          table = program.table;
          here = body.contract;
          own = own;
          tx = body.tx;
          signature = s;
          slots =
              body.slots;
        }) left
        (after_terms (frame_of program.table body.contract own s) body.terms (held_at_start body.contract s.params)) []
    nothing_after None e = tt
    nothing_after (Some j) e = absurd (both_ways (terms_end body.terms) (reached_goes_on
        (record {
          table = program.table;
          here = body.contract;
          own = own;
          tx = body.tx;
          signature = s;
          slots =
              body.slots;
        }) []
        body.terms (beginning (record {
          table = program.table;
          here = body.contract;
          own = own;
          tx = body.tx;
          signature = s;
          slots = body.slots;
        })) j e) formed.ends)

same_tx : (a b : TxId) → a.0 ≡ b.0 → a ≡ b
same_tx a b e = ap (λ n. record { 0 = n }) e

-- each constructor and transaction of a checked program has its terms to run
pub begins_to_run : (program : SilicaProgram) → IsCheckedProgram program
    → (contract : ContractId) (tx : TxId) (own : Contract)
    (s : Signature) → contract_at program.table contract ≡ Some own → own.interface ≡ false
    → signature_at own tx ≡ Some s
    → Begins program contract tx own s
begins_to_run program is contract tx own s ec class es =
    let some = some_terms (terms_at program contract tx) (is.terms contract tx own s ec class es) in
    let r = found_body (is_terms_of contract tx) program.bodies some.0 some.1 in
    let parts = and_parts (nat_eq r.0.contract.0 contract.0) (nat_eq r.0.tx.0 tx.0) r.3 in
    let c : r.0.contract ≡ contract = contract_number r.0.contract contract
    (eqb-true r.0.contract.0 contract.0 parts.0) in
    let t : r.0.tx ≡ tx = same_tx r.0.tx tx (eqb-true r.0.tx.0 tx.0 parts.1) in
    subst (λ z. Begins program z tx own s) c (subst (λ z. Begins program r.0.contract z own s) t
    (body_begins program r.0 own s (each_at (IsCheckedBody program.table) program.bodies r.1 r.0 is.bodies r.2)
    (ap (contract_at program.table) c ∙ ec) (ap (signature_at own) t ∙ es)
    (ap (λ z. terms_at program z r.0.tx) c ∙ ap (terms_at program contract) t ∙ some.1 ∙ ap Some (sym r.4))))
