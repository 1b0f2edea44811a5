-- A call from outside by its terms.
use Rattle.std.proofs.Common.{◌≡◌, ◌≢◌, ℕ, zero, suc, ◌≤◌, Bool, true, false, ◌&&◌, List, [], ◌∷◌, map, length, Option, Some, None, refl, sym, ap, ◌∙◌, subst, arith, true≢false}
use Rattle.std.specs.Prelude.{option_and_then, if◌then◌else◌}
use Rattle.std.specs.Option.{option_map_or}
use Rattle.ob_base.specs.declared.id.ContractId.{ContractId}
use Rattle.ob_base.specs.declared.id.TxId.{TxId}
use Rattle.ob_table.specs.Tables.{ClassTable, contract_at, signature_at, signature_of}
use Rattle.ob_table.specs.declared.contract.Contract.{Contract}
use Rattle.ob_table.specs.declared.contract.ResolvedType.TheVariants as typed
use Rattle.ob_table.specs.declared.contract.Signature.{Signature}
use Rattle.ob_table.specs.declared.seen.Kind.TheVariants.{Reference}
use Rattle.ob_heap_spec.specs.Values.{Value, reference, nothing}
use Rattle.ob_heap_spec.specs.Objects.{Object}
use Rattle.ob_heap_spec.specs.Contents.{object_at}
use Rattle.ob_heap_spec.specs.Worlds.{World, by_reentry, read_object, RunOutcome, gives, ◌>>=◌, with_some, unit, with_unit_taken}
use Rattle.ob_heap_spec.specs.Marks.{comes_into, is_in_progress, enter}
use Rattle.ob_source_meaning.specs.Frames.{of_object, Calls}
use Rattle.ob_heap_spec.specs.GoingWrong.{is_within, is_held_within, may_begin}
use Rattle.ob_source_meaning.specs.Bodies.{comes_in}
use Rattle.ob_source_meaning.specs.Calls.{run_on, entered as entered_frame, call_after_unit, call_with}
use Rattle.ob_heap_spec.specs.Dispatch.{answering}
use Rattle.ob_silica_steps.specs.Configurations.{SilicaProgram, How, abort_step as abort_next, by_receiver, by_this, by_new, runs, Configuration, NextStep, goes, stuck}
use Rattle.ob_silica_steps.specs.Here.{Here, if_there, with_unit}
use Rattle.ob_silica_places.specs.Known.{at}
use Rattle.ob_silica_steps.specs.Binding.{bound_cell}
use Rattle.ob_silica_places.specs.Parameters.{Parameter, parameter_of, all_parameters}
use Rattle.ob_silica_steps.specs.Entering.{Entered, are_within, calls_object, begins_on, this_cell, enters}
use Rattle.ob_lower_correct.proofs.Slots.{Used}
use Rattle.ob_lower_correct.proofs.Runs.{Ends, one_step}
use Rattle.ob_lower_correct.proofs.Standing.{Setting, config, shape, shape_value, Stands, at_same}
use Rattle.ob_lower_correct.proofs.Changes.{noted_quiet, Quiet}
use Rattle.ob_lower_correct.proofs.Binding.{come_all, come_args, quiet_all, bound_slots, bound_holds, HoldsFrom}
use Rattle.ob_lower_correct.proofs.Beginning.{within_args}
use Rattle.ob_lower_correct.proofs.Calling.{CallsRun}
use Rattle.ob_lower_correct.proofs.Returning.{gives_back, plain_finishes}
use Rattle.ob_lower_correct.proofs.Entering.{BodyPair, neither, pair, terms_run, fixed_slots, zero_fixed, body_ends, transaction_is}
use Rattle.ob_lower_correct.proofs.Ending.{Finishes}
use Rattle.ob_silica_steps.specs.Returning.{goes_back}
use Rattle.ob_silica_places.specs.Known.{Known}
use Rattle.ob_silica_steps.specs.Configurations.{SlotCells}
use Rattle.ob_lower_correct.proofs.CallsThis.{parameters_length}
use Rattle.ob_lower_correct.proofs.Changes.{quiet_read}
use Rattle.ob_lower_correct.proofs.Standing.{at_other}
use Rattle.ob_lower_correct.proofs.Binding.{holds_on}
use Rattle.ob_silica_steps.specs.Configurations.{Notes, HandleNote, ended, leaves}
use Rattle.ob_silica_steps.specs.Returning.{leaves_progress}
use Rattle.ob_silica_steps.specs.Steps.{then_steps, steps}
use Rattle.ob_silica_steps.specs.Here.{self_of, field_of, with_fuel_left}
use Rattle.ob_silica_steps.specs.Starting.{first_notes, declared_note, no_note, pass_all, alone, started_call}
use Rattle.ob_heap_spec.specs.Worlds.{aborts, wrong, with_fuel}
use Rattle.ob_table.specs.declared.contract.Field.{Field}
use Rattle.ob_lower_correct.proofs.Exact.{EndsExactly}
use Rattle.ob_lower_correct.proofs.Runs.{leads_on}
use Rattle.ob_lower_correct.proofs.Standing.{Noted, self_is, stands_on}
use Rattle.ob_lower_correct.proofs.Flows.{Left}
use Rattle.ob_lower_correct.proofs.CallsObject.{Agrees, same_parameters}
use Rattle.ob_silica_steps.specs.Configurations.{terms_at}

-- What is noted at the start is what is declared.
pub first_noted : (table : ClassTable) (objects : List Object) (handles : List HandleNote) → Noted table (first_notes table objects handles) objects
first_noted table objects handles = record {
  by = λ n k o f v eo ef ev.
      ap (λ (x : Known). x.kind) (ap (λ z. option_map_or (λ o. option_map_or (λ (f : Field). declared_note f.of) (field_of table o k) no_note) z no_note) eo
      ∙ ap (λ z. option_map_or (λ (f : Field). declared_note f.of) z no_note) ef);
}

-- values come into parameters from outside as they do in a call
pub passes : (vs : List Value) (k : ℕ) (ps : List Parameter) (slots : SlotCells) (w : World) (go : SlotCells → World → NextStep) → length vs ≡ length ps → pass_all vs k ps slots w go ≡ go (bound_slots slots k ps vs) (come_all ps vs w)
passes [] k [] slots w go len = refl
passes (v ∷ vs) k (p ∷ ps) slots w go len = passes vs (suc k) ps (at slots k (Some (bound_cell p.of v))) (comes_into p.of v w) go (omega (arith, len))
passes [] k (p ∷ ps) slots w go len = absurd (omega (arith, len))
passes (v ∷ vs) k [] slots w go len = absurd (omega (arith, len))

-- a frame for which none waits leaves, and the run ends
pub left_over : (program : SilicaProgram) (less : ℕ) (calls : Calls) (called : CallsRun program less calls) (cs : Setting) (found : contract_at program.table cs.here ≡ Some cs.own) (start : SlotCells) (finish : Option Value → World → RunOutcome (Option Value)) (fixed : List ℕ) (zero_is : Used 0 fixed)
    (h0 : Here) (c : Configuration) (o : RunOutcome (Option Value)) → cs.stack ≡ [] → Stands program.table less cs h0 → Ends program (Left program less calls called cs found start finish fixed zero_is [] h0) c o
    → EndsExactly program (goes c) (o >>= (λ r w. gives r (leaves_progress cs.how cs.this w)))
left_over program less calls called cs found start finish fixed zero_is h0 c (gives r w) es st l =
    let t : Here = record { slots = l.by.slots; notes = l.by.notes; world = w } in
    let self : self_of t.slots ≡ cs.this = self_is program.table less (stands_on program.table less zero_is st l.by.comes) in
    let end = (leads_on program l.by.leads (one_step program {c = config cs t (leaves l.by.cell [])} (ap (λ stack. goes_back stack l.by.cell (config cs t (leaves l.by.cell []))) es))).by 0 in
    (end.0, end.2 ∙ ap (λ v. ended v (leaves_progress cs.how (self_of t.slots) w)) l.by.value ∙ ap (λ n. ended r (leaves_progress cs.how n w)) self)
left_over program less calls called cs found start finish fixed zero_is h0 c (aborts cause s) es st l = let end = l.by.by 0 in (end.0, end.2)
left_over program less calls called cs found start finish fixed zero_is h0 c wrong es st l = let end = l.by.by 0 in (end.0, end.2)

-- a body that no frame waits for, from the step into it
pub body_over : (program : SilicaProgram) (less : ℕ) (calls : Calls) (called : CallsRun program less calls) (cs : Setting) (found : contract_at program.table cs.here ≡ Some cs.own) (finish : Option Value → World → RunOutcome (Option Value)) (args : List Value)
    (h0 : Here) (next : NextStep) → cs.stack ≡ [] → BodyPair program cs.here cs.own cs.tx cs.signature → Stands program.table less cs h0 → HoldsFrom h0.slots 1 (map parameter_of cs.signature.params) args
    → Finishes program less calls called cs found h0.slots finish (fixed_slots cs.signature) (zero_fixed cs.signature)
    → next ≡ if_there (terms_at program cs.here cs.tx) (λ terms. goes (config cs h0 (runs terms [])))
    → EndsExactly program next (body_ends program less calls called cs found finish args h0.world >>= (λ r w. gives r (leaves_progress cs.how cs.this w)))
body_over program less calls called cs found finish args h0 next es (neither eb et) st held finishes e =
    rw eb (0, ap (λ n. then_steps n (steps program 0)) (e ∙ ap (λ o. if_there o (λ terms. goes (config cs h0 (runs terms [])))) et))
body_over program less calls called cs found finish args h0 next es (pair body lowered eb et ec low_body is_body) st held finishes e =
    let c = config cs h0 (runs lowered.terms []) in
    let o = body_ends program less calls called cs found finish args h0.world in
    subst (λ n. EndsExactly program n (o >>= (λ r w. gives r (leaves_progress cs.how cs.this w)))) (sym (e ∙ ap (λ o. if_there o (λ terms. goes (config cs h0 (runs terms [])))) et))
    (left_over program less calls called cs found h0.slots finish (fixed_slots cs.signature) (zero_fixed cs.signature) h0 c o es st
    (terms_run program less calls called cs found finish args h0 body lowered eb ec low_body is_body st held finishes))

module _ (program : SilicaProgram) (n : ℕ) (inner : Calls) (inner_runs : (m : ℕ) → n ≡ suc m → CallsRun program m inner)
    (bodies : (contract : ContractId) (own : Contract) (tx : TxId) (g : Signature) → contract_at program.table contract ≡ Some own → signature_at own tx ≡ Some g → BodyPair program contract own tx g) (agrees : Agrees program.table) where
  abbrev table : ClassTable
  table = program.table

  module _ (notes0 : Notes) (w0 : World) (noted0 : Noted table notes0 w0.objects) (few : w0.fuel ≤ n) (declared : ContractId) (tx : TxId) (asked : Signature) (eg : signature_of table declared tx ≡ Some asked) (vs : List Value) (len : length vs ≡ length asked.params) (i : ℕ) where
    abbrev ps : List Parameter
    ps = map parameter_of asked.params

    abbrev S : SlotCells
    S = bound_slots nothing 0 (all_parameters declared asked) (reference i ∷ vs)

    abbrev W : World
    W = come_all (all_parameters declared asked) (reference i ∷ vs) w0

    module _ (m j : ℕ) (en : n ≡ suc m) (le : j ≤ m) where
      abbrev w1 : World
      w1 = with_unit_taken W j

      abbrev w2 : World
      w2 = read_object w1 i

      abbrev E : World → Entered
      E w = record { slots = S; stack = []; notes = notes0; world = w }

      quiet : Quiet w0 W
      quiet = quiet_all (all_parameters declared asked) (reference i ∷ vs) w0

      read_quiet : Quiet w1 w2
      read_quiet = quiet_read w1 i

      no_new : by_receiver ≡ by_new → ⊥
      no_new e = true≢false (ap is_receiver e)
        where
          is_receiver : How → Bool
          is_receiver by_this = false
          is_receiver by_receiver = true
          is_receiver by_new = false

      -- the transaction is found
      module _ (o : Object) (own : Contract) (t : TxId) (g : Signature) (eo : object_at w2.objects i ≡ Some o) (eown : contract_at table o.contract ≡ Some own) (et : answering declared tx asked o.contract own ≡ Some t) (esg : signature_at own t ≡ Some g) where
        abbrev cs : Setting
        cs = record { this = i; here = o.contract; own = own; tx = t; signature = g; how = by_receiver; share_entered = (entered_frame table i o own g).share_entered; stack = [] }

        abbrev h0 : Here
        h0 = record { slots = at S 0 (Some (this_cell o.contract g.entry i)); notes = notes0; world = enter i w2 }

        slot_zero : shape (h0.slots 0) ≡ Some (reference i, Reference o.contract)
        slot_zero = ap shape (at_same S 0 (Some (this_cell o.contract g.entry i)))

        holds : HoldsFrom h0.slots 1 (map parameter_of g.params) vs
        holds =
            let asked_holds : HoldsFrom S 1 ps vs = bound_holds ps vs (at nothing 0 (Some (bound_cell (typed.Reference declared asked.entry) (reference i)))) 1 (len ∙ sym (parameters_length asked.params)) in
            subst (λ qs. HoldsFrom h0.slots 1 qs vs) (sym (same_parameters g.params asked.params (agrees declared tx asked o.contract own t g eown eg et esg).0))
            (holds_on ps vs S h0.slots 1 (λ x lt. ap shape (at_other S 0 (Some (this_cell o.contract g.entry i)) x (not_zero x lt))) asked_holds)
          where
            not_zero : (x : ℕ) → 1 ≤ x → x ≢ 0
            not_zero x lt e = omega (arith, lt, e)

        stands : Stands table m cs h0
        stands = record {
          this = slot_zero;
          object = (o, eo, refl);
          noted = noted_quiet {w = w1} {v = w2} (noted_quiet {more = notes0} {w = w0} {v = W} noted0 quiet (λ a b. refl)) read_quiet (λ a b. refl);
          fuel = subst (λ x. x ≤ m) (sym read_quiet.fuel) le;
        }

        within : are_within table w2.objects h0.slots 0 (all_parameters o.contract g) ≡ may_begin table w2.objects o.contract g i vs
        within = ap (λ z. option_map_or (is_within table w2.objects (typed.Reference o.contract g.entry)) z true && are_within table w2.objects h0.slots 1 (map parameter_of g.params)) (shape_value (h0.slots 0) (reference i) (Reference o.contract) slot_zero)
            ∙ ap (λ b. is_held_within table w2.objects o.contract g.entry (Some i) && b) (within_args table w2.objects g.params vs h0.slots 1 holds)

        begun : (next : NextStep) (b : Bool) → may_begin table w2.objects o.contract g i vs ≡ b → next ≡ begins_on program (E w2) i o t g
            → EndsExactly program next (run_on inner (entered_frame table i o own g) t g vs w2)
        begun next false eb e =
            rw eb (0, ap (λ z. then_steps z (steps program 0)) (e ∙ ap (λ b. if b then enters program (record { slots = h0.slots; stack = cs.stack; notes = h0.notes; world = enter i w2 }) o.contract t by_receiver cs.share_entered else stuck) (within ∙ eb)))
        begun next true eb e =
            let run = inner_runs m en in
            rw (eb, transaction_is table inner cs vs (enter i w2))
            (body_over program m inner run cs eown (gives_back table cs vs) vs h0 next refl (bodies o.contract own t g eown esg) stands holds
            (plain_finishes program m inner run cs eown h0.slots vs (fixed_slots g) (zero_fixed g) refl (ap (option_and_then (λ c. signature_at c t)) eown ∙ esg) holds no_new)
            (e ∙ ap (λ b. if b then enters program (record { slots = h0.slots; stack = []; notes = h0.notes; world = enter i w2 }) o.contract t by_receiver cs.share_entered else stuck) (within ∙ eb)))

      by_signature : (next : NextStep) (o : Object) (own : Contract) (t : TxId) (z : Option Signature) → object_at w2.objects i ≡ Some o → contract_at table o.contract ≡ Some own → answering declared tx asked o.contract own ≡ Some t → signature_at own t ≡ z
          → next ≡ if_there z (λ g. begins_on program (E w2) i o t g)
          → EndsExactly program next (with_some z (λ g. run_on inner (entered_frame table i o own g) t g vs w2))
      by_signature next o own t None eo eown et esg e = (0, ap (λ z. then_steps z (steps program 0)) e)
      by_signature next o own t (Some g) eo eown et esg e = begun o own t g eo eown et esg next (may_begin table w2.objects o.contract g i vs) refl e

      by_answer : (next : NextStep) (o : Object) (own : Contract) (z : Option TxId) → object_at w2.objects i ≡ Some o → contract_at table o.contract ≡ Some own → answering declared tx asked o.contract own ≡ z
          → next ≡ if_there z (λ t. if_there (signature_at own t) (λ g. begins_on program (E w2) i o t g))
          → EndsExactly program next (with_some z (λ t. with_some (signature_at own t) (λ g. run_on inner (entered_frame table i o own g) t g vs w2)))
      by_answer next o own None eo eown et e = (0, ap (λ z. then_steps z (steps program 0)) e)
      by_answer next o own (Some t) eo eown et e = by_signature next o own t (signature_at own t) eo eown et refl e

      by_contract : (next : NextStep) (o : Object) (z : Option Contract) → object_at w2.objects i ≡ Some o → contract_at table o.contract ≡ z
          → next ≡ if_there z (λ own. if_there (answering declared tx asked o.contract own) (λ t. if_there (signature_at own t) (λ g. begins_on program (E w2) i o t g)))
          → EndsExactly program next (with_some z (λ own. with_some (answering declared tx asked o.contract own) (λ t. with_some (signature_at own t) (λ g. run_on inner (entered_frame table i o own g) t g vs w2))))
      by_contract next o None eo eown e = (0, ap (λ z. then_steps z (steps program 0)) e)
      by_contract next o (Some own) eo eown e = by_answer next o own (answering declared tx asked o.contract own) eo eown refl e

      by_object : (next : NextStep) (z : Option Object) → object_at w2.objects i ≡ z
          → next ≡ if_there z (λ o. if_there (contract_at table o.contract) (λ own. if_there (answering declared tx asked o.contract own) (λ t. if_there (signature_at own t) (λ g. begins_on program (E w2) i o t g))))
          → EndsExactly program next (with_some z (λ o. with_some (contract_at table o.contract) (λ own. with_some (answering declared tx asked o.contract own) (λ t. with_some (signature_at own t) (λ g. run_on inner (entered_frame table i o own g) t g vs w2)))))
      by_object next None eo e = (0, ap (λ z. then_steps z (steps program 0)) e)
      by_object next (Some o) eo e = by_contract next o (contract_at table o.contract) eo refl e

      -- the receiver is read, and mustn't have a transaction in progress
      by_progress : (next : NextStep) (b : Bool) → is_in_progress w2 i ≡ b → next ≡ calls_object program (E w1) declared tx asked i
          → EndsExactly program next (call_after_unit table inner i declared tx asked vs w1)
      by_progress next true eb e =
          rw eb (0, ap (λ z. then_steps z (steps program 0)) (e ∙ ap (λ b. if b then abort_next (by_reentry i) w2 else if_there (object_at w2.objects i) (λ o. if_there (contract_at table o.contract) (λ own. if_there (answering declared tx asked o.contract own) (λ t. if_there (signature_at own t) (λ g. begins_on program (E w2) i o t g))))) eb))
      by_progress next false eb e =
          rw eb (by_object next (object_at w2.objects i) refl
          (e ∙ ap (λ b. if b then abort_next (by_reentry i) w2 else if_there (object_at w2.objects i) (λ o. if_there (contract_at table o.contract) (λ own. if_there (answering declared tx asked o.contract own) (λ t. if_there (signature_at own t) (λ g. begins_on program (E w2) i o t g))))) eb))

    -- the unit of the call
    by_fuel : (l : ℕ) → W.fuel ≡ l → l ≤ n → (next : NextStep) → next ≡ with_fuel_left l W (λ w. calls_object program (alone S notes0 w) declared tx asked i)
        → EndsExactly program next (with_fuel l W (λ w1. call_after_unit table inner i declared tx asked vs w1))
    by_fuel zero el le next e = (0, ap (λ z. then_steps z (steps program 0)) e)
    by_fuel (suc j) el le next e = with_most n refl le
      where
        with_most : (k : ℕ) → n ≡ k → suc j ≤ k → EndsExactly program next (call_after_unit table inner i declared tx asked vs (with_unit_taken W j))
        with_most zero en le = absurd (omega (arith, le))
        with_most (suc m) en le = by_progress m j en (omega (arith, le)) next (is_in_progress (read_object (with_unit_taken W j) i) i) refl e

    pub call_over : EndsExactly program (started_call program declared tx i vs notes0 w0) (call_with table inner (of_object i declared tx) vs w0)
    call_over =
        subst (λ o. EndsExactly program (started_call program declared tx i vs notes0 w0) (with_some o (λ asked. unit (comes_in declared asked i vs w0) (λ w1. call_after_unit table inner i declared tx asked vs w1)))) (sym eg)
        (rw (come_args asked.params vs (comes_into (typed.Reference declared asked.entry) (reference i) w0))
        (by_fuel W.fuel refl (subst (λ z. z ≤ n) (sym (quiet_all (all_parameters declared asked) (reference i ∷ vs) w0).fuel) few) (started_call program declared tx i vs notes0 w0)
        (ap (λ o. if_there o (λ g. pass_all (reference i ∷ vs) 0 (all_parameters declared g) nothing w0 (λ slots v. with_unit v (λ x. calls_object program (alone slots notes0 x) declared tx g i)))) eg
        ∙ passes (reference i ∷ vs) 0 (all_parameters declared asked) nothing w0 (λ slots v. with_unit v (λ x. calls_object program (alone slots notes0 x) declared tx asked i)) (ap suc (len ∙ sym (parameters_length asked.params))))))
