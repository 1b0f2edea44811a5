-- A call with a receiver by its terms.
use Rattle.std.proofs.Common.{◌≡◌, ◌≢◌, ℕ, suc, ◌≤◌, Bool, true, false, ◌&&◌, List, [], ◌∷◌, map, length, Option, Some, None, refl, sym, ap, ◌∙◌, subst, arith, true≢false, ◌⊎◌, inl}
use Rattle.std.specs.Prelude.{option_map, option_and_then, IsSome, IsSomeAnd, if◌then◌else◌}
use Rattle.std.specs.Option.{option_map_or}
use Rattle.ob_base.specs.declared.fault.Span.{Span}
use Rattle.ob_base.specs.declared.id.ContractId.{ContractId}
use Rattle.ob_base.specs.declared.id.TxId.{TxId}
use Rattle.ob_table.specs.Tables.{ClassTable, contract_at, signature_at, signature_of}
use Rattle.ob_table.specs.declared.contract.Contract.{Contract}
use Rattle.ob_table.specs.declared.contract.ResolvedType.TheVariants as typed
use Rattle.ob_table.specs.declared.contract.Param.{Param}
use Rattle.ob_table.specs.declared.contract.Signature.{Signature}
use Rattle.ob_table.specs.declared.seen.Kind.TheVariants.{Reference}
use Rattle.ob_heap_spec.specs.Values.{Value, int_value, bool_value, text_value, reference, referred, nothing}
use Rattle.ob_heap_spec.specs.Objects.{Object}
use Rattle.ob_heap_spec.specs.Contents.{object_at}
use Rattle.ob_heap_spec.specs.Worlds.{World, by_reentry, read_object, with_some, unit, with_unit_taken}
use Rattle.ob_heap_spec.specs.Marks.{comes_into, is_in_progress, enter}
use Rattle.ob_source_meaning.specs.Frames.{of_object, Calls}
use Rattle.ob_heap_spec.specs.GoingWrong.{is_within, is_held_within, may_begin}
use Rattle.ob_source_meaning.specs.Bodies.{comes_in}
use Rattle.ob_source_meaning.specs.Calls.{run_on, entered as entered_frame, call_after_unit, call_with}
use Rattle.ob_heap_spec.specs.Dispatch.{answering}
use Rattle.ob_silica.specs.Terms.{SilicaTerms, and_term, call_form}
use Rattle.ob_silica.specs.declared.place.Operand.{Operand}
use Rattle.ob_silica_steps.specs.Cells.{Cell, value_in}
use Rattle.ob_silica_places.specs.Places.{all_located, located}
use Rattle.ob_silica_steps.specs.Configurations.{SilicaProgram, How, abort_step as abort_next, by_receiver, by_this, by_new, Rest, runs, Configuration, NextStep, stuck}
use Rattle.ob_silica_steps.specs.Here.{Here, read, if_there, with_unit}
use Rattle.ob_silica_places.specs.Known.{at}
use Rattle.ob_silica_steps.specs.Binding.{bound_cell, Bound, unbound, bind_all}
use Rattle.ob_silica_places.specs.Parameters.{Parameter, parameter_of, all_parameters}
use Rattle.ob_silica_steps.specs.Entering.{Entered, are_within, calls_object, begins_on, this_cell, enters}
use Rattle.ob_silica_steps.specs.Steps.{step}
use Rattle.ob_silica_steps.specs.Calling.{entered_with}
use Rattle.ob_lower_correct.proofs.Runs.{Ends, one_step}
use Rattle.ob_lower_correct.proofs.Standing.{Setting, config, shape, shape_value, Stands, Later, at_same}
use Rattle.ob_lower_correct.proofs.Changes.{noted_quiet, quiet_later, Quiet}
use Rattle.ob_lower_correct.proofs.Binding.{HandedOver, bind_stuck, binds, come_args, quiet_all, bound_holds, read_length, HoldsFrom}
use Rattle.ob_lower_correct.proofs.Beginning.{within_args}
use Rattle.ob_lower_correct.proofs.Calling.{read_values, Called, Passes, Answers, CallsRun}
use Rattle.ob_lower_correct.proofs.Expressions.{called_so}
use Rattle.ob_lower_correct.proofs.Returning.{gives_back, plain_finishes}
use Rattle.ob_lower_correct.proofs.Leaving.{called_from}
use Rattle.ob_lower_correct.proofs.Entering.{BodyPair, fixed_slots, zero_fixed, body_ends, entered_runs, transaction_is, unit_called}
use Rattle.ob_table_spec.specs.Conditions.{asked_of}
use Rattle.ob_lower_correct.proofs.CallsThis.{first_read, parameters_length, located_length, waiting}
use Rattle.ob_lower_correct.proofs.Changes.{quiet_read}
use Rattle.ob_lower_correct.proofs.Standing.{at_other}
use Rattle.ob_lower_correct.proofs.Binding.{holds_on}
use Rattle.ob_lower_correct.proofs.Values.{there, not_there}

asked_parameters : (ps : List Param) → map parameter_of ps ≡ map (λ a. record { of = a.0; exit = a.1 }) (map asked_of ps)
asked_parameters [] = refl
asked_parameters (p ∷ ps) = ap (λ l. parameter_of p ∷ l) (asked_parameters ps)

pub same_parameters : (ps qs : List Param) → map asked_of ps ≡ map asked_of qs → map parameter_of ps ≡ map parameter_of qs
same_parameters ps qs e = asked_parameters ps ∙ ap (map (λ a. record { of = a.0; exit = a.1 })) e ∙ sym (asked_parameters qs)

-- what a contract runs for a transaction has its parameters and its result
abbrev pub Agrees : ClassTable → Type 0
Agrees table = (declared : ContractId) (tx : TxId) (asked : Signature) (contract : ContractId) (own : Contract) (t : TxId) (g : Signature) → contract_at table contract ≡ Some own → signature_of table declared tx ≡ Some asked
    → answering declared tx asked contract own ≡ Some t → signature_at own t ≡ Some g → (map asked_of g.params ≡ map asked_of asked.params) × (g.result ≡ asked.result)

module _ (program : SilicaProgram) (n : ℕ) (inner : Calls) (inner_runs : (m : ℕ) → n ≡ suc m → CallsRun program m inner)
    (bodies : (contract : ContractId) (own : Contract) (tx : TxId) (g : Signature) → contract_at program.table contract ≡ Some own → signature_at own tx ≡ Some g → BodyPair program contract own tx g) (agrees : Agrees program.table) where
  abbrev table : ClassTable
  table = program.table

  module _ (s : Setting) (h : Here) (k : Option ℕ) (receiver : Operand) (declared : ContractId) (tx : TxId) (args : List Operand) (span : Span) (rest : SilicaTerms) (outer : List Rest)
      (st : Stands table n s h) (asked : Signature) (eg : signature_of table declared tx ≡ Some asked) (vs : List Value) (len : length vs ≡ length asked.params) (i : ℕ) where
    abbrev C : Configuration
    C = config s h (runs (and_term (call_form k receiver declared tx args) span rest) outer)

    abbrev ps : List Parameter
    ps = map parameter_of asked.params

    module _ (m j : ℕ) (d : Bound) (en : n ≡ suc m) (le : j ≤ m) (fewer : j ≤ h.world.fuel) (over : HandedOver (unbound h) d 0 (all_parameters declared asked) (reference i ∷ vs)) where
      abbrev w1 : World
      w1 = with_unit_taken d.from.world j

      abbrev w2 : World
      w2 = read_object w1 i

      abbrev E : World → Entered
      E w = record { slots = d.slots; stack = waiting s h rest outer k d ∷ s.stack; notes = d.from.notes; world = w }

      quiet : Quiet h.world d.from.world
      quiet = subst (Quiet h.world) (sym over.world) (quiet_all (all_parameters declared asked) (reference i ∷ vs) h.world)

      read_quiet : Quiet w1 w2
      read_quiet = quiet_read w1 i

      less_most : m ≤ n
      less_most = omega (arith, en)

      no_new : by_receiver ≡ by_new → ⊥
      no_new e = true≢false (ap is_receiver e)
        where
          is_receiver : How → Bool
          is_receiver by_this = false
          is_receiver by_receiver = true
          is_receiver by_new = false

      -- the transaction is found
      module _ (o : Object) (own : Contract) (t : TxId) (g : Signature) (eo : object_at w2.objects i ≡ Some o) (eown : contract_at table o.contract ≡ Some own) (et : answering declared tx asked o.contract own ≡ Some t) (esg : signature_at own t ≡ Some g) where
        abbrev cs : Setting
        cs = record { this = i; here = o.contract; own = own; tx = t; signature = g; how = by_receiver; share_entered = (entered_frame table i o own g).share_entered; stack = waiting s h rest outer k d ∷ s.stack }

        abbrev h0 : Here
        h0 = record { slots = at d.slots 0 (Some (this_cell o.contract g.entry i)); notes = d.from.notes; world = enter i w2 }

        slot_zero : shape (h0.slots 0) ≡ Some (reference i, Reference o.contract)
        slot_zero = ap shape (at_same d.slots 0 (Some (this_cell o.contract g.entry i)))

        holds : HoldsFrom h0.slots 1 (map parameter_of g.params) vs
        holds =
            let asked_holds : HoldsFrom d.slots 1 ps vs = subst (λ slots. HoldsFrom slots 1 ps vs) (sym over.slots) (bound_holds ps vs (at nothing 0 (Some (bound_cell (typed.Reference declared asked.entry) (reference i)))) 1 (len ∙ sym (parameters_length asked.params))) in
            subst (λ qs. HoldsFrom h0.slots 1 qs vs) (sym (same_parameters g.params asked.params (agrees declared tx asked o.contract own t g eown eg et esg).0))
            (holds_on ps vs d.slots h0.slots 1 (λ x lt. ap shape (at_other d.slots 0 (Some (this_cell o.contract g.entry i)) x (not_zero x lt))) asked_holds)
          where
            not_zero : (x : ℕ) → 1 ≤ x → x ≢ 0
            not_zero x lt e = omega (arith, lt, e)

        stands : Stands table m cs h0
        stands = record {
          this = slot_zero;
          object = (o, eo, refl);
          noted = noted_quiet {w = w1} {v = w2} (noted_quiet {more = d.from.notes} {w = h.world} {v = d.from.world} st.noted quiet over.alike.notes) read_quiet (λ a b. refl);
          fuel = subst (λ x. x ≤ m) (sym read_quiet.fuel) le;
        }

        within : are_within table w2.objects h0.slots 0 (all_parameters o.contract g) ≡ may_begin table w2.objects o.contract g i vs
        within = ap (λ z. option_map_or (is_within table w2.objects (typed.Reference o.contract g.entry)) z true && are_within table w2.objects h0.slots 1 (map parameter_of g.params)) (shape_value (h0.slots 0) (reference i) (Reference o.contract) slot_zero)
            ∙ ap (λ b. is_held_within table w2.objects o.contract g.entry (Some i) && b) (within_args table w2.objects g.params vs h0.slots 1 holds)

        answers : Answers table declared tx → IsSome g.result ⊎ (by_receiver ≡ by_new)
        answers a = inl (subst IsSome (sym (agrees declared tx asked o.contract own t g eown eg et esg).1) (subst (λ z. IsSomeAnd z (λ x. IsSome x.result)) eg a))

        later : Later h.world (enter i w2)
        later = record {
          by = λ a x ex. let y = (quiet_later quiet).by a x ex in let z = (quiet_later read_quiet).by a y.0 y.1 in (z.0, z.1, z.2 ∙ y.2);
          fuel = subst (λ x. x ≤ h.world.fuel) (sym read_quiet.fuel) fewer;
        }

        begun : (b : Bool) → may_begin table w2.objects o.contract g i vs ≡ b → step program C ≡ begins_on program (E w2) i o t g
            → Ends program (Called program n (Answers table declared tx) k s h (runs rest outer)) C (run_on inner (entered_frame table i o own g) t g vs w2)
        begun false eb e =
            rw eb (record { by = one_step program (e ∙ ap (λ b. if b then enters program (record { slots = h0.slots; stack = cs.stack; notes = h0.notes; world = enter i w2 }) o.contract t by_receiver cs.share_entered else stuck) (within ∙ eb)) })
        begun true eb e =
            let run = inner_runs m en in
            rw (eb, transaction_is table inner cs vs (enter i w2))
            (called_from program n m inner run cs eown h0.slots (gives_back table cs vs) (fixed_slots g) (zero_fixed g) (Answers table declared tx) s h d.from rest outer k d.loans h0 C (body_ends program m inner run cs eown (gives_back table cs vs) vs (enter i w2))
            less_most over.alike.slots stands later answers refl
            (entered_runs program m inner run cs eown (gives_back table cs vs) vs h0 C (bodies o.contract own t g eown esg) stands holds
            (plain_finishes program m inner run cs eown h0.slots vs (fixed_slots g) (zero_fixed g) refl (ap (option_and_then (λ c. signature_at c t)) eown ∙ esg) holds no_new)
            (e ∙ ap (λ b. if b then enters program (record { slots = h0.slots; stack = cs.stack; notes = h0.notes; world = enter i w2 }) o.contract t by_receiver cs.share_entered else stuck) (within ∙ eb))))

      by_signature : (o : Object) (own : Contract) (t : TxId) (z : Option Signature) → object_at w2.objects i ≡ Some o → contract_at table o.contract ≡ Some own → answering declared tx asked o.contract own ≡ Some t → signature_at own t ≡ z
          → step program C ≡ if_there z (λ g. begins_on program (E w2) i o t g)
          → Ends program (Called program n (Answers table declared tx) k s h (runs rest outer)) C (with_some z (λ g. run_on inner (entered_frame table i o own g) t g vs w2))
      by_signature o own t None eo eown et esg e = record { by = one_step program e }
      by_signature o own t (Some g) eo eown et esg e = begun o own t g eo eown et esg (may_begin table w2.objects o.contract g i vs) refl e

      by_answer : (o : Object) (own : Contract) (z : Option TxId) → object_at w2.objects i ≡ Some o → contract_at table o.contract ≡ Some own → answering declared tx asked o.contract own ≡ z
          → step program C ≡ if_there z (λ t. if_there (signature_at own t) (λ g. begins_on program (E w2) i o t g))
          → Ends program (Called program n (Answers table declared tx) k s h (runs rest outer)) C (with_some z (λ t. with_some (signature_at own t) (λ g. run_on inner (entered_frame table i o own g) t g vs w2)))
      by_answer o own None eo eown et e = record { by = one_step program e }
      by_answer o own (Some t) eo eown et e = by_signature o own t (signature_at own t) eo eown et refl e

      by_contract : (o : Object) (z : Option Contract) → object_at w2.objects i ≡ Some o → contract_at table o.contract ≡ z
          → step program C ≡ if_there z (λ own. if_there (answering declared tx asked o.contract own) (λ t. if_there (signature_at own t) (λ g. begins_on program (E w2) i o t g)))
          → Ends program (Called program n (Answers table declared tx) k s h (runs rest outer)) C (with_some z (λ own. with_some (answering declared tx asked o.contract own) (λ t. with_some (signature_at own t) (λ g. run_on inner (entered_frame table i o own g) t g vs w2))))
      by_contract o None eo eown e = record { by = one_step program e }
      by_contract o (Some own) eo eown e = by_answer o own (answering declared tx asked o.contract own) eo eown refl e

      by_object : (z : Option Object) → object_at w2.objects i ≡ z
          → step program C ≡ if_there z (λ o. if_there (contract_at table o.contract) (λ own. if_there (answering declared tx asked o.contract own) (λ t. if_there (signature_at own t) (λ g. begins_on program (E w2) i o t g))))
          → Ends program (Called program n (Answers table declared tx) k s h (runs rest outer)) C (with_some z (λ o. with_some (contract_at table o.contract) (λ own. with_some (answering declared tx asked o.contract own) (λ t. with_some (signature_at own t) (λ g. run_on inner (entered_frame table i o own g) t g vs w2)))))
      by_object None eo e = record { by = one_step program e }
      by_object (Some o) eo e = by_contract o (contract_at table o.contract) eo refl e

      -- the receiver is read, and mustn't have a transaction in progress
      by_progress : (b : Bool) → is_in_progress w2 i ≡ b → step program C ≡ calls_object program (E w1) declared tx asked i
          → Ends program (Called program n (Answers table declared tx) k s h (runs rest outer)) C (call_after_unit table inner i declared tx asked vs w1)
      by_progress true eb e =
          rw eb (record { by = one_step program (e ∙ ap (λ b. if b then abort_next (by_reentry i) w2 else if_there (object_at w2.objects i) (λ o. if_there (contract_at table o.contract) (λ own. if_there (answering declared tx asked o.contract own) (λ t. if_there (signature_at own t) (λ g. begins_on program (E w2) i o t g))))) eb) })
      by_progress false eb e =
          rw eb (by_object (object_at w2.objects i) refl
          (e ∙ ap (λ b. if b then abort_next (by_reentry i) w2 else if_there (object_at w2.objects i) (λ o. if_there (contract_at table o.contract) (λ own. if_there (answering declared tx asked o.contract own) (λ t. if_there (signature_at own t) (λ g. begins_on program (E w2) i o t g))))) eb))

    call_is : (x : Cell) → read table h (located receiver) ≡ Some x → x.value ≡ reference i → (d : Bound) → ((go : Bound → NextStep) → bind_all table (unbound h) (located receiver ∷ all_located args) 0 (all_parameters declared asked) go ≡ go d)
        → HandedOver (unbound h) d 0 (all_parameters declared asked) (reference i ∷ vs)
        → Ends program (Called program n (Answers table declared tx) k s h (runs rest outer)) C (call_with table inner (of_object i declared tx) vs h.world)
    call_is x ex ev d go over =
        let after : World → NextStep = λ w. calls_object program (entered_with C d rest outer k w) declared tx asked i in
        let fuel_is : d.from.world.fuel ≡ h.world.fuel = ap (λ (w : World). w.fuel) over.world ∙ (quiet_all (all_parameters declared asked) (reference i ∷ vs) h.world).fuel in
        subst (λ o. Ends program (Called program n (Answers table declared tx) k s h (runs rest outer)) C (with_some o (λ asked. unit (comes_in declared asked i vs h.world) (λ w1. call_after_unit table inner i declared tx asked vs w1)))) (sym eg)
        (rw (come_args asked.params vs (comes_into (typed.Reference declared asked.entry) (reference i) h.world), sym over.world)
        (unit_called program n d.from.world.fuel d.from.world after (λ w. call_after_unit table inner i declared tx asked vs w) C refl (subst (λ z. z ≤ n) (sym fuel_is) st.fuel)
        (ap (λ o. if_there o (λ g. if_there (read table h (located receiver)) (λ x. if_there (referred x.value) (λ i. bind_all table (unbound h) (located receiver ∷ all_located args) 0 (all_parameters declared g) (λ b. with_unit b.from.world (λ w. calls_object program (entered_with C b rest outer k w) declared tx g i)))))) eg
        ∙ ap (λ o. if_there o (λ x. if_there (referred x.value) (λ i. bind_all table (unbound h) (located receiver ∷ all_located args) 0 (all_parameters declared asked) (λ b. with_unit b.from.world (λ w. calls_object program (entered_with C b rest outer k w) declared tx asked i))))) ex
        ∙ ap (λ v. if_there (referred v) (λ i. bind_all table (unbound h) (located receiver ∷ all_located args) 0 (all_parameters declared asked) (λ b. with_unit b.from.world (λ w. calls_object program (entered_with C b rest outer k w) declared tx asked i)))) ev
        ∙ go _)
        (λ m j en le ef e. by_progress m j d en le (omega (arith, ef, fuel_is)) over (is_in_progress (read_object (with_unit_taken d.from.world j) i) i) refl e)))

  -- a call with a receiver does what the source's does
  pub object_runs : (s : Setting) (h : Here) (k : Option ℕ) (receiver : Operand) (declared : ContractId) (tx : TxId) (args : List Operand) (span : Span) (rest : SilicaTerms) (outer : List Rest)
      → contract_at table s.here ≡ Some s.own → Stands table n s h → Passes table declared tx (length args)
      → Ends program (Called program n (Answers table declared tx) k s h (runs rest outer)) (config s h (runs (and_term (call_form k receiver declared tx args) span rest) outer))
      (with_some (read_values table h (all_located args)) (λ vs. with_some (option_map (λ i. of_object i declared tx) (option_and_then referred (value_in (read table h (located receiver))))) (λ callee. call_with table inner callee vs h.world)))
  object_runs s h k receiver declared tx args span rest outer found st passes =
      let g = called_so (signature_of table declared tx) (λ g. length g.params ≡ length args) passes in
      by_values g.0 g.1 g.2 (read_values table h (all_located args)) refl (value_in (read table h (located receiver))) refl
    where
      step_is : (g : Signature) → signature_of table declared tx ≡ Some g → step program (config s h (runs (and_term (call_form k receiver declared tx args) span rest) outer))
          ≡ if_there (read table h (located receiver)) (λ x. if_there (referred x.value) (λ i. bind_all table (unbound h) (located receiver ∷ all_located args) 0 (all_parameters declared g) (λ b. with_unit b.from.world (λ w. calls_object program (entered_with (config s h (runs (and_term (call_form k receiver declared tx args) span rest) outer)) b rest outer k w) declared tx g i))))
      step_is g eg = ap (λ o. if_there o (λ g. if_there (read table h (located receiver)) (λ x. if_there (referred x.value) (λ i. bind_all table (unbound h) (located receiver ∷ all_located args) 0 (all_parameters declared g) (λ b. with_unit b.from.world (λ w. calls_object program (entered_with (config s h (runs (and_term (call_form k receiver declared tx args) span rest) outer)) b rest outer k w) declared tx g i)))))) eg

      no_reference : (v : Value) → referred v ≡ None → (x : Cell) → read table h (located receiver) ≡ Some x → x.value ≡ v → (g : Signature) → signature_of table declared tx ≡ Some g → step program (config s h (runs (and_term (call_form k receiver declared tx args) span rest) outer)) ≡ stuck
      no_reference v er x ex ev g eg = step_is g eg
          ∙ ap (λ o. if_there o (λ x. if_there (referred x.value) (λ i. bind_all table (unbound h) (located receiver ∷ all_located args) 0 (all_parameters declared g) (λ b. with_unit b.from.world (λ w. calls_object program (entered_with (config s h (runs (and_term (call_form k receiver declared tx args) span rest) outer)) b rest outer k w) declared tx g i))))) ex
          ∙ ap (λ o. if_there o (λ i. bind_all table (unbound h) (located receiver ∷ all_located args) 0 (all_parameters declared g) (λ b. with_unit b.from.world (λ w. calls_object program (entered_with (config s h (runs (and_term (call_form k receiver declared tx args) span rest) outer)) b rest outer k w) declared tx g i)))) (ap referred ev ∙ er)

      all_none : (i : ℕ) → read_values table h (located receiver ∷ all_located args) ≡ None → (x : Cell) → read table h (located receiver) ≡ Some x → x.value ≡ reference i → (g : Signature) → signature_of table declared tx ≡ Some g → step program (config s h (runs (and_term (call_form k receiver declared tx args) span rest) outer)) ≡ stuck
      all_none i en x ex ev g eg = step_is g eg
          ∙ ap (λ o. if_there o (λ x. if_there (referred x.value) (λ i. bind_all table (unbound h) (located receiver ∷ all_located args) 0 (all_parameters declared g) (λ b. with_unit b.from.world (λ w. calls_object program (entered_with (config s h (runs (and_term (call_form k receiver declared tx args) span rest) outer)) b rest outer k w) declared tx g i))))) ex
          ∙ ap (λ v. if_there (referred v) (λ i. bind_all table (unbound h) (located receiver ∷ all_located args) 0 (all_parameters declared g) (λ b. with_unit b.from.world (λ w. calls_object program (entered_with (config s h (runs (and_term (call_form k receiver declared tx args) span rest) outer)) b rest outer k w) declared tx g i)))) ev
          ∙ bind_stuck program n (located receiver ∷ all_located args) (all_parameters declared g) (unbound h) 0 _ en

      none_by : (v : Value) (x : Cell) → read table h (located receiver) ≡ Some x → x.value ≡ v → read_values table h (all_located args) ≡ None → (g : Signature) → signature_of table declared tx ≡ Some g → step program (config s h (runs (and_term (call_form k receiver declared tx args) span rest) outer)) ≡ stuck
      none_by (int_value z) x ex ev eo g eg = no_reference (int_value z) refl x ex ev g eg
      none_by (bool_value z) x ex ev eo g eg = no_reference (bool_value z) refl x ex ev g eg
      none_by (text_value z) x ex ev eo g eg = no_reference (text_value z) refl x ex ev g eg
      none_by (reference i) x ex ev eo g eg = all_none i (first_read table h (located receiver) (all_located args) (reference i) None (ap value_in ex ∙ ap Some ev) eo) x ex ev g eg

      by_receiver_value : (g : Signature) → signature_of table declared tx ≡ Some g → length g.params ≡ length args → (vs : List Value) → read_values table h (all_located args) ≡ Some vs → (v : Value) → value_in (read table h (located receiver)) ≡ Some v
          → Ends program (Called program n (Answers table declared tx) k s h (runs rest outer)) (config s h (runs (and_term (call_form k receiver declared tx args) span rest) outer)) (with_some (option_map (λ i. of_object i declared tx) (referred v)) (λ callee. call_with table inner callee vs h.world))
      by_receiver_value g eg len vs eo (int_value z) er = let x = there (read table h (located receiver)) (int_value z) er in record { by = one_step program (no_reference (int_value z) refl x.0 x.1 x.2 g eg) }
      by_receiver_value g eg len vs eo (bool_value z) er = let x = there (read table h (located receiver)) (bool_value z) er in record { by = one_step program (no_reference (bool_value z) refl x.0 x.1 x.2 g eg) }
      by_receiver_value g eg len vs eo (text_value z) er = let x = there (read table h (located receiver)) (text_value z) er in record { by = one_step program (no_reference (text_value z) refl x.0 x.1 x.2 g eg) }
      by_receiver_value g eg len vs eo (reference i) er =
          let x = there (read table h (located receiver)) (reference i) er in
          let count : length vs ≡ length g.params = read_length table h (all_located args) vs eo ∙ located_length args ∙ sym len in
          let bound = binds program n (located receiver ∷ all_located args) (all_parameters declared g) (reference i ∷ vs) (unbound h) 0 (first_read table h (located receiver) (all_located args) (reference i) (Some vs) er eo) (ap suc (count ∙ sym (parameters_length g.params))) in
          call_is s h k receiver declared tx args span rest outer st g eg vs count i x.0 x.1 x.2 bound.0 bound.1 bound.2

      by_values : (g : Signature) → signature_of table declared tx ≡ Some g → length g.params ≡ length args → (o : Option (List Value)) → read_values table h (all_located args) ≡ o → (r : Option Value) → value_in (read table h (located receiver)) ≡ r
          → Ends program (Called program n (Answers table declared tx) k s h (runs rest outer)) (config s h (runs (and_term (call_form k receiver declared tx args) span rest) outer))
          (with_some o (λ vs. with_some (option_map (λ i. of_object i declared tx) (option_and_then referred r)) (λ callee. call_with table inner callee vs h.world)))
      by_values g eg len None eo None er = record { by = one_step program (step_is g eg ∙ not_there (read table h (located receiver)) _ er) }
      by_values g eg len (Some vs) eo None er = record { by = one_step program (step_is g eg ∙ not_there (read table h (located receiver)) _ er) }
      by_values g eg len None eo (Some v) er = let x = there (read table h (located receiver)) v er in record { by = one_step program (none_by v x.0 x.1 x.2 eo g eg) }
      by_values g eg len (Some vs) eo (Some v) er = by_receiver_value g eg len vs eo v er
