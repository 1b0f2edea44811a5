-- A call on `this` by its terms.
use Rattle.std.proofs.Common.{◌≡◌, ℕ, suc, ◌≤◌, Bool, true, false, ◌&&◌, List, [], ◌∷◌, map, length, Option, Some, None, refl, sym, ap, ◌∙◌, subst, arith, true≢false, ◌⊎◌, inl}
use Rattle.std.specs.Prelude.{option_map, option_and_then, IsSome, IsSomeAnd, if◌then◌else◌}
use Rattle.std.specs.Option.{option_map_or}
use Rattle.ob_base.specs.declared.fault.Span.{Span}
use Rattle.ob_base.specs.declared.id.ContractId.{ContractId}
use Rattle.ob_base.specs.declared.id.TxId.{TxId}
use Rattle.ob_table.specs.Tables.{ClassTable, contract_at, signature_at, signature_of}
use Rattle.ob_table.specs.declared.contract.Contract.{Contract}
use Rattle.ob_table.specs.declared.contract.ResolvedType.TheVariants as typed
use Rattle.ob_table.specs.declared.contract.Param.{Param}
use Rattle.ob_table.specs.declared.contract.Signature.{Signature}
use Rattle.ob_table.specs.declared.seen.Kind.TheVariants.{Reference}
use Rattle.ob_heap_spec.specs.Values.{Value, reference, nothing}
use Rattle.ob_heap_spec.specs.Worlds.{World, with_some, with_unit_taken}
use Rattle.ob_heap_spec.specs.Marks.{comes_into}
use Rattle.ob_source_meaning.specs.Frames.{of_this, Calls}
use Rattle.ob_heap_spec.specs.GoingWrong.{is_within, is_held_within, may_begin}
use Rattle.ob_source_meaning.specs.Calls.{call_on_this, call_with}
use Rattle.ob_silica.specs.Terms.{SilicaTerms, and_term, call_this_form}
use Rattle.ob_silica.specs.declared.place.Operand.{Operand}
use Rattle.ob_silica_steps.specs.Cells.{value_in}
use Rattle.ob_silica_places.specs.Places.{Location, all_located, this}
use Rattle.ob_silica_steps.specs.Configurations.{SilicaProgram, How, by_receiver, by_this, by_new, Rest, Waiting, runs, Configuration, NextStep, stuck}
use Rattle.ob_silica_steps.specs.Here.{Here, read, if_there, with_unit}
use Rattle.ob_silica_places.specs.Known.{at}
use Rattle.ob_silica_steps.specs.Binding.{bound_cell, Bound, unbound, bind_all, without_field_loans}
use Rattle.ob_silica_places.specs.Parameters.{Parameter, parameter_of, all_parameters}
use Rattle.ob_silica_steps.specs.Entering.{are_within, calls_this, enters}
use Rattle.ob_silica_steps.specs.Steps.{step}
use Rattle.ob_silica_steps.specs.Calling.{entered_with}
use Rattle.ob_lower_correct.proofs.Runs.{Ends, one_step}
use Rattle.ob_lower_correct.proofs.Standing.{Setting, frame_in, config, shape, shape_value, Stands, this_value, at_same}
use Rattle.ob_lower_correct.proofs.Changes.{noted_quiet, quiet_later, Quiet}
use Rattle.ob_lower_correct.proofs.Binding.{HandedOver, bind_stuck, binds, come_args, quiet_all, bound_below, bound_holds, read_length, HoldsFrom}
use Rattle.ob_lower_correct.proofs.Beginning.{within_args}
use Rattle.ob_lower_correct.proofs.Calling.{read_values, Called, Passes, Answers, CallsRun}
use Rattle.ob_lower_correct.proofs.Expressions.{called_so}
use Rattle.ob_lower_correct.proofs.Returning.{gives_back, plain_finishes}
use Rattle.ob_lower_correct.proofs.Leaving.{called_from}
use Rattle.ob_lower_correct.proofs.Branches.{then_gives}
use Rattle.ob_lower_correct.proofs.Entering.{BodyPair, fixed_slots, zero_fixed, body_ends, entered_runs, transaction_is, unit_called}

-- a place with a value, before others
pub first_read : (table : ClassTable) (h : Here) (place : Location) (places : List Location) (v : Value) (o : Option (List Value)) → value_in (read table h place) ≡ Some v → read_values table h places ≡ o
    → read_values table h (place ∷ places) ≡ option_map (λ vs. v ∷ vs) o
first_read table h place places v o e es =
    ap (λ r. option_and_then (λ v. option_map (λ vs. v ∷ vs) (read_values table h places)) r) e ∙ ap (option_map (λ vs. v ∷ vs)) es

pub parameters_length : (params : List Param) → length (map parameter_of params) ≡ length params
parameters_length [] = refl
parameters_length (p ∷ ps) = ap suc (parameters_length ps)

pub located_length : (args : List Operand) → length (all_located args) ≡ length args
located_length [] = refl
located_length (a ∷ args) = ap suc (located_length args)

abbrev pub waiting : Setting → Here → SilicaTerms → List Rest → Option ℕ → Bound → Waiting
waiting s h rest outer k b = record {
  frame = record { slots = b.from.slots; contract = s.here; tx = s.tx; how = s.how; share_entered = s.share_entered };
  terms = rest;
  outer = outer;
  result = k;
  loans = b.loans;
}

module _ (program : SilicaProgram) (n : ℕ) (inner : Calls) (inner_runs : (m : ℕ) → n ≡ suc m → CallsRun program m inner)
    (bodies : (contract : ContractId) (own : Contract) (tx : TxId) (g : Signature) → contract_at program.table contract ≡ Some own → signature_at own tx ≡ Some g → BodyPair program contract own tx g) where
  abbrev table : ClassTable
  table = program.table

  module _ (s : Setting) (h : Here) (k : Option ℕ) (tx : TxId) (args : List Operand) (span : Span) (rest : SilicaTerms) (outer : List Rest)
      (found : contract_at table s.here ≡ Some s.own) (st : Stands table n s h) (g : Signature) (eg : signature_of table s.here tx ≡ Some g) (own_g : signature_at s.own tx ≡ Some g) (vs : List Value) (len : length vs ≡ length g.params) where
    abbrev C : Configuration
    C = config s h (runs (and_term (call_this_form k tx args) span rest) outer)

    abbrev ps : List Parameter
    ps = map parameter_of g.params

    module _ (m j : ℕ) (d : Bound) (en : n ≡ suc m) (le : j ≤ m) (fewer : j ≤ h.world.fuel) (over : HandedOver (unbound h) d 0 (all_parameters s.here g) (reference s.this ∷ vs)) where
      abbrev w1 : World
      w1 = with_unit_taken d.from.world j

      abbrev cs : Setting
      cs = record { this = s.this; here = s.here; own = s.own; tx = tx; signature = g; how = by_this; share_entered = s.share_entered; stack = waiting s h rest outer k (without_field_loans d) ∷ s.stack }

      abbrev h0 : Here
      h0 = record { slots = d.slots; notes = d.from.notes; world = w1 }

      quiet : Quiet h.world d.from.world
      quiet = subst (Quiet h.world) (sym over.world) (quiet_all (all_parameters s.here g) (reference s.this ∷ vs) h.world)

      slot_zero : shape (d.slots 0) ≡ Some (reference s.this, Reference s.here)
      slot_zero = ap (λ slots. shape (slots 0)) over.slots
          ∙ ap shape (bound_below ps vs (at nothing 0 (Some (bound_cell (typed.Reference s.here g.entry) (reference s.this)))) 1 0 (omega arith) ∙ at_same nothing 0 (Some (bound_cell (typed.Reference s.here g.entry) (reference s.this))))

      holds : HoldsFrom d.slots 1 ps vs
      holds = subst (λ slots. HoldsFrom slots 1 ps vs) (sym over.slots) (bound_holds ps vs (at nothing 0 (Some (bound_cell (typed.Reference s.here g.entry) (reference s.this)))) 1 (len ∙ sym (parameters_length g.params)))

      stands : Stands table m cs h0
      stands = record {
        this = slot_zero;
        object = let x = (quiet_later quiet).by s.this st.object.0 st.object.1 in (x.0, x.1, x.2 ∙ st.object.2);
        noted = noted_quiet {w = h.world} {v = d.from.world} st.noted quiet over.alike.notes;
        fuel = le;
      }

      within : are_within table w1.objects d.slots 0 (all_parameters s.here g) ≡ may_begin table w1.objects s.here g s.this vs
      within = ap (λ o. option_map_or (is_within table w1.objects (typed.Reference s.here g.entry)) o true && are_within table w1.objects d.slots 1 ps) (shape_value (d.slots 0) (reference s.this) (Reference s.here) slot_zero)
          ∙ ap (λ b. is_held_within table w1.objects s.here g.entry (Some s.this) && b) (within_args table w1.objects g.params vs d.slots 1 holds)

      no_new : by_this ≡ by_new → ⊥
      no_new e = true≢false (ap is_this e)
        where
          is_this : How → Bool
          is_this by_this = true
          is_this by_receiver = false
          is_this by_new = false

      less_most : m ≤ n
      less_most = omega (arith, en)

      answers : Answers table s.here tx → IsSome g.result ⊎ (by_this ≡ by_new)
      answers a = inl (subst (λ o. IsSomeAnd o (λ x. IsSome x.result)) eg a)

      -- the body, once the call has bound its arguments and has taken its unit
      pub entered : (b : Bool) → may_begin table w1.objects s.here g s.this vs ≡ b
          → step program C ≡ calls_this program (entered_with C (without_field_loans d) rest outer k w1) C.frame tx g
          → Ends program (Called program n (Answers table s.here tx) k s h (runs rest outer)) C (call_on_this inner (frame_in table s) tx g vs w1)
      entered false eb e =
          rw eb (record { by = one_step program (e ∙ ap (λ b. if b then enters program (entered_with C (without_field_loans d) rest outer k w1) s.here tx by_this s.share_entered else stuck) (within ∙ eb)) })
      entered true eb e =
          let run = inner_runs m en in
          let o = body_ends program m inner run cs found (gives_back table cs vs) vs w1 in
          rw (eb, transaction_is table inner cs vs w1, sym (then_gives o))
          (called_from program n m inner run cs found h0.slots (gives_back table cs vs) (fixed_slots g) (zero_fixed g) (Answers table s.here tx) s h d.from rest outer k (without_field_loans d).loans h0 C o
          less_most over.alike.slots stands (record { by = (quiet_later quiet).by; fuel = fewer }) answers refl
          (entered_runs program m inner run cs found (gives_back table cs vs) vs h0 C (bodies s.here s.own tx g found own_g) stands holds
          (plain_finishes program m inner run cs found h0.slots vs (fixed_slots g) (zero_fixed g) refl eg holds no_new)
          (e ∙ ap (λ b. if b then enters program (entered_with C (without_field_loans d) rest outer k w1) s.here tx by_this s.share_entered else stuck) (within ∙ eb))))

    call_is : (d : Bound) → ((go : Bound → NextStep) → bind_all table (unbound h) (this ∷ all_located args) 0 (all_parameters s.here g) go ≡ go d) → HandedOver (unbound h) d 0 (all_parameters s.here g) (reference s.this ∷ vs)
        → Ends program (Called program n (Answers table s.here tx) k s h (runs rest outer)) C (call_with table inner (of_this (frame_in table s) tx) vs h.world)
    call_is d go over =
        let after : World → NextStep = λ w. calls_this program (entered_with C (without_field_loans d) rest outer k w) C.frame tx g in
        let fuel_is : d.from.world.fuel ≡ h.world.fuel = ap (λ (w : World). w.fuel) over.world ∙ (quiet_all (all_parameters s.here g) (reference s.this ∷ vs) h.world).fuel in
        rw (own_g, come_args g.params vs (comes_into (typed.Reference s.here g.entry) (reference s.this) h.world), sym over.world)
        (unit_called program n d.from.world.fuel d.from.world after (λ w. call_on_this inner (frame_in table s) tx g vs w) C refl (subst (λ i. i ≤ n) (sym fuel_is) st.fuel)
        (ap (λ o. if_there o (λ x. bind_all table (unbound h) (this ∷ all_located args) 0 (all_parameters s.here x) (λ b. with_unit b.from.world (λ w. calls_this program (entered_with C (without_field_loans b) rest outer k w) C.frame tx x)))) eg ∙ go _)
        (λ m j en le ef e. entered m j d en le (omega (arith, ef, fuel_is)) over (may_begin table (with_unit_taken d.from.world j).objects s.here g s.this vs) refl e))

  -- a call on `this` does what the source's does
  pub same_runs : (s : Setting) (h : Here) (k : Option ℕ) (tx : TxId) (args : List Operand) (span : Span) (rest : SilicaTerms) (outer : List Rest)
      → contract_at table s.here ≡ Some s.own → Stands table n s h → Passes table s.here tx (length args)
      → Ends program (Called program n (Answers table s.here tx) k s h (runs rest outer)) (config s h (runs (and_term (call_this_form k tx args) span rest) outer))
      (with_some (read_values table h (all_located args)) (λ vs. call_with table inner (of_this (frame_in table s) tx) vs h.world))
  same_runs s h k tx args span rest outer found st passes =
      let g = called_so (signature_of table s.here tx) (λ g. length g.params ≡ length args) passes in
      by_values g.0 g.1 g.2 (read_values table h (all_located args)) refl
    where
      by_values : (g : Signature) → signature_of table s.here tx ≡ Some g → length g.params ≡ length args → (o : Option (List Value)) → read_values table h (all_located args) ≡ o
          → Ends program (Called program n (Answers table s.here tx) k s h (runs rest outer)) (config s h (runs (and_term (call_this_form k tx args) span rest) outer)) (with_some o (λ vs. call_with table inner (of_this (frame_in table s) tx) vs h.world))
      by_values g eg len None eo =
          record {
            by = one_step program (ap (λ o. if_there o (λ x. bind_all table (unbound h) (this ∷ all_located args) 0 (all_parameters s.here x) (λ b. with_unit b.from.world (λ w. calls_this program (entered_with (config s h (runs (and_term (call_this_form k tx args) span rest) outer)) (without_field_loans b) rest outer k w) (config s h (runs (and_term (call_this_form k tx args) span rest) outer)).frame tx x)))) eg
                ∙ bind_stuck program n (this ∷ all_located args) (all_parameters s.here g) (unbound h) 0 _ (first_read table h this (all_located args) (reference s.this) None (this_value table n st) eo));
          }
      by_values g eg len (Some vs) eo =
          let count : length vs ≡ length g.params = read_length table h (all_located args) vs eo ∙ located_length args ∙ sym len in
          let bound = binds program n (this ∷ all_located args) (all_parameters s.here g) (reference s.this ∷ vs) (unbound h) 0 (first_read table h this (all_located args) (reference s.this) (Some vs) (this_value table n st) eo) (ap suc (count ∙ sym (parameters_length g.params))) in
          call_is s h k tx args span rest outer found st g eg (sym (ap (option_and_then (λ c. signature_at c tx)) found) ∙ eg) vs count bound.0 bound.1 bound.2
