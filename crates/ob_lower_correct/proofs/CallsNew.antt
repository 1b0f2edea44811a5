-- A `new` by its terms.
use Rattle.std.proofs.Common.{◌≡◌, ◌≢◌, ℕ, zero, suc, ◌≤◌, Bool, true, false, List, [], ◌∷◌, map, length, Option, Some, None, refl, sym, ap, ◌∙◌, subst, arith, ◌⊎◌, inl, inr}
use Rattle.std.specs.Prelude.{option_and_then, IsSomeAnd, ⊤, if◌then◌else◌, ◌++◌, slice_get, nat_le}
use Rattle.ob_base.specs.Limits.{most_objects}
use Rattle.ob_base.specs.declared.fault.Span.{Span}
use Rattle.ob_base.specs.declared.id.ContractId.{ContractId}
use Rattle.ob_base.specs.declared.id.TxId.{TxId}
use Rattle.ob_table.specs.Tables.{ClassTable, contract_at, signature_at, signature_of, body_at}
use Rattle.ob_table.specs.declared.contract.Contract.{Contract}
use Rattle.ob_table.specs.declared.contract.Signature.{Signature}
use Rattle.ob_heap_spec.specs.Values.{Value, reference, nothing}
use Rattle.ob_heap_spec.specs.Objects.{Object}
use Rattle.ob_heap_spec.specs.Contents.{object_at}
use Rattle.ob_heap_spec.specs.Worlds.{World, next_item, by_full, with_read, make_object, with_object, RunOutcome, gives, aborts, wrong, ◌>>=◌, if_right, with_some, unit, with_unit_taken}
use Rattle.ob_source_meaning.specs.Frames.{of_new, Calls, Flow, first_locals}
use Rattle.ob_heap_spec.specs.GoingWrong.{may_pass, may_return, is_finished}
use Rattle.ob_source_meaning.specs.Bodies.{args_come, this_comes, result_of}
use Rattle.ob_source_meaning.specs.Calls.{construct, new_after_unit, call_with}
use Rattle.ob_heap_spec.specs.Objects.{unfinished}
use Rattle.ob_silica.specs.Terms.{SilicaTerms, and_term, new_form}
use Rattle.ob_silica.specs.declared.place.Operand.{Operand}
use Rattle.ob_silica_places.specs.Places.{all_located}
use Rattle.ob_silica_steps.specs.Configurations.{SilicaProgram, abort_step as abort_next, by_new, Rest, runs, Configuration, NextStep, stuck}
use Rattle.ob_silica_steps.specs.Here.{Here, field_of, if_there, with_unit}
use Rattle.ob_silica_places.specs.Known.{at}
use Rattle.ob_silica_steps.specs.Binding.{Bound, unbound, bind_all}
use Rattle.ob_silica_places.specs.Parameters.{Parameter, parameter_of, parameters}
use Rattle.ob_silica_steps.specs.Entering.{Entered, are_within, new_cell, entered_new, makes_object, enters}
use Rattle.ob_silica_steps.specs.Steps.{step}
use Rattle.ob_silica_steps.specs.Calling.{constructor_id, entered_with}
use Rattle.ob_lower_correct.proofs.Runs.{Ends, one_step}
use Rattle.ob_lower_correct.proofs.Standing.{Setting, frame_in, config, shape, Stands, Later, none_some, at_same, Noted, at_other, some_same}
use Rattle.ob_lower_correct.proofs.Changes.{noted_quiet, quiet_later, Quiet}
use Rattle.ob_lower_correct.proofs.Binding.{HandedOver, bind_stuck, binds, come_args, quiet_all, bound_holds, read_length, HoldsFrom, holds_on}
use Rattle.ob_lower_correct.proofs.Beginning.{within_args}
use Rattle.ob_lower_correct.proofs.Calling.{read_values, Called, CallsRun}
use Rattle.ob_lower_correct.proofs.Expressions.{called_so}
use Rattle.ob_lower_correct.proofs.Returning.{gives_object, new_finishes}
use Rattle.ob_lower_correct.proofs.Leaving.{called_from}
use Rattle.ob_lower_correct.proofs.Branches.{then_gives}
use Rattle.ob_lower_correct.proofs.Entering.{BodyPair, fixed_slots, zero_fixed, body_ends, entered_runs, back_test, unit_called}
use Rattle.ob_table.specs.Statements.{ResolvedBody}
use Rattle.ob_table_spec.specs.WellFormed.{kind_of_resolved, constructor_at}
use Rattle.ob_table.specs.declared.contract.Field.{Field}
use Rattle.ob_source_meaning.specs.Statements.{run_all}
use Rattle.ob_lower_correct.proofs.CallsThis.{parameters_length, located_length, waiting}

-- What a new object leaves.

pub at_end : {A : Type 0} (xs : List A) (x : A) → slice_get (xs ++ x ∷ []) (length xs) ≡ Some x
at_end [] x = refl
at_end (y ∷ xs) x = at_end xs x

pub before_end : {A : Type 0} (xs : List A) (x y : A) (n : ℕ) → slice_get xs n ≡ Some y → slice_get (xs ++ x ∷ []) n ≡ Some y
before_end [] x y n e = absurd (none_some e)
before_end (z ∷ xs) x y zero e = e
before_end (z ∷ xs) x y (suc n) e = before_end xs x y n e

pub made_or : {A : Type 0} (xs : List A) (x y : A) (n : ℕ) → slice_get (xs ++ x ∷ []) n ≡ Some y → (slice_get xs n ≡ Some y) ⊎ (x ≡ y)
made_or [] x y zero e = inr (some_same x y e)
made_or [] x y (suc n) e = absurd (none_some e)
made_or (z ∷ xs) x y zero e = inl e
made_or (z ∷ xs) x y (suc n) e = made_or xs x y n e

pub construct_is : (table : ClassTable) (calls : Calls) (cs : Setting) (args : List Value) (w : World) → cs.tx ≡ constructor_id
    → construct calls (frame_in table cs) cs.signature args w
    ≡ with_some (body_at table cs.here cs.tx) (λ body. run_all calls (frame_in table cs) body.statements (first_locals cs.signature.params args) w >>= (λ flow w1. gives_object table cs args (result_of flow) w1))
construct_is table calls cs args w et = rw et (by_body (body_at table cs.here constructor_id))
  where
    by_outcome : (o : RunOutcome Flow) → ((o >>= (λ flow w1. if_right (may_return table w1.objects cs.here cs.signature cs.this args (result_of flow)) (gives (result_of flow) w1)))
        >>= (λ r w1. with_object w1 cs.this (λ o. if_right (is_finished cs.own o) (gives (Some (reference cs.this)) (this_comes cs.here cs.signature.exit cs.this w1)))))
        ≡ (o >>= (λ flow w1. gives_object table cs args (result_of flow) w1))
    by_outcome (gives flow w1) = back_test (may_return table w1.objects cs.here cs.signature cs.this args (result_of flow)) (result_of flow) w1 (λ r w1. with_object w1 cs.this (λ o. if_right (is_finished cs.own o) (gives (Some (reference cs.this)) (this_comes cs.here cs.signature.exit cs.this w1))))
    by_outcome (aborts cause s) = refl
    by_outcome wrong = refl

    by_body : (b : Option ResolvedBody) → (with_some b (λ body. run_all calls (frame_in table cs) body.statements (first_locals cs.signature.params args) w >>= (λ flow w1. if_right (may_return table w1.objects cs.here cs.signature cs.this args (result_of flow)) (gives (result_of flow) w1)))
        >>= (λ r w1. with_object w1 cs.this (λ o. if_right (is_finished cs.own o) (gives (Some (reference cs.this)) (this_comes cs.here cs.signature.exit cs.this w1)))))
        ≡ with_some b (λ body. run_all calls (frame_in table cs) body.statements (first_locals cs.signature.params args) w >>= (λ flow w1. gives_object table cs args (result_of flow) w1))
    by_body None = refl
    by_body (Some body) = by_outcome (run_all calls (frame_in table cs) body.statements (first_locals cs.signature.params args) w)

pub constructor_is : (c : Option Contract) (g : Signature) → option_and_then (λ c. if c.interface then None else slice_get c.transactions 0) c ≡ Some g → (own : Contract) × (c ≡ Some own) × (own.interface ≡ false) × (slice_get own.transactions 0 ≡ Some g)
constructor_is None g e = absurd (none_some e)
constructor_is (Some own) g e = by_kind own.interface refl e
  where
    by_kind : (b : Bool) → own.interface ≡ b → (if b then None else slice_get own.transactions 0) ≡ Some g → (c : Contract) × (Some own ≡ Some c) × (c.interface ≡ false) × (slice_get c.transactions 0 ≡ Some g)
    by_kind true eb e = absurd (none_some e)
    by_kind false eb e = (own, refl, eb, e)

module _ (program : SilicaProgram) (n : ℕ) (inner : Calls) (inner_runs : (m : ℕ) → n ≡ suc m → CallsRun program m inner)
    (bodies : (contract : ContractId) (own : Contract) (tx : TxId) (g : Signature) → contract_at program.table contract ≡ Some own → signature_at own tx ≡ Some g → BodyPair program contract own tx g)
    (constructors : (contract : ContractId) (own : Contract) (g : Signature) → contract_at program.table contract ≡ Some own → own.interface ≡ false → slice_get own.transactions 0 ≡ Some g → g.result ≡ None) where
  abbrev table : ClassTable
  table = program.table

  module _ (s : Setting) (h : Here) (k : ℕ) (contract : ContractId) (args : List Operand) (span : Span) (rest : SilicaTerms) (outer : List Rest)
      (st : Stands table n s h) (own : Contract) (g : Signature) (eown : contract_at table contract ≡ Some own) (is_object : own.interface ≡ false) (eg : slice_get own.transactions 0 ≡ Some g) (vs : List Value) (len : length vs ≡ length g.params) where
    abbrev C : Configuration
    C = config s h (runs (and_term (new_form k contract args) span rest) outer)

    abbrev ps : List Parameter
    ps = map parameter_of g.params

    signed : signature_of table contract constructor_id ≡ Some g
    signed = ap (option_and_then (λ c. signature_at c constructor_id)) eown ∙ eg

    module _ (m j : ℕ) (d : Bound) (en : n ≡ suc m) (le : j ≤ m) (fewer : j ≤ h.world.fuel) (over : HandedOver (unbound h) d 1 (parameters g) vs) where
      abbrev w1 : World
      w1 = with_unit_taken d.from.world j

      abbrev w2 : World
      w2 = with_read w1 next_item

      abbrev i : ℕ
      i = length w1.objects

      abbrev E : World → Entered
      E w = record { slots = d.slots; stack = waiting s h rest outer (Some k) d ∷ s.stack; notes = d.from.notes; world = w }

      abbrev cs : Setting
      cs = record { this = i; here = contract; own = own; tx = constructor_id; signature = g; how = by_new; share_entered = false; stack = waiting s h rest outer (Some k) d ∷ s.stack }

      abbrev h0 : Here
      h0 = record { slots = at d.slots 0 (Some (new_cell contract i)); notes = d.from.notes; world = make_object w2 (unfinished contract) }

      quiet : Quiet h.world d.from.world
      quiet = subst (Quiet h.world) (sym over.world) (quiet_all (parameters g) vs h.world)

      asked_holds : HoldsFrom d.slots 1 ps vs
      asked_holds = subst (λ slots. HoldsFrom slots 1 ps vs) (sym over.slots) (bound_holds ps vs nothing 1 (len ∙ sym (parameters_length g.params)))

      holds : HoldsFrom h0.slots 1 ps vs
      holds = holds_on ps vs d.slots h0.slots 1 (λ x lt. ap shape (at_other d.slots 0 (Some (new_cell contract i)) x (not_zero x lt))) asked_holds
        where
          not_zero : (x : ℕ) → 1 ≤ x → x ≢ 0
          not_zero x lt e = omega (arith, lt, e)

      new_or : Noted table d.from.notes d.from.world.objects → (a b : ℕ) (o : Object) (f : Field) (v : Value) → field_of table o b ≡ Some f → o.fields b ≡ Some v → (object_at d.from.world.objects a ≡ Some o) ⊎ (unfinished contract ≡ o) → (d.from.notes.fields a b).kind ≡ kind_of_resolved f.of
      new_or before a b o f v ef ev (inl e) = before.by a b o f v e ef ev
      new_or before a b o f v ef ev (inr e) = absurd (none_some (ap (λ (x : Object). x.fields b) e ∙ ev))

      noted_new : Noted table d.from.notes (d.from.world.objects ++ unfinished contract ∷ [])
      noted_new =
          let before : Noted table d.from.notes d.from.world.objects = noted_quiet {more = d.from.notes} {w = h.world} {v = d.from.world} st.noted quiet over.alike.notes in
          record { by = λ a b o f v eo ef ev. new_or before a b o f v ef ev (made_or d.from.world.objects (unfinished contract) o a eo) }

      stands : Stands table m cs h0
      stands = record {
        this = ap shape (at_same d.slots 0 (Some (new_cell contract i)));
        object = (unfinished contract, at_end d.from.world.objects (unfinished contract), refl);
        noted = noted_new;
        fuel = le;
      }

      less_most : m ≤ n
      less_most = omega (arith, en)

      later : Later h.world h0.world
      later = record { by = λ a o eo. let x = (quiet_later quiet).by a o eo in (x.0, before_end d.from.world.objects (unfinished contract) x.0 a x.1, x.2); fuel = fewer }

      pub made : (b c : Bool) → nat_le most_objects i ≡ b → may_pass table w2.objects g.params vs ≡ c → step program C ≡ makes_object program (E w1) contract constructor_id g
          → Ends program (Called program n ⊤ (Some k) s h (runs rest outer)) C (new_after_unit table inner contract own g vs w1)
      made true c eb ec e =
          rw eb (record { by = one_step program (e ∙ ap (λ b. if b then abort_next by_full w2 else if are_within table w2.objects d.slots 1 (parameters g) then enters program (entered_new (E w2) contract) contract constructor_id by_new false else stuck) eb) })
      made false false eb ec e =
          rw (eb, ec) (record {
            by = one_step program (e ∙ ap (λ b. if b then abort_next by_full w2 else if are_within table w2.objects d.slots 1 (parameters g) then enters program (entered_new (E w2) contract) contract constructor_id by_new false else stuck) eb
                ∙ ap (λ b. if b then enters program (entered_new (E w2) contract) contract constructor_id by_new false else stuck) (within_args table w2.objects g.params vs d.slots 1 asked_holds ∙ ec));
          })
      made false true eb ec e =
          let run = inner_runs m en in
          let o = body_ends program m inner run cs eown (gives_object table cs vs) vs (make_object w2 (unfinished contract)) in
          rw (eb, ec, construct_is table inner cs vs (make_object w2 (unfinished contract)) refl, sym (then_gives o))
          (called_from program n m inner run cs eown h0.slots (gives_object table cs vs) (fixed_slots g) (zero_fixed g) ⊤ s h d.from rest outer (Some k) d.loans h0 C o
          less_most over.alike.slots stands later (λ x. inr refl) refl
          (entered_runs program m inner run cs eown (gives_object table cs vs) vs h0 C (bodies contract own constructor_id g eown eg) stands holds
          (new_finishes program m inner run cs eown h0.slots vs (fixed_slots g) (zero_fixed g) refl signed holds refl (constructors contract own g eown is_object eg))
          (e ∙ ap (λ b. if b then abort_next by_full w2 else if are_within table w2.objects d.slots 1 (parameters g) then enters program (entered_new (E w2) contract) contract constructor_id by_new false else stuck) eb
          ∙ ap (λ b. if b then enters program (entered_new (E w2) contract) contract constructor_id by_new false else stuck) (within_args table w2.objects g.params vs d.slots 1 asked_holds ∙ ec))))

    new_is : (d : Bound) → ((go : Bound → NextStep) → bind_all table (unbound h) (all_located args) 1 (parameters g) go ≡ go d) → HandedOver (unbound h) d 1 (parameters g) vs → constructor_at table contract ≡ Some g
        → Ends program (Called program n ⊤ (Some k) s h (runs rest outer)) C (call_with table inner (of_new contract) vs h.world)
    new_is d go over ec =
        let after : World → NextStep = λ w. makes_object program (entered_with C d rest outer (Some k) w) contract constructor_id g in
        let fuel_is : d.from.world.fuel ≡ h.world.fuel = ap (λ (w : World). w.fuel) over.world ∙ (quiet_all (parameters g) vs h.world).fuel in
        subst (λ o. Ends program (Called program n ⊤ (Some k) s h (runs rest outer)) C o) (sym (ap (λ o. with_some o (λ own. with_some (constructor_at table contract) (λ g. unit (args_come g.params vs h.world) (λ w1. new_after_unit table inner contract own g vs w1)))) eown
        ∙ ap (λ o. with_some o (λ g. unit (args_come g.params vs h.world) (λ w1. new_after_unit table inner contract own g vs w1))) ec))
        (rw (come_args g.params vs h.world, sym over.world)
        (unit_called program n d.from.world.fuel d.from.world after (λ w. new_after_unit table inner contract own g vs w) C refl (subst (λ z. z ≤ n) (sym fuel_is) st.fuel)
        (ap (λ o. if_there o (λ x. bind_all table (unbound h) (all_located args) 1 (parameters x) (λ b. with_unit b.from.world (λ w. makes_object program (entered_with C b rest outer (Some k) w) contract constructor_id x)))) ec ∙ go _)
        (λ m j en le ef e. made m j d en le (omega (arith, ef, fuel_is)) over (nat_le most_objects (length d.from.world.objects)) (may_pass table d.from.world.objects g.params vs) refl refl e)))

  -- a `new` does what the source's does
  pub new_runs : (s : Setting) (h : Here) (k : ℕ) (contract : ContractId) (args : List Operand) (span : Span) (rest : SilicaTerms) (outer : List Rest)
      → contract_at table s.here ≡ Some s.own → Stands table n s h → IsSomeAnd (constructor_at table contract) (λ g. length g.params ≡ length args)
      → Ends program (Called program n ⊤ (Some k) s h (runs rest outer)) (config s h (runs (and_term (new_form k contract args) span rest) outer))
      (with_some (read_values table h (all_located args)) (λ vs. call_with table inner (of_new contract) vs h.world))
  new_runs s h k contract args span rest outer found st passes =
      let g = called_so (constructor_at table contract) (λ g. length g.params ≡ length args) passes in
      let c = constructor_is (contract_at table contract) g.0 g.1 in
      by_values g.0 g.1 g.2 c.0 c.1 c.2 c.3 (read_values table h (all_located args)) refl
    where
      by_values : (g : Signature) → constructor_at table contract ≡ Some g → length g.params ≡ length args → (own : Contract) → contract_at table contract ≡ Some own → own.interface ≡ false → slice_get own.transactions 0 ≡ Some g → (o : Option (List Value)) → read_values table h (all_located args) ≡ o
          → Ends program (Called program n ⊤ (Some k) s h (runs rest outer)) (config s h (runs (and_term (new_form k contract args) span rest) outer)) (with_some o (λ vs. call_with table inner (of_new contract) vs h.world))
      by_values g ec len own eown is_object eg None eo =
          record {
            by = one_step program (ap (λ o. if_there o (λ x. bind_all table (unbound h) (all_located args) 1 (parameters x) (λ b. with_unit b.from.world (λ w. makes_object program (entered_with (config s h (runs (and_term (new_form k contract args) span rest) outer)) b rest outer (Some k) w) contract constructor_id x)))) ec
                ∙ bind_stuck program n (all_located args) (parameters g) (unbound h) 1 _ eo);
          }
      by_values g ec len own eown is_object eg (Some vs) eo =
          let count : length vs ≡ length g.params = read_length table h (all_located args) vs eo ∙ located_length args ∙ sym len in
          let bound = binds program n (all_located args) (parameters g) vs (unbound h) 1 eo (count ∙ sym (parameters_length g.params)) in
          new_is s h k contract args span rest outer st own g eown is_object eg vs count bound.0 bound.1 bound.2 ec
