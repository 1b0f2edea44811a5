-- The forms that call: a call of an object, a call on `this`, and a `new`.
use Rattle.std.proofs.Common.{◌≡◌, ℕ, suc, ◌+◌, ◌≤◌, true, List, [], ◌∷◌, ◌++◌, Option, Some, None, refl, sym, ap, ◌∙◌, subst, arith, eq-eqb}
use Rattle.std.specs.Prelude.{option_map, nat_eq}
use Rattle.std.specs.Option.{option_and_then}
use Rattle.std.proofs.lemmas.Bool.{or_left}
use Rattle.ob_base.specs.Optional.{◌>>=◌}
use Rattle.ob_base.specs.declared.fault.Span.{Span}
use Rattle.ob_base.specs.declared.id.ContractId.{ContractId}
use Rattle.ob_base.specs.declared.id.TxId.{TxId}
use Rattle.ob_table.specs.Tables.{signature_at, signature_of}
use Rattle.ob_table.specs.declared.contract.ResolvedType.TheVariants as typed
use Rattle.ob_table.specs.declared.contract.Signature.{Signature}
use Rattle.ob_table.specs.declared.seen.Kind.TheVariants.{Reference}
use Rattle.ob_table_spec.specs.WellFormed.{kind_of_resolved, is_implemented, serves_as, constructor_at}
use Rattle.ob_heap_spec.specs.Values.{Value, int_value, bool_value, text_value, reference, referred}
use Rattle.ob_heap_spec.specs.Worlds.{World, with_unit_taken}
use Rattle.ob_silica.specs.Slots.{slots_of_result}
use Rattle.ob_silica.specs.Terms.{SilicaForm, new_form, call_form, call_this_form, SilicaTerms}
use Rattle.ob_silica.specs.declared.place.Operand.{Operand}
use Rattle.ob_silica_places.specs.Parameters.{parameters, all_parameters}
use Rattle.ob_silica_places.specs.Places.{Location, this, located, all_located}
use Rattle.ob_silica_steps.specs.Binding.{Bound, unbound, bind_all, without_field_loans}
use Rattle.ob_silica_steps.specs.Calling.{entered_with, waits, constructor_id}
use Rattle.ob_silica_steps.specs.Cells.{value_in}
use Rattle.ob_silica_steps.specs.Configurations.{SilicaProgram, Rest, Configuration, NextStep}
use Rattle.ob_silica_steps.specs.Entering.{calls_object, calls_this, makes_object}
use Rattle.ob_silica_steps.specs.Here.{here, if_there, with_unit, read, self_of}
use Rattle.ob_silica_steps.specs.Steps.{act}
use Rattle.ob_coherent_spec.specs.Coherent.{IsCoherent}
use Rattle.ob_places_laws.proofs.Tables as tables
use Rattle.ob_places_laws.proofs.Tables.{there_from, if_there_so}
use Rattle.ob_code.specs.declared.instruction.Instruction.{Instruction}
use Rattle.ob_code.specs.declared.instruction.Instruction.TheVariants as instruction
use Rattle.ob_machine_steps.specs.Calling as machine_calls
use Rattle.ob_machine_steps.specs.Calling.{caller}
use Rattle.ob_machine_steps.specs.Configurations as machine
use Rattle.ob_machine_steps.specs.Entries.{running}
use Rattle.ob_code_table.specs.Images.{constructor_of}
use Rattle.ob_machine_steps.specs.Parts as parts
use Rattle.ob_machine_steps.specs.Slots.{values_at}
use Rattle.ob_machine_steps.specs.Steps as machine_steps
use Rattle.ob_emit_spec.specs.Emission.{result_slot, shares_of_call, shares_of_new}
use Rattle.ob_emit_spec.specs.Operands.{slot_read, slots_read, loads}
use Rattle.ob_emit_correct.specs.Law.{code_of}
use Rattle.ob_emit_correct.proofs.Matching.{SameFrame, AllWaitFor, Does}
use Rattle.ob_emit_correct.proofs.Agreeing.{constructor_found}
use Rattle.ob_emit_correct.proofs.Stepping.{one_step, does_reached, does_there}
use Rattle.ob_emit_correct.proofs.Placed.{FormStep, runs_class, form_formed, instruction_here}
use Rattle.ob_emit_correct.proofs.Slots.{scratch, form_scratch, form_slots}
use Rattle.ob_emit_correct.proofs.Reading.{this_there}
use Rattle.ob_emit_correct.proofs.Worlds.{same_unit}
use Rattle.ob_emit_correct.proofs.Marks.{MayCome, are_in}
use Rattle.ob_emit_correct.proofs.Entering.{StepsAlike, does_in_one, alike_unit, alike_as, answers_plainly, calls_object_alike, calls_this_alike, makes_object_alike}
use Rattle.ob_emit_correct.proofs.Handing.{values_split, ReadAs, Pass, as_many, may_come, may_pass, Handed, at_call, BothHand, both_hand, frame_waits}
use Rattle.ob_lower_correct.proofs.Binding.{bind_stuck}
use Rattle.ob_lower_correct.proofs.Calling.{read_values}
use Rattle.ob_lower_correct.proofs.CallsThis.{first_read, parameters_length}
use Rattle.ob_lower_correct.proofs.Standing.{none_some, some_same}

-- what refers to an object is a reference to it
referred_is : (v : Value) (n : ℕ) → referred v ≡ Some n → v ≡ reference n
referred_is (int_value z) n e = absurd (none_some e)
referred_is (bool_value b) n e = absurd (none_some e)
referred_is (text_value bytes) n e = absurd (none_some e)
referred_is (reference i) n e = ap reference (some_same i n e)

module _ {program : SilicaProgram} {form : SilicaForm} {span : Span} {rest : SilicaTerms} {outer : List Rest} {c : Configuration}
    {m : machine.Configuration} (x : FormStep program form span rest outer c m) where
  -- a configuration is coherent
  abbrev IsSo : Configuration → Type 0
  IsSo d = IsCoherent program.table x.entry x.beginning d

  -- the instruction to which the machine has come does what the form does
  does_alike : {os : List Operand} {us : List Value} {w : World} {i : Instruction} (h : Handed x os us w i) (next : NextStep)
      → act program form rest outer c ≡ next
      → StepsAlike program IsSo next (machine_steps.act (code_of program) i (at_call x h)) → Does program m next
  does_alike {i = i} h next is a = does_reached h.reaches (record {
    by = does_in_one program IsSo (running (at_call x h)) next (λ d e. x.next d (is ∙ e))
        (alike_as program IsSo next
        (one_step (code_of program) (at_call x h) i _ (instruction_here x h.place h.slots h.world i h.next) refl) a);
  })

-- Calls with a receiver.

module _ {program : SilicaProgram} {k : Option ℕ} {receiver : Operand} {contract : ContractId} {tx : TxId} {args : List Operand}
    {span : Span} {rest : SilicaTerms} {outer : List Rest} {c : Configuration} {m : machine.Configuration}
    (x : FormStep program (call_form k receiver contract tx args) span rest outer c m) where
  -- the receiver and the arguments
  abbrev call_places : List Location
  call_places = located receiver ∷ all_located args

  -- the step, once all is bound
  abbrev object_bound : Signature → ℕ → Bound → NextStep
  object_bound s n b = with_unit b.from.world (λ w. calls_object program (entered_with c b rest outer k w) contract tx s n)

  -- the slots of the arguments
  abbrev call_slots : List ℕ
  call_slots = slots_read (scratch x) 1 args

  -- the instruction
  abbrev call_instruction : Instruction
  call_instruction = instruction.Call (result_slot k) (slot_read (scratch x) 0 receiver.place) contract tx call_slots

  call_few : slots_of_result k ≤ scratch x
  call_few = let e = form_slots x in omega (arith, e)

  module _ (s : Signature) (is : signature_of program.table contract tx ≡ Some s) (n : ℕ)
      (refers : value_in (read program.table (here c) (located receiver)) ≡ Some (reference n))
      (binds : act program (call_form k receiver contract tx args) rest outer c
      ≡ bind_all program.table (unbound (here c)) call_places 0 (all_parameters contract s) (object_bound s n)) where
    call_passed : Pass x s.params args
    call_passed = if_there_so (signature_of program.table contract tx) (λ s. Pass x s.params args) s is (form_formed x).kinds.1

    -- the receiver may come into `this`
    receiver_may : MayCome c.world (typed.Reference contract s.entry) (reference n)
    receiver_may =
        let itself = or_left (nat_eq contract.0 contract.0) (is_implemented program.table contract contract)
        (eq-eqb contract.0 contract.0 refl) in
        may_come x (typed.Reference contract s.entry) receiver (reference n)
        (there_from _ (λ kind. serves_as program.table (Reference contract) kind ≡ true) (Reference contract)
        (form_formed x).kinds.0 itself)
        refers

    call_hands : (vs : List Value) → ReadAs x args vs
        → BothHand x call_places 0 (all_parameters contract s) (reference n ∷ vs) (receiver ∷ args)
        (reference n ∷ vs) call_instruction
    call_hands vs reads =
        let all = first_read program.table (here c) (located receiver) (all_located args) (reference n) (Some vs) refers reads in
        let slots = slots_read (scratch x) 0 (receiver ∷ args) in
        both_hand x call_places 0 (all_parameters contract s) (reference n ∷ vs) (receiver ∷ args)
        (reference n ∷ vs) slots call_instruction all
        (ap suc (as_many x s.params args vs call_passed reads ∙ sym (parameters_length s.params)))
        (ap (λ z. loads (scratch x) 0 (receiver ∷ args) ++ shares_of_call contract z slots ++ call_instruction ∷ []) is)
        (form_scratch x) all (λ cells st h. are_in cells slots (reference n ∷ vs) h)
        (receiver_may, may_pass x s.params args vs call_passed reads)

    -- the machine's step
    call_steps : (vs : List Value) {w : World} (h : Handed x (receiver ∷ args) (reference n ∷ vs) w call_instruction)
        → machine_steps.act (code_of program) call_instruction (at_call x h)
        ≡ parts.with_unit h.world (machine_calls.calls_object (code_of program)
        (caller (at_call x h) (result_slot k)) contract tx n vs)
    call_steps vs h =
        let at = values_split h.slots (slot_read (scratch x) 0 receiver.place) call_slots (reference n) vs h.values in
        let calls = λ (n : ℕ) (vs : List Value). parts.with_unit h.world
        (machine_calls.calls_object (code_of program) (caller (at_call x h) (result_slot k)) contract tx n vs) in
        ap (λ (v : Option Value). (v >>= referred) >>= λ n. values_at h.slots call_slots >>= λ vs. calls n vs) at.0
        ∙ ap (λ (z : Option (List Value)). z >>= λ vs. calls n vs) at.1

    object_does : (vs : List Value) → ReadAs x args vs
        → Does program m (bind_all program.table (unbound (here c)) call_places 0 (all_parameters contract s) (object_bound s n))
    object_does vs reads =
        let b = call_hands vs reads in
        let there = caller (at_call x b.handed) (result_slot k) in
        let below = subst (λ g. AllWaitFor program g (waits c b.bound rest outer k) there.into there.frames)
        (ap (option_and_then (λ (s : Signature). option_map kind_of_resolved s.result)) is)
        (frame_waits x k _ b.bound b.handed refl refl (form_formed x).params call_few b.alike) in
        let called = λ (j : ℕ). calls_object_alike program x.checked (IsSo x)
        (entered_with c b.bound rest outer k (with_unit_taken b.bound.from.world j)) there contract tx s n vs
        (with_unit_taken b.handed.world j)
        is (as_many x s.params args vs call_passed reads) b.slots below (same_unit j b.handed.same)
        (λ d own t eo answers et how so. answers_plainly program x.checked (IsSo x) contract tx s d.frame.contract own d.frame.tx t is
        (form_formed x).bodies.1 eo answers et)
        (λ d own eo so. runs_class program.table x.entry x.beginning d own eo so) in
        subst (Does program m) (sym (b.binds_so (object_bound s n)))
        (does_alike x b.handed (object_bound s n b.bound) (binds ∙ b.binds_so (object_bound s n))
        (alike_as program (IsSo x) (object_bound s n b.bound) (call_steps vs b.handed)
        (alike_unit program (IsSo x) b.handed.same _ _ called)))

    -- where an argument has no value there is no step
    object_by : (o : Option (List Value)) → read_values program.table (here c) (all_located args) ≡ o
        → Does program m (bind_all program.table (unbound (here c)) call_places 0 (all_parameters contract s) (object_bound s n))
    object_by None reads =
        subst (Does program m)
        (sym (bind_stuck program 0 call_places (all_parameters contract s) (unbound (here c)) 0 (object_bound s n)
        (first_read program.table (here c) (located receiver) (all_located args) (reference n) None refers reads)))
        (record { by = tt })
    object_by (Some vs) reads = object_does vs reads

  -- a call of an object
  pub call_does : Does program m (act program (call_form k receiver contract tx args) rest outer c)
  call_does =
      does_there program m (signature_of program.table contract tx) _ (λ s is.
      does_there program m (read program.table (here c) (located receiver)) _ (λ y found.
      does_there program m (referred y.value) _ (λ n refers.
      object_by s is n (ap value_in found ∙ ap (λ v. Some v) (referred_is y.value n refers))
      (ap (λ o. if_there o (λ s. if_there (read program.table (here c) (located receiver)) (λ x. if_there (referred x.value) (λ n. bound s n)))) is
      ∙ ap (λ o. if_there o (λ x. if_there (referred x.value) (λ n. bound s n))) found ∙ ap (λ o. if_there o (λ n. bound s n)) refers)
      (read_values program.table (here c) (all_located args)) refl)))
    where
      bound : Signature → ℕ → NextStep
      bound s n = bind_all program.table (unbound (here c)) call_places 0 (all_parameters contract s) (object_bound s n)

-- Calls on `this`.

module _ {program : SilicaProgram} {k : Option ℕ} {tx : TxId} {args : List Operand} {span : Span} {rest : SilicaTerms}
    {outer : List Rest} {c : Configuration} {m : machine.Configuration}
    (x : FormStep program (call_this_form k tx args) span rest outer c m) where
  -- `this` and the arguments
  abbrev this_places : List Location
  this_places = this ∷ all_located args

  -- the step, once all is bound
  abbrev this_bound : Signature → Bound → NextStep
  this_bound s b = with_unit b.from.world (λ w. calls_this program
      (entered_with c (without_field_loans b) rest outer k w) c.frame tx s)

  -- the slots of the arguments
  abbrev this_slots : List ℕ
  this_slots = slots_read (scratch x) 0 args

  -- the instruction
  abbrev this_instruction : Instruction
  this_instruction = instruction.SelfCall (result_slot k) tx this_slots

  -- `this` is a reference to its object
  abbrev itself : Value
  itself = reference (self_of c.frame.slots)

  this_value : value_in (c.frame.slots 0) ≡ Some itself
  this_value = ap value_in x.coherent.whole.frame.set ∙ ap (λ v. Some v) x.coherent.whole.frame.refers

  this_few : slots_of_result k ≤ scratch x
  this_few = let e = form_slots x in omega (arith, e)

  module _ (s : Signature) (is : signature_of program.table c.frame.contract tx ≡ Some s) where
    this_binds : act program (call_this_form k tx args) rest outer c
        ≡ bind_all program.table (unbound (here c)) this_places 0 (all_parameters c.frame.contract s) (this_bound s)
    this_binds = ap (λ o. if_there o (λ s.
        bind_all program.table (unbound (here c)) this_places 0 (all_parameters c.frame.contract s) (this_bound s))) is

    this_passed : Pass x s.params args
    this_passed = if_there_so (signature_of program.table c.frame.contract tx) (λ s. Pass x s.params args) s is
        (form_formed x).kinds

    this_hands : (vs : List Value) → ReadAs x args vs
        → BothHand x this_places 0 (all_parameters c.frame.contract s) (itself ∷ vs) args vs this_instruction
    this_hands vs reads =
        both_hand x this_places 0 (all_parameters c.frame.contract s) (itself ∷ vs) args vs (0 ∷ this_slots) this_instruction
        (first_read program.table (here c) this (all_located args) itself (Some vs) this_value reads)
        (ap suc (as_many x s.params args vs this_passed reads ∙ sym (parameters_length s.params)))
        (ap (λ z. loads (scratch x) 0 args ++ shares_of_call c.frame.contract z (0 ∷ this_slots) ++ this_instruction ∷ []) is)
        (form_scratch x) reads
        (λ slots st h. (
          st.same 0 x.coherent.whole.frame.this x.coherent.whole.frame.set ∙ ap (λ v. Some v) x.coherent.whole.frame.refers,
          are_in slots this_slots vs h,
        ))
        ((_, this_there x), may_pass x s.params args vs this_passed reads)

    -- the frame is the same where it calls
    frame_there : {us : List Value} {w : World} (h : Handed x args us w this_instruction) → SameFrame c.frame (at_call x h).top
    frame_there h = record {
      this = x.goes_on.frame.this;
      contract = x.goes_on.frame.contract;
      tx = x.goes_on.frame.tx;
      entered = x.goes_on.frame.entered;
      share_entered = x.goes_on.frame.share_entered;
    }

    this_does : (vs : List Value) → ReadAs x args vs
        → Does program m (bind_all program.table (unbound (here c)) this_places 0 (all_parameters c.frame.contract s)
        (this_bound s))
    this_does vs reads =
        let b = this_hands vs reads in
        let there = caller (at_call x b.handed) (result_slot k) in
        let lent = without_field_loans b.bound in
        let below = subst (λ g. AllWaitFor program g (waits c lent rest outer k) there.into there.frames)
        (ap (option_and_then (λ (s : Signature). option_map kind_of_resolved s.result)) is)
        (frame_waits x k _ lent b.handed refl refl (form_formed x).params this_few b.alike) in
        let own_is : signature_at x.goes_on.has.own tx ≡ Some s =
        sym (ap (option_and_then (λ c. signature_at c tx)) x.goes_on.has.is_own) ∙ is in
        let called = λ (j : ℕ). calls_this_alike program x.checked (IsSo x)
        (entered_with c lent rest outer k (with_unit_taken b.bound.from.world j)) c.frame (at_call x b.handed) (result_slot k) tx
        x.goes_on.has.own s itself vs (with_unit_taken b.handed.world j) x.goes_on.has.is_own x.goes_on.has.class own_is
        (as_many x s.params args vs this_passed reads) (frame_there b.handed) refl b.slots below (same_unit j b.handed.same) in
        subst (Does program m) (sym (b.binds_so (this_bound s)))
        (does_alike x b.handed (this_bound s b.bound) (this_binds ∙ b.binds_so (this_bound s))
        (alike_as program (IsSo x) (this_bound s b.bound)
        (ap (λ (z : Option (List Value)). z >>= λ vs.
        parts.with_unit b.handed.world (machine_calls.calls_this (code_of program) (result_slot k) tx vs
        (at_call x b.handed))) b.handed.values)
        (alike_unit program (IsSo x) b.handed.same _ _ called)))

    -- where an argument has no value there is no step
    this_by : (o : Option (List Value)) → read_values program.table (here c) (all_located args) ≡ o
        → Does program m (bind_all program.table (unbound (here c)) this_places 0 (all_parameters c.frame.contract s)
        (this_bound s))
    this_by None reads =
        subst (Does program m)
        (sym (bind_stuck program 0 this_places (all_parameters c.frame.contract s) (unbound (here c)) 0 (this_bound s)
        (first_read program.table (here c) this (all_located args) itself None this_value reads))) (record { by = tt })
    this_by (Some vs) reads = this_does vs reads

  -- a call on `this`
  pub call_this_does : Does program m (act program (call_this_form k tx args) rest outer c)
  call_this_does =
      does_there program m (signature_of program.table c.frame.contract tx) _ (λ s is.
      this_by s is (read_values program.table (here c) (all_located args)) refl)

-- `new`.

module _ {program : SilicaProgram} {k : ℕ} {contract : ContractId} {args : List Operand} {span : Span} {rest : SilicaTerms}
    {outer : List Rest} {c : Configuration} {m : machine.Configuration}
    (x : FormStep program (new_form k contract args) span rest outer c m) where
  -- the step, once all is bound
  abbrev new_bound : Signature → Bound → NextStep
  new_bound s b = with_unit b.from.world (λ w. makes_object program
      (entered_with c b rest outer (Some k) w) contract constructor_id s)

  -- the slots of the arguments
  abbrev new_slots : List ℕ
  new_slots = slots_read (scratch x) 0 args

  -- the instruction
  abbrev new_instruction : Instruction
  new_instruction = instruction.New k contract new_slots

  new_few : k + 1 ≤ scratch x
  new_few = let e = form_slots x in omega (arith, e)

  module _ (s : Signature) (is : constructor_at program.table contract ≡ Some s) where
    new_binds : act program (new_form k contract args) rest outer c
        ≡ bind_all program.table (unbound (here c)) (all_located args) 1 (parameters s) (new_bound s)
    new_binds = ap (λ o. if_there o (λ s.
        bind_all program.table (unbound (here c)) (all_located args) 1 (parameters s) (new_bound s))) is

    new_passed : Pass x s.params args
    new_passed = if_there_so (constructor_at program.table contract) (λ s. Pass x s.params args) s is (form_formed x).kinds

    new_hands : (vs : List Value) → ReadAs x args vs → BothHand x (all_located args) 1 (parameters s) vs args vs new_instruction
    new_hands vs reads =
        both_hand x (all_located args) 1 (parameters s) vs args vs new_slots new_instruction reads
        (as_many x s.params args vs new_passed reads ∙ sym (parameters_length s.params))
        (ap (λ z. loads (scratch x) 0 args ++ shares_of_new z new_slots ++ new_instruction ∷ []) is)
        (form_scratch x) reads (λ slots st h. are_in slots new_slots vs h) (may_pass x s.params args vs new_passed reads)

    makes_does : (vs : List Value) → ReadAs x args vs
        → Does program m (bind_all program.table (unbound (here c)) (all_located args) 1 (parameters s) (new_bound s))
    makes_does vs reads =
        let b = new_hands vs reads in
        let there = caller (at_call x b.handed) k in
        let own = tables.constructor_found program.table x.checked.table contract s is in
        let below = frame_waits x (Some k) (Some (Reference contract)) b.bound b.handed refl refl
        (form_formed x).params new_few b.alike in
        let constructor = constructor_of (code_of program) contract in
        let made = λ (j : ℕ). makes_object_alike program x.checked (IsSo x)
        (entered_with c b.bound rest outer (Some k) (with_unit_taken b.bound.from.world j)) there contract own.0 s constructor vs
        (with_unit_taken b.handed.world j) own.1 own.2 own.3 (constructor_found program x.checked contract own.0 own.1 own.2)
        (as_many x s.params args vs new_passed reads) b.slots below (same_unit j b.handed.same) in
        subst (Does program m) (sym (b.binds_so (new_bound s)))
        (does_alike x b.handed (new_bound s b.bound) (new_binds ∙ b.binds_so (new_bound s))
        (alike_as program (IsSo x) (new_bound s b.bound)
        (ap (λ (z : Option (List Value)). z >>= λ vs.
        parts.with_unit b.handed.world (machine_calls.makes_object
        (code_of program) there contract constructor vs)) b.handed.values)
        (alike_unit program (IsSo x) b.handed.same _ _ made)))

    -- where an argument has no value there is no step
    makes_by : (o : Option (List Value)) → read_values program.table (here c) (all_located args) ≡ o
        → Does program m (bind_all program.table (unbound (here c)) (all_located args) 1 (parameters s) (new_bound s))
    makes_by None reads =
        subst (Does program m)
        (sym (bind_stuck program 0 (all_located args) (parameters s) (unbound (here c)) 1 (new_bound s) reads))
        (record { by = tt })
    makes_by (Some vs) reads = makes_does vs reads

  -- a `new`
  pub new_does : Does program m (act program (new_form k contract args) rest outer c)
  new_does =
      does_there program m (constructor_at program.table contract) _ (λ s is.
      makes_by s is (read_values program.table (here c) (all_located args)) refl)
