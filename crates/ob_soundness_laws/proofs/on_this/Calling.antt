-- The step of a call on `this`.
use Rattle.std.proofs.Common.{◌≡◌, ◌≢◌, ℕ, zero, suc, ◌+◌, ◌<◌, ◌≤◌, true, false, not, ◌&&◌, List, [], ◌∷◌, length, Option, Some, None, Ok, refl, sym, ap, subst, ◌∙◌, arith, ⊎_elim, inl, inr, true≢false, eq-eqb}
use Rattle.std.specs.Prelude.{nat_eq, nat_lt, slice_get, max, option_map, is_some, IsSome, if◌then◌else◌, ⊤}
use Rattle.std.specs.Option.{option_and_then, option_map_or}
use Rattle.std.proofs.lemmas.Bool.{both_ways}
use Rattle.std.proofs.lemmas.List.{length-map}
use Rattle.std.proofs.lemmas.Option.{same_Some}
use Rattle.ob_base.specs.Limits.{most_slots}
use Rattle.ob_base.specs.declared.fault.Span.{Span}
use Rattle.ob_base.specs.declared.id.TxId.{TxId}
use Rattle.ob_perm.specs.Permissions.{shared, owns}
use Rattle.ob_perm.specs.Masks.{permission_of}
use Rattle.ob_table.specs.Tables.{contract_at, signature_at, signature_of}
use Rattle.ob_table.specs.declared.contract.Contract.{Contract}
use Rattle.ob_table.specs.declared.contract.Field.{Field}
use Rattle.ob_table.specs.declared.contract.ResolvedType.{ResolvedType}
use Rattle.ob_table.specs.declared.contract.ResolvedType.TheVariants.{Reference as TypedReference}
use Rattle.ob_table.specs.declared.contract.Signature.{Signature}
use Rattle.ob_table.specs.declared.seen.Kind.TheVariants.{Reference}
use Rattle.ob_table_spec.specs.Conditions.{IsTransaction}
use Rattle.ob_table_spec.specs.WellFormed.{kind_of_resolved, serves_as}
use Rattle.ob_heap_spec.specs.Values.{reference}
use Rattle.ob_heap_spec.specs.Objects.{state_number}
use Rattle.ob_heap_spec.specs.Worlds.{World, with_unit_taken}
use Rattle.ob_silica.specs.Terms.{SilicaForm, call_this_form, SilicaTerms, and_term}
use Rattle.ob_silica.specs.Slots.{slots_of_form, slots_of_result, slots_of_operands}
use Rattle.ob_silica.specs.declared.place.Operand.{Operand}
use Rattle.ob_silica_places.specs.Known.{Known, known}
use Rattle.ob_silica_places.specs.Places.{Location, slot, field, this, all_located}
use Rattle.ob_silica_places.specs.Parameters.{Parameter, parameters, this_parameter, all_parameters, parameter_of}
use Rattle.ob_silica_steps.specs.Cells.{Cell, permission_in}
use Rattle.ob_silica_steps.specs.Configurations.{SilicaProgram, SilicaFrame, by_this, by_new, Loan, Rest, Waiting, runs, Configuration, NextStep}
use Rattle.ob_silica_steps.specs.Here.{here, self_of, if_there, with_unit, with_fuel_left}
use Rattle.ob_silica_steps.specs.Binding.{Bound, unbound, bound_cell, bind_all, slot_loans, without_field_loans}
use Rattle.ob_silica_steps.specs.Calling.{entered_with}
use Rattle.ob_silica_steps.specs.Entering.{are_within, calls_this}
use Rattle.ob_silica_steps.specs.Steps.{act}
use Rattle.ob_silica_formed.specs.Holdings.{held as held_as, held_at_start, after_form, kind_of_result, with_slot_if}
use Rattle.ob_silica_formed.specs.Points.{ArePassed}
use Rattle.ob_flow_spec.specs.Contexts.{BodyFrame, Context, constructs, available, field_count, entry_of_field, exit_of_field, type_of_field, possible_under, permission_at, maybe_there, field_known, beginning as beginning_context, static_of}
use Rattle.ob_flow_spec.specs.Joining.{same_mode}
use Rattle.ob_flow_spec.specs.Binding.{reads_of, given_all, passed, with_result}
use Rattle.ob_flow_spec.specs.Calling.{reads_with_this, fields_left, after_call_on_this}
use Rattle.ob_flow_spec.specs.Deriving.{derive}
use Rattle.ob_flow_laws.specs.Binding.{KeepsFields}
use Rattle.ob_flow_laws.specs.Calling.{CanCallThis}
use Rattle.ob_places_laws.proofs.Beginnings.{this_of_transaction, beginning_field}
use Rattle.ob_places_laws.proofs.Conversions.{serves_itself}
use Rattle.ob_places_laws.proofs.Passing.{all_are, exit_owner_came}
use Rattle.ob_places_laws.specs.Passing.{IsParameter}
use Rattle.ob_places_laws.proofs.Sets.{meets_from}
use Rattle.ob_places_laws.proofs.Tables.{each_at, if_there_so, contract_is, transaction_is}
use Rattle.ob_soundness_laws.proofs.remaining.Knowing.{KnowsIf, form_knows}
use Rattle.ob_soundness_laws.proofs.remaining.Remaining.{IsFirst, first_formed, first_slots, first_passes, rest_remains}
use Rattle.ob_coherent_spec.specs.Counting.{nth_object, field_cell, owners}
use Rattle.ob_coherent_spec.specs.Runs.{times, entries, constructions, tested_places}
use Rattle.ob_coherent_spec.specs.Standing.{HasItsState, NeedsOwner}
use Rattle.ob_coherent_spec.specs.Saying.{SaysOf, own_object, own_cell}
use Rattle.ob_coherent_spec.specs.Remaining.{IsCheckedProgram, BodyParts, body_of, IsWellFormedForm, Remains}
use Rattle.ob_coherent_spec.specs.Waiting.{IsFrame, SharesThis, has_lent, AreLoans, gives_back_as, AwaitsResult, FieldsComeBack, is_lent, is_settled, is_result, Lends, tests_of, waiting_here, Waits}
use Rattle.ob_coherent_spec.specs.Coherent.{Beginning, Holds, IsRunning, running, StepsSo}
use Rattle.ob_soundness_laws.proofs.frames.Near.{EachSelf, each_self}
use Rattle.ob_soundness_laws.proofs.tests.Unchanged.{remains_so}
use Rattle.ob_soundness_laws.proofs.places.Alike.{reads_alike}
use Rattle.ob_soundness_laws.proofs.places.Finding.{sits_read, state_possible, own_state_low}
use Rattle.ob_soundness_laws.proofs.places.Reading.{available_is, field_is, kind_in_run}
use Rattle.ob_soundness_laws.specs.calls.Binds.{in_both, in_rest, Binds, lent_all, ArePassedTo, AreOnce, AllBound}
use Rattle.ob_soundness_laws.specs.calls.Entered.{BeginsOn}
use Rattle.ob_soundness_laws.specs.calls.Lending.{AreBack, GiveBack, HasBound}
use Rattle.ob_soundness_laws.proofs.calls.After.{kinds_given, sets_given, result_other, settled_parts, backs_beside}
use Rattle.ob_soundness_laws.proofs.calls.Beginning.{Begins, begins_to_run}
use Rattle.ob_soundness_laws.proofs.calls.BindingAll.{are_once, bind_all_steps}
use Rattle.ob_soundness_laws.proofs.calls.Called.{left_waiting, called_on, called_owners, called_references, called_fewer, called_entries, called_constructions, called_whole}
use Rattle.ob_soundness_laws.proofs.calls.Caller.{caller_waits, caller_parts}
use Rattle.ob_soundness_laws.proofs.calls.Entered.{begins_self, begins_stand, begins_held, begins_frame, begins_says}
use Rattle.ob_soundness_laws.proofs.calls.Lending.{backs_settled, backs_are, all_loans}
use Rattle.ob_soundness_laws.proofs.calls.Passing.{places_of_reads, args_passed, same_give_back}
use Rattle.ob_soundness_laws.proofs.calls.Running.{running_sits, running_one, running_placed, running_finished, running_binds, running_references}
use Rattle.ob_soundness_laws.proofs.calls.SlotLoans.{test_no_field, slots_lent, lend_no_field, loans_of_slots, wanted_slot_lent}
use Rattle.ob_soundness_laws.proofs.calls.Stepping.{call_this_enters}
use Rattle.ob_soundness_laws.proofs.calls.Untested.{awaits_result, result_plain}
use Rattle.ob_soundness_laws.proofs.calls.Within.{are_all_within}
use Rattle.ob_soundness_laws.proofs.on_this.This.{mode_shared, first_shared}
use Rattle.ob_soundness_laws.proofs.places.Held.{held_says}

some_is : {A : Type 0} (o : Option A) → IsSome o → (x : A) × (o ≡ Some x)
some_is (Some x) h = (x, refl)
some_is None h = absurd (true≢false (sym h))

runs_outer : (terms others : SilicaTerms) (outer more : List Rest) → runs terms outer ≡ runs others more → outer ≡ more
runs_outer terms others outer more e = cc

first_of : (m n k : ℕ) → max m n ≤ k → m ≤ k
first_of m n k h = omega (arith, h)

second_of : (m n k : ℕ) → max m n ≤ k → n ≤ k
second_of m n k h = omega (arith, h)

-- slots say the same where fields are left as the call leaves them
slots_left : (b : BodyFrame) (s : Signature) (g : Context) (result : Option ℕ) (of : Option ResolvedType) (j : ℕ)
    → with_result (fields_left b s g) result of (slot j) ≡ with_result g result of (slot j)
slots_left b s g None of j = refl
slots_left b s g (Some m) None j = refl
slots_left b s g (Some m) (Some of) j = refl

-- and fields are left so
fields_come : (b : BodyFrame) (s : Signature) (g : Context) (result : Option ℕ) (of : Option ResolvedType) (f : ℕ)
    → f < field_count b → with_result (fields_left b s g) result of (field f)
    ≡ Some (known (kind_of_resolved (type_of_field b f)) (exit_of_field b s f))
fields_come b s g result of f low = at result of
    ∙ ap (λ z. if z then Some (known (kind_of_resolved (type_of_field b f)) (exit_of_field b s f)) else None)
    (below f (field_count b) low)
  where
    below : (m n : ℕ) → m < n → nat_lt m n ≡ true
    below m n lt = grind arith

    at : (result : Option ℕ) (of : Option ResolvedType) → with_result (fields_left b s g) result of (field f)
        ≡ fields_left b s g (field f)
    at None of = refl
    at (Some m) None = refl
    at (Some m) (Some of) = refl

no_new : (x : by_this ≡ by_new) → ⊥
no_new x = cc

module _ (program : SilicaProgram) (is : IsCheckedProgram program) (entry : Option ℕ) (beginning : Beginning)
    (c : Configuration) (k : IsRunning program.table entry beginning c) (result : Option ℕ) (tx : TxId)
    (args : List Operand) (span : Span) (rest : SilicaTerms) (outer : List Rest)
    (so : c.control ≡ runs (and_term (call_this_form result tx args) span rest) outer) where
  abbrev bf : BodyFrame
  bf = body_of program.table c.frame k.whole.parts

  abbrev form : SilicaForm
  form = call_this_form result tx args

  same_outer : outer ≡ k.outer
  same_outer = runs_outer (and_term form span rest) k.terms outer k.outer (sym so ∙ k.control)

  left_so : Remains bf k.holdings k.context (and_term form span rest) outer
  left_so = remains_so program.table entry beginning c k (and_term form span rest) outer so

  formed : IsWellFormedForm (static_of bf) k.holdings form
  formed = first_formed bf k.holdings k.context form span rest outer left_so

  few : slots_of_form form ≤ k.whole.parts.slots
  few = first_slots bf k.holdings k.context form span rest outer left_so

  abbrev first : IsFirst bf k.context form span outer
  first = first_passes bf k.holdings k.context form span rest outer left_so

  few_result : slots_of_result result ≤ k.whole.parts.slots
  few_result = first_of (slots_of_result result) (slots_of_operands args) k.whole.parts.slots few

  few_operands : slots_of_operands args ≤ k.whole.parts.slots
  few_operands = second_of (slots_of_result result) (slots_of_operands args) k.whole.parts.slots few

  -- the context is left after it, and the rest from there
  rest_after : (j : Context) → first.mid ≡ Some j → Remains bf (after_form (static_of bf) form k.holdings) j rest outer
  rest_after j e = rest_remains bf k.holdings k.context j form span rest outer left_so
      (subst (λ m. derive bf (tested_places outer) form span k.context ≡ Ok m) e first.derives)
      (subst (KnowsIf bf) e (form_knows bf (tested_places outer) k.holdings form span k.context first.mid formed
      left_so.formed.forms.1 first.passes k.remains.itself))

  -- the number is that of no constructor
  plain_number : nat_eq tx.0 0 ≡ false
  plain_number =
      sym (ap (λ (o : Option Contract). option_map_or (λ (x : Contract). not x.interface && nat_eq tx.0 0) o false)
      k.whole.frame.own ∙ ap (λ b. not b && nat_eq tx.0 0) k.whole.frame.class) ∙ formed.bodies

  -- what follows once all is bound
  abbrev goes_on : Signature → Bound → NextStep
  goes_on s b = with_unit b.from.world
      (λ w. calls_this program (entered_with c (without_field_loans b) rest outer result w) c.frame tx s)

  module _ (s : Signature) (es : signature_of program.table c.frame.contract tx ≡ Some s) where
    own_signature : signature_at k.whole.parts.own tx ≡ Some s
    own_signature = sym (ap (option_and_then (λ (x : Contract). signature_at x tx)) k.whole.frame.own) ∙ es

    can : CanCallThis bf (tested_places outer) k.context span s args
    can = (first.passes.signed s own_signature).0

    abbrev given : Context
    given = given_all k.context (reads_with_this span args) (all_parameters c.frame.contract s)

    abbrev after : Context
    after = after_call_on_this bf k.context span result s args

    remains : Remains bf (after_form (static_of bf) form k.holdings) after rest outer
    remains = rest_after after (first.passes.signed s own_signature).1

    body : Begins program c.frame.contract tx k.whole.parts.own s
    body = begins_to_run program is c.frame.contract tx k.whole.parts.own s k.whole.frame.own k.whole.frame.class
        own_signature

    transaction : IsTransaction program.table k.whole.parts.own s
    transaction = transaction_is program.table k.whole.parts.own
        (contract_is program.table is.table c.frame.contract k.whole.parts.own k.whole.frame.own) tx s
        (inr (λ z. both_ways (nat_eq tx.0 0) plain_number (eq-eqb tx.0 0 z))) own_signature

    not_made : c.frame.how ≢ by_new
    not_made e = both_ways (constructs bf) can.no_constructor (k.whole.frame.constructs e)

    -- What is passed.

    this_kind : (x : Cell) → c.frame.slots 0 ≡ Some x → x.note.kind ≡ Reference c.frame.contract
    this_kind x e = ap (λ (z : Cell). z.note.kind) (same_Some x k.whole.frame.this (sym e ∙ k.whole.frame.set))
        ∙ k.whole.frame.kind

    all_passed : ArePassedTo program.table c k.whole.parts (reads_with_this span args)
        (all_parameters c.frame.contract s)
    all_passed = (
      (let low = k.whole.frame.params in omega (arith, low)),
      λ x e. subst (λ z. serves_as program.table (Reference c.frame.contract) z ≡ true) (sym (this_kind x e))
          (serves_itself program.table (Reference c.frame.contract)),
      args_passed program.table is.table entry beginning c k s.params args few_operands formed.numbers.1
          (if_there_so (signature_of program.table c.frame.contract tx)
          (λ s. ArePassed (static_of bf) k.holdings s.params args) s es formed.kinds),
    )

    takes : is_some result ≡ is_some s.result
    takes = if_there_so (signature_of program.table c.frame.contract tx) (λ s. is_some result ≡ is_some s.result) s es
        formed.results

    few_params : suc (length (parameters s)) ≤ most_slots
    few_params =
        let most = body.few in
        let low = body.params in
        let same : length (parameters s) ≡ length s.params = length-map s.params parameter_of in
        omega (arith, most, low, same)

    once : AreOnce (reads_with_this span args) (all_parameters c.frame.contract s)
    once = are_once (reads_with_this span args) (all_parameters c.frame.contract s) can.once

    -- What is bound.

    module _ (b : Bound) (a : AllBound program.table c k.whole.parts k.context k.context (unbound (here c))
        (reads_with_this span args) (all_parameters c.frame.contract s) 0 b) (fuel : ℕ) where
      abbrev w : World
      w = with_unit_taken b.from.world fuel

      abbrev nb : ℕ
      nb = 0 + length (all_parameters c.frame.contract s)

      binds : Binds program.table c k.whole.parts b given (0 + length (all_parameters c.frame.contract s))
      binds = a.binds

      abbrev callee : SilicaFrame
      callee = record {
        slots = b.slots;
        contract = c.frame.contract;
        tx = tx;
        how = by_this;
        share_entered = c.frame.share_entered;
      }

      abbrev called : BodyParts
      called = record { own = k.whole.parts.own; signature = s; slots = body.slots }

      abbrev loans : List Loan
      loans = slot_loans b.loans

      abbrev waiting_frame : Waiting
      waiting_frame = left_waiting c b rest outer result (slot_loans b.loans)

      abbrev d : Configuration
      d = called_on c b callee body.terms rest outer result (slot_loans b.loans) w

      -- The frame of the callee.

      first_slot : b.slots 0
          ≡ Some (bound_cell (TypedReference c.frame.contract s.entry) (reference (self_of c.frame.slots)))
      first_slot = a.first k.whole.frame.this k.whole.frame.set
          ∙ ap (λ v. Some (bound_cell (TypedReference c.frame.contract s.entry) v)) k.whole.frame.refers

      begun : BeginsOn program.table w.objects callee s (permission_of s.entry) (self_of c.frame.slots)
      begun = record {
        this = first_slot;
        stands = a.binds.bound 0
            (bound_cell (TypedReference c.frame.contract s.entry) (reference (self_of c.frame.slots))) first_slot;
        bound = a.bound.1;
        unset = λ j low. a.binds.above j
            (let same : length (parameters s) ≡ length s.params = length-map s.params parameter_of in
            omega (arith, low, same));
      }

      self_is : self_of callee.slots ≡ self_of c.frame.slots
      self_is = begins_self program.table w.objects callee s (permission_of s.entry) (self_of c.frame.slots) begun

      callee_frame : IsFrame program.table w.objects callee called
      callee_frame = begins_frame program.table w.objects callee s (permission_of s.entry) (self_of c.frame.slots) begun
          k.whole.parts.own body.slots k.whole.frame.own k.whole.frame.class own_signature body.few body.params
          (a.binds.stays.contracts (self_of c.frame.slots) ∙ k.whole.frame.contract)
          (λ e. absurd (both_ways (nat_eq tx.0 0) plain_number e)) (λ e. absurd (no_new e)) (λ e. absurd (e refl))

      grows : (m : ℕ) → times m c.world.progress ≤ times m w.progress
      grows m = let e = ap (times m) a.binds.stays.progress in omega (arith, e)

      any_stays : EachSelf (λ m. ⊤) c.stack
      any_stays = each_self (λ m. ⊤) (λ m. tt) c.stack

      apart_stays : (m : ℕ) → ⊤ → m ≢ self_of c.frame.slots → m ≢ self_of callee.slots
      apart_stays m stay other e = other (e ∙ self_is)

      all_owners : (m : ℕ) → owners m d ≡ in_both owns m b + in_rest owns m c
      all_owners = called_owners program.table is.table entry beginning c k b given nb binds
          callee body.terms rest outer result (slot_loans b.loans) w same_outer refl refl (λ m. refl) (λ m. refl) grows
          (λ m. ⊤) any_stays apart_stays

      fewer : (m : ℕ) → owners m d ≤ owners m c
      fewer = called_fewer program.table is.table entry beginning c k b given nb binds
          callee body.terms rest outer result (slot_loans b.loans) w same_outer refl refl (λ m. refl) (λ m. refl) grows
          (λ m. ⊤) any_stays apart_stays

      entries_same : (m : ℕ) → entries m d ≡ entries m c
      entries_same m =
          let e = called_entries program.table is.table entry beginning c k b given nb binds
          callee body.terms rest outer result (slot_loans b.loans) w same_outer refl refl (λ m. refl) (λ m. refl) grows
          (λ m. ⊤) any_stays apart_stays m in
          omega (arith, e)

      entered_so : (m : ℕ) → entries m d ≡ times m w.progress
      entered_so m = entries_same m ∙ k.whole.progress m ∙ ap (times m) (sym a.binds.stays.progress)

      entered_once : (m : ℕ) → entries m d ≤ 1
      entered_once m = let e = entries_same m in let most = k.whole.entered_once m in omega (arith, e, most)

      -- Loans.

      has_bound : HasBound b.slots callee.slots
      has_bound = record { has = λ j x e. (x, e, refl, refl) }

      gives_back : GiveBack program.table (all_parameters c.frame.contract s) k.context
          (reads_with_this span args) (all_parameters c.frame.contract s) 0
      gives_back = same_give_back program.table is.table (all_parameters c.frame.contract s) k.context
          (reads_with_this span args) (all_parameters c.frame.contract s) 0
          (λ j p e. subst (λ m. slice_get (all_parameters c.frame.contract s) m ≡ Some p)
          (let z : j ≡ 0 + j = omega arith in z) e)

      abbrev told : Context
      told = passed bf k.context (reads_with_this span args) (all_parameters c.frame.contract s)

      back : AreBack program.table k.context (with_result told result s.result) (reads_with_this span args)
          (all_parameters c.frame.contract s)
      back = backs_beside program.table b.from.world.objects k.context told b
          result s.result (reads_with_this span args) (all_parameters c.frame.contract s) 0 a.binds.bound
          (result_plain program.table is.table entry beginning c k b given nb binds result formed.references)
          a.lent
          (backs_are bf k.context given b (reads_with_this span args) (all_parameters c.frame.contract s) 0
          (kinds_given k.context (reads_with_this span args) (all_parameters c.frame.contract s))
          (sets_given k.context (reads_with_this span args) (all_parameters c.frame.contract s)) a.lent once)

      every_loan : AreLoans program.table d callee called (λ m. tests_of m callee.slots [])
          (waiting_here b.from.notes w waiting_frame) (with_result told result s.result) b.loans
      every_loan = subst (AreLoans program.table d callee called (λ m. tests_of m callee.slots [])
          (waiting_here b.from.notes w waiting_frame) (with_result told result s.result)) (sym a.loans)
          (all_loans program.table d callee called (λ m. tests_of m callee.slots [])
          (waiting_here b.from.notes w waiting_frame) k.context (with_result told result s.result) b
          (λ q. reads_alike b.from w refl program.table q
          ∙ sits_read program.table is.table c.frame k.whole.parts b.from given a.binds.sits q)
          has_bound (reads_with_this span args) (all_parameters c.frame.contract s) 0 a.lent back gives_back once)

      lending : AreLoans program.table d callee called (λ m. tests_of m callee.slots [])
          (waiting_here b.from.notes w waiting_frame) after (slot_loans b.loans)
      lending = loans_of_slots program.table d callee called (λ m. tests_of m callee.slots [])
          (waiting_here b.from.notes w waiting_frame) (with_result told result s.result) after
          (λ j. slots_left bf s told result s.result j) b.loans every_loan

      -- The caller waits.

      settled : (q : Location) → is_settled by_this waiting_frame q ≡ true → after q ≡ given q
      settled (field f) e = absurd (true≢false (settled_parts by_this waiting_frame (field f) e).2)
      settled (slot j) e =
          let parts = settled_parts by_this waiting_frame (slot j) e in
          slots_left bf s told result s.result j ∙ result_other told result s.result (slot j) parts.1
          ∙ backs_settled bf k.context given (reads_with_this span args) (all_parameters c.frame.contract s) 0 (slot j)
          (subst (λ ls. is_lent ls (slot j) ≡ false) a.loans (slots_lent b.loans j parts.0))

      held_on : (z : Option ℕ) → result ≡ z → (j : ℕ) → is_result z (slot j) ≡ false
          → with_slot_if z (held_as (kind_of_result (static_of bf) c.frame.contract tx)) k.holdings j ≡ k.holdings j
      held_on None i j e = refl
      held_on (Some m) i j e =
          ap (λ x. if x then held_as (kind_of_result (static_of bf) c.frame.contract tx) else k.holdings j) e

      result_kind : (of : ResolvedType) → s.result ≡ Some of
          → kind_of_result (static_of bf) c.frame.contract tx ≡ Some (kind_of_resolved of)
      result_kind of e = ap (option_and_then (λ (x : Signature). option_map kind_of_resolved x.result)) es
          ∙ ap (option_map kind_of_resolved) e

      result_held : (j : ℕ) (of : ResolvedType) → result ≡ Some j → s.result ≡ Some of
          → after_form (static_of bf) form k.holdings j ≡ held_as (Some (kind_of_resolved of))
      result_held j of i e =
          ap (λ z. with_slot_if z (held_as (kind_of_result (static_of bf) c.frame.contract tx)) k.holdings j) i
          ∙ ap (λ x. if x then held_as (kind_of_result (static_of bf) c.frame.contract tx) else k.holdings j)
          (eq-eqb j j refl)
          ∙ ap held_as (result_kind of e)

      awaits : AwaitsResult bf after waiting_frame result (gives_back_as callee called)
      awaits = awaits_result program.table is.table entry beginning c k b given nb binds waiting_frame refl same_outer
          (fields_left bf s told) result s.result takes formed.params few_result formed.references

      come_back : FieldsComeBack bf after called
      come_back f low = fields_come bf s told result s.result f low

      waiting : Waits program.table (NeedsOwner program.table w.objects) d callee called (self_of callee.slots ∷ [])
          (λ m. tests_of m callee.slots []) waiting_frame
      waiting = caller_waits program.table is.table entry beginning c k b given nb binds
          callee called body.terms rest outer result (slot_loans b.loans) w same_outer refl grows
          a.binds.stays.locked fewer (λ m none. all_owners m ∙ none) after
          (after_form (static_of bf) form k.holdings) settled (λ j e. held_on result refl j e) result_held remains
          (λ e. test_no_field outer can.untested) lending (λ e. lend_no_field b.loans)
          (a.binds.stays.this ∙ sym self_is) (λ e. come_back) (λ e. not_made) awaits (λ e. refl)

      waiting_parts : waiting.parts ≡ k.whole.parts
      unfolding waiting
      waiting_parts = caller_parts program.table is.table entry beginning c k b given nb binds
          callee called body.terms rest outer result (slot_loans b.loans) w same_outer refl grows
          a.binds.stays.locked fewer (λ m none. all_owners m ∙ none) after
          (after_form (static_of bf) form k.holdings) settled (λ j e. held_on result refl j e) result_held remains
          (λ e. test_no_field outer can.untested) lending (λ e. lend_no_field b.loans)
          (a.binds.stays.this ∙ sym self_is) (λ e. come_back) (λ e. not_made) awaits (λ e. refl)

      -- each owner that comes back is lent
      lends : Lends program.table c.frame.contract tx by_this waiting_frame
      lends = record {
        owners = λ own t ec et j p e out not_this. owner_lent own t ec et j p e out;
        made = λ e. absurd (no_new e);
      }
        where
          keeps : KeepsFields (reads_with_this span args) (all_parameters c.frame.contract s)
          keeps = (λ at_field wants. absurd (true≢false (sym at_field)), can.keeps)

          at_number : (j : ℕ) (p : Parameter) → slice_get (all_parameters c.frame.contract s) j ≡ Some p
              → owns (permission_of p.exit) ≡ true → has_lent (slot_loans b.loans) j ≡ true
          at_number j p e out = subst (λ ls. has_lent (slot_loans ls) j ≡ true) (sym a.loans)
              (subst (λ m. has_lent (slot_loans (lent_all program.table k.context (reads_with_this span args)
              (all_parameters c.frame.contract s) 0)) m ≡ true) (let z : 0 + j ≡ j = omega arith in z)
              (wanted_slot_lent program.table c k.whole.parts k.context (reads_with_this span args)
              (all_parameters c.frame.contract s) 0 j p all_passed keeps e
              (exit_owner_came program.table p (each_at (IsParameter program.table)
              (all_parameters c.frame.contract s) j p
              (all_are program.table c.frame.contract k.whole.parts.own s k.whole.frame.own transaction) e) out) out))

          owner_lent : (own : Contract) (t : Signature) → contract_at program.table c.frame.contract ≡ Some own
              → signature_at own tx ≡ Some t → (j : ℕ) (p : Parameter)
              → slice_get (all_parameters c.frame.contract t) j ≡ Some p
              → owns (permission_of p.exit) ≡ true → has_lent (slot_loans b.loans) j ≡ true
          owner_lent own t ec et j p e out =
              let same_own : own ≡ k.whole.parts.own = same_Some own k.whole.parts.own (sym ec ∙ k.whole.frame.own) in
              let same : t ≡ s = same_Some t s
              (sym et ∙ ap (λ (x : Contract). signature_at x tx) same_own ∙ own_signature) in
              at_number j p (subst (λ z. slice_get (all_parameters c.frame.contract z) j ≡ Some p) same e) out

      -- The callee runs.

      abbrev whole : Holds program.table entry beginning d
      whole = called_whole program.table is.table entry beginning c k b given nb binds
          callee body.terms rest outer result (slot_loans b.loans) w same_outer refl refl (λ m. refl) (λ m. refl) grows
          (λ m. ⊤) any_stays apart_stays
          called callee_frame
          (begins_stand program.table w.objects callee s (permission_of s.entry) (self_of c.frame.slots) begun)
          waiting waiting_parts entered_so entered_once

      abbrev called_frame : BodyFrame
      called_frame = body_of program.table callee called

      -- a field that is there is held as the call wants it
      fields_say : (j : ℕ) → available called_frame j (state_number (own_object (here d)).state) ≡ true
          → SaysOf (NeedsOwner program.table w.objects) (field_known called_frame j) (own_cell (here d) j)
      fields_say j at_callee =
          let same : self_of callee.slots ≡ self_of b.from.slots = self_is ∙ sym a.binds.stays.this in
          let there : available bf j (state_number (own_object b.from).state) ≡ true =
          subst (λ i. available bf j (state_number (nth_object w.objects i).state) ≡ true) same at_callee in
          let stayed : state_number (own_object b.from).state ≡ state_number (own_object (here c)).state =
          ap (λ i. state_number (nth_object b.from.world.objects i).state) a.binds.stays.this
          ∙ ap state_number (a.binds.stays.states (self_of c.frame.slots)) in
          let was : available bf j (state_number (own_object (here c)).state) ≡ true =
          subst (λ i. available bf j i ≡ true) stayed there in
          let x = field_is k.whole.parts.own (own_object (here c)).state j
          (sym (available_is bf j (own_object (here c)).state) ∙ was) in
          let low : j < field_count bf = below k.whole.parts.own.fields j x.0 x.1 in
          let maybe : maybe_there bf k.context j ≡ true =
          meets_from (possible_under bf (permission_at k.context this)) (available bf j)
          (state_number (own_object (here c)).state)
          (own_state_low program.table is.table c.frame k.whole.parts (here c) k.context
          (running_sits program.table is.table entry beginning c k))
          (state_possible program.table is.table c.frame k.whole.parts (here c) k.context
          (running_sits program.table is.table entry beginning c k)) was in
          let known_is : field_known called_frame j
          ≡ Some (known (kind_of_resolved x.0.of) (entry_of_field called_frame s j)) =
          beginning_field called_frame j x.0 x.1 plain_number in
          subst (λ y. SaysOf (NeedsOwner program.table w.objects) y (own_cell (here d) j)) (sym known_is)
          (subst (λ i. SaysOf (NeedsOwner program.table w.objects)
          (Some (known (kind_of_resolved x.0.of) (entry_of_field called_frame s j)))
          (field_cell b.from.notes w.objects i j)) (sym same)
          (held_says (NeedsOwner program.table w.objects) (given (field j)) (own_cell b.from j)
          (entry_of_field called_frame s j) (kind_of_resolved x.0.of) (declared_kind j x.0 x.1)
          (can.enters j low maybe) (a.binds.sits.says.fields j there refl)))
        where
          below : (fields : List Field) (j : ℕ) (x : Field) → slice_get fields j ≡ Some x → j < length fields
          below [] j x e = absurd (cc)
          below (f ∷ fields) zero x e = omega (arith)
          below (f ∷ fields) (suc j) x e = let low = below fields j x e in omega (arith, low)

          declared_kind : (j : ℕ) (x : Field) → slice_get k.whole.parts.own.fields j ≡ Some x → (z : Cell)
              → own_cell b.from j ≡ Some z → z.note.kind ≡ kind_of_resolved x.of
          declared_kind j x e z i =
              let r = kind_in_run program.table b.from.notes b.from.world.objects (self_of b.from.slots)
              a.binds.sits.object j z i in
              let own : a.binds.sits.object.own ≡ k.whole.parts.own =
              same_Some a.binds.sits.object.own k.whole.parts.own
              (sym a.binds.sits.object.contract
              ∙ ap (contract_at program.table) a.binds.sits.frame.contract ∙ k.whole.frame.own) in
              r.4 ∙ ap (λ (y : Field). kind_of_resolved y.of) (same_Some r.1 x
              (sym r.2 ∙ ap (λ (y : Contract). slice_get y.fields j) own ∙ e))

      -- where `this` is entered as Shared, the caller has a Shared one too
      entered_shared : permission_of s.entry ≡ shared → permission_in (b.from.slots 0) ≡ shared
      entered_shared e = mode_shared (permission_in (b.from.slots 0))
          (subst (λ p. same_mode p (permission_in (b.from.slots 0)) ≡ true)
          (first_shared k.context (record { location = this; span = span }) (reads_of args)
          (this_parameter c.frame.contract s) (parameters s) can.once e
          (known (Reference c.frame.contract) k.remains.itself.0) k.remains.itself.1)
          (a.binds.sits.says.mode refl))

      shares_now : SharesThis callee d 0
      shares_now e =
          let at_entry : permission_of s.entry ≡ shared = sym (ap permission_in first_slot) ∙ e in
          let caller = waiting.shares (entered_shared at_entry) in
          let same : self_of b.from.slots ≡ self_of callee.slots = a.binds.stays.this ∙ sym self_is in (
            subst (λ i. 0 < times i w.progress) same caller.0,
            ⊎_elim
                (λ none. inl (subst (λ i. owners i d ≤ 0) same none))
                (λ locked. inr (locked.0, subst (λ i. 0 < times i w.locked) same locked.1))
                caller.1,
          )

      callee_runs : IsRunning program.table entry beginning d
      callee_runs = record {
        whole = whole;
        terms = body.terms;
        outer = [];
        control = refl;
        context = beginning_context called_frame;
        says = begins_says program.table w.objects callee s (permission_of s.entry) (self_of c.frame.slots) begun
            (NeedsOwner program.table w.objects) (here d) called_frame refl refl refl
            (ap (λ (y : Known). y.permission) (this_of_transaction called_frame plain_number)) fields_say;
        holdings = held_at_start c.frame.contract s.params;
        held = begins_held program.table w.objects callee s (permission_of s.entry) (self_of c.frame.slots) begun;
        remains = body.remains;
        opens = tt;
        placed = λ ne. subst (λ i. HasItsState program.table (nth_object w.objects i))
            (a.binds.stays.this ∙ sym self_is) (a.binds.sits.placed not_made);
        shares = shares_now;
        owns_made = λ e. absurd (no_new e);
        unreferred = λ m some.
            let new = called_constructions program.table is.table entry beginning c k b given nb binds
            callee body.terms rest outer result (slot_loans b.loans) w same_outer refl refl (λ m. refl) (λ m. refl)
            grows (λ m. ⊤) any_stays apart_stays m in
            let old : 0 < constructions m c = omega (arith, some, new) in
            let refs = called_references program.table is.table entry beginning c k b given nb binds
            callee body.terms rest outer result (slot_loans b.loans) w same_outer refl refl (λ m. refl) (λ m. refl)
            grows (λ m. ⊤) any_stays apart_stays m in
            let kept = a.binds.refers m old in
            let was = running_references program.table is.table entry beginning c k m in
            let less = k.unreferred m old in
            omega (arith, refs, kept, was, less);
        lends = (lends, k.lends);
      }

      within : are_within program.table w.objects b.slots 0 (all_parameters c.frame.contract s) ≡ true
      within = are_all_within program.table w.objects b.slots 0 (all_parameters c.frame.contract s) a.bound

      entered : StepsSo program.table entry beginning
          (calls_this program (entered_with c (without_field_loans b) rest outer result w) c.frame tx s)
      entered = subst (StepsSo program.table entry beginning)
          (sym (call_this_enters program (entered_with c (without_field_loans b) rest outer result w) c.frame tx s
          body.terms within body.found))
          (running callee_runs)

    -- The step.

    after_unit : (b : Bound) (a : AllBound program.table c k.whole.parts k.context k.context (unbound (here c))
        (reads_with_this span args) (all_parameters c.frame.contract s) 0 b) (fuel : ℕ)
        → StepsSo program.table entry beginning (with_fuel_left fuel b.from.world
        (λ w. calls_this program (entered_with c (without_field_loans b) rest outer result w) c.frame tx s))
    after_unit b a zero = tt
    after_unit b a (suc fuel) = entered b a fuel

    signed_so : StepsSo program.table entry beginning
        (bind_all program.table (unbound (here c)) (this ∷ all_located args) 0 (all_parameters c.frame.contract s)
        (goes_on s))
    signed_so = subst (λ ls. StepsSo program.table entry beginning
        (bind_all program.table (unbound (here c)) (this ∷ ls) 0 (all_parameters c.frame.contract s)
        (goes_on s)))
        (sym (places_of_reads args))
        (bind_all_steps program.table is.table c k.whole.parts (tested_places outer)
        (running_one program.table is.table entry beginning c k)
        (running_placed program.table is.table entry beginning c k)
        (running_finished program.table is.table entry beginning c k)
        (StepsSo program.table entry beginning)
        (goes_on s)
        k.context (reads_with_this span args) (all_parameters c.frame.contract s) (unbound (here c)) k.context 0
        (running_binds program.table is.table entry beginning c k 0) (let most = few_params in omega (arith, most))
        (λ q. refl) (λ q. refl) can.gives all_passed once
        (λ b a. after_unit b a b.from.world.fuel))

  -- A call on `this` isn't stuck: it aborts, or the called body runs and the caller waits.
  pub call_this_steps : StepsSo program.table entry beginning (act program (call_this_form result tx args) rest outer c)
  call_this_steps =
      let s = some_is (signature_of program.table c.frame.contract tx) formed.numbers.0 in
      subst (λ z. StepsSo program.table entry beginning (if_there z (λ s.
      bind_all program.table (unbound (here c)) (this ∷ all_located args) 0 (all_parameters c.frame.contract s)
      (goes_on s))))
      (sym s.1) (signed_so s.0 s.1)
