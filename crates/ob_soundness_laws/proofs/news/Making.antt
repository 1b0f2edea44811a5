-- The step of a `new`.
use Rattle.std.proofs.Common.{◌≡◌, ◌≢◌, ℕ, zero, suc, ◌+◌, ◌<◌, ◌≤◌, true, false, List, [], ◌∷◌, length, Option, Some, None, Ok, refl, sym, ap, subst, ◌∙◌, arith, ⊎_elim, true≢false, eq-eqb}
use Rattle.std.specs.Prelude.{nat_le, slice_get, max, IsSome, if◌then◌else◌}
use Rattle.std.specs.Option.{option_and_then}
use Rattle.std.proofs.lemmas.Bool.{cases_Bool}
use Rattle.std.proofs.lemmas.List.{length-map}
use Rattle.std.proofs.lemmas.Option.{same_Some}
use Rattle.ob_base.specs.Limits.{most_slots, most_objects}
use Rattle.ob_base.specs.declared.fault.Span.{Span}
use Rattle.ob_base.specs.declared.id.ContractId.{ContractId}
use Rattle.ob_perm.specs.Permissions.{unowned, owns}
use Rattle.ob_perm.specs.Masks.{permission_of}
use Rattle.ob_table.specs.Tables.{contract_at, signature_at, signature_of}
use Rattle.ob_table.specs.declared.contract.Contract.{Contract}
use Rattle.ob_table.specs.declared.contract.ResolvedType.{ResolvedType}
use Rattle.ob_table.specs.declared.contract.ResolvedType.TheVariants.{Reference as TypedReference}
use Rattle.ob_table.specs.declared.contract.Signature.{Signature}
use Rattle.ob_table.specs.declared.seen.Kind.TheVariants.{Reference}
use Rattle.ob_table_spec.specs.Conditions.{IsConstructor}
use Rattle.ob_table_spec.specs.WellFormed.{kind_of_resolved, constructor_at}
use Rattle.ob_heap_spec.specs.Values.{reference}
use Rattle.ob_heap_spec.specs.Objects.{unfinished}
use Rattle.ob_heap_spec.specs.Worlds.{World, next_item, with_read, with_unit_taken, make_object, by_full}
use Rattle.ob_silica.specs.Terms.{SilicaForm, new_form, SilicaTerms, and_term}
use Rattle.ob_silica.specs.Slots.{slots_of_form, slots_of_result, slots_of_operands}
use Rattle.ob_silica.specs.declared.place.Operand.{Operand}
use Rattle.ob_silica_places.specs.Known.{at}
use Rattle.ob_silica_places.specs.Places.{Location, slot, all_located}
use Rattle.ob_silica_places.specs.Parameters.{Parameter, parameters, all_parameters, parameter_of}
use Rattle.ob_silica_steps.specs.Calling.{constructor_id, new_step, entered_with}
use Rattle.ob_silica_steps.specs.Cells.{Cell, cell}
use Rattle.ob_silica_steps.specs.Configurations.{SilicaProgram, SilicaFrame, by_new, Rest, Waiting, runs, Configuration, NextStep, goes, abort_step, stuck}
use Rattle.ob_silica_steps.specs.Here.{Here, here, self_of, if_there, with_unit, with_fuel_left}
use Rattle.ob_silica_steps.specs.Binding.{Bound, unbound, bind_all}
use Rattle.ob_silica_steps.specs.Entering.{are_within, enters, new_cell, entered_new, makes_object}
use Rattle.ob_silica_steps.specs.Steps.{act}
use Rattle.ob_silica_formed.specs.Holdings.{held as held_as, after_form}
use Rattle.ob_silica_formed.specs.Points.{ArePassed}
use Rattle.ob_flow_spec.specs.Contexts.{BodyFrame, Context, static_of}
use Rattle.ob_flow_spec.specs.Binding.{reads_of, given_all, passed}
use Rattle.ob_flow_spec.specs.Calling.{after_new}
use Rattle.ob_flow_spec.specs.Deriving.{derive, constructor}
use Rattle.ob_flow_laws.specs.Calling.{CanMake}
use Rattle.ob_places_laws.proofs.Passing.{parameters_are, exit_owner_came}
use Rattle.ob_places_laws.specs.Passing.{IsParameter}
use Rattle.ob_places_laws.proofs.Tables.{contract_is, has_constructor, signature_from, each_at, if_there_so}
use Rattle.ob_soundness_laws.proofs.remaining.Knowing.{KnowsIf, form_knows}
use Rattle.ob_soundness_laws.proofs.remaining.Remaining.{IsFirst, first_formed, first_slots, first_passes, rest_remains}
use Rattle.ob_coherent_spec.specs.Counting.{in_cell, in_handles, owners}
use Rattle.ob_coherent_spec.specs.Runs.{times, tested_places}
use Rattle.ob_coherent_spec.specs.Standing.{NeedsOwner}
use Rattle.ob_coherent_spec.specs.Remaining.{IsCheckedProgram, BodyParts, body_of, IsWellFormedForm, Remains}
use Rattle.ob_coherent_spec.specs.Waiting.{has_lent, is_lent, AreLoans, gives_back_as, AwaitsResult, is_settled, is_result, Lends, tests_of, waiting_here, Waits}
use Rattle.ob_coherent_spec.specs.Coherent.{Beginning, IsRunning, running, StepsSo}
use Rattle.ob_soundness_laws.proofs.tests.Unchanged.{remains_so}
use Rattle.ob_soundness_laws.proofs.counting.Entering.{this_more, some_slots}
use Rattle.ob_soundness_laws.proofs.counting.Numbers.{one_other}
use Rattle.ob_soundness_laws.proofs.counting.Sums.{at_other}
use Rattle.ob_soundness_laws.proofs.places.Alike.{reads_alike}
use Rattle.ob_soundness_laws.proofs.places.Finding.{sits_read}
use Rattle.ob_soundness_laws.specs.calls.Binds.{in_both, in_rest, Binds, lent_all, ArePassedTo, AreOnce, AllBound}
use Rattle.ob_soundness_laws.specs.calls.Lending.{AreBack, GiveBack, HasBound}
use Rattle.ob_soundness_laws.proofs.calls.After.{kinds_given, sets_given, result_other, settled_parts, backs_beside}
use Rattle.ob_soundness_laws.proofs.calls.Beginning.{Begins, begins_to_run}
use Rattle.ob_soundness_laws.proofs.calls.BindingAll.{are_once, bind_all_steps}
use Rattle.ob_soundness_laws.proofs.calls.Called.{left_waiting, called_on}
use Rattle.ob_soundness_laws.proofs.calls.Caller.{caller_waits, caller_parts, caller_context}
use Rattle.ob_soundness_laws.proofs.calls.Lending.{backs_settled, backs_are, all_loans, later_param}
use Rattle.ob_soundness_laws.proofs.calls.Passing.{places_of_reads, args_passed, wanted_lent, same_give_back}
use Rattle.ob_soundness_laws.proofs.calls.Running.{running_owners, running_one, running_placed, running_finished, running_binds}
use Rattle.ob_soundness_laws.proofs.calls.Untested.{awaits_result, result_plain}
use Rattle.ob_soundness_laws.proofs.calls.Within.{are_all_within}
use Rattle.ob_soundness_laws.proofs.news.Made.{made_frame, from_fields, made_owners}
use Rattle.ob_soundness_laws.proofs.news.Constructing.{constructor_runs}
use Rattle.ob_soundness_laws.proofs.frames.Near.{read_near}
use Rattle.ob_soundness_laws.proofs.news.Waited.{IsMadeBetween, between_near, low_ne, waits_made, waits_made_parts}

some_is : {A : Type 0} (o : Option A) → IsSome o → (x : A) × (o ≡ Some x)
some_is (Some x) h = (x, refl)
some_is None h = absurd (true≢false (sym h))

runs_outer : (terms others : SilicaTerms) (outer more : List Rest) → runs terms outer ≡ runs others more → outer ≡ more
runs_outer terms others outer more e = cc

first_of : (m n k : ℕ) → max m n ≤ k → m ≤ k
first_of m n k h = omega (arith, h)

second_of : (m n k : ℕ) → max m n ≤ k → n ≤ k
second_of m n k h = omega (arith, h)

-- the reference to an object that isn't made yet, before its constructor owns it
abbrev unmade_cell : ContractId → ℕ → Cell
unmade_cell contract n = cell (reference n) (Reference contract) unowned

module _ (program : SilicaProgram) (is : IsCheckedProgram program) (entry : Option ℕ) (beginning : Beginning) (c : Configuration)
    (k : IsRunning program.table entry beginning c) (to : ℕ) (contract : ContractId) (args : List Operand) (span : Span)
    (rest : SilicaTerms) (outer : List Rest) (so : c.control ≡ runs (and_term (new_form to contract args) span rest) outer) where
  abbrev bf : BodyFrame
  bf = body_of program.table c.frame k.whole.parts

  abbrev form : SilicaForm
  form = new_form to contract args

  same_outer : outer ≡ k.outer
  same_outer = runs_outer (and_term form span rest) k.terms outer k.outer (sym so ∙ k.control)

  left_so : Remains bf k.holdings k.context (and_term form span rest) outer
  left_so = remains_so program.table entry beginning c k (and_term form span rest) outer so

  formed : IsWellFormedForm (static_of bf) k.holdings form
  formed = first_formed bf k.holdings k.context form span rest outer left_so

  few : slots_of_form form ≤ k.whole.parts.slots
  few = first_slots bf k.holdings k.context form span rest outer left_so

  abbrev first : IsFirst bf k.context form span outer
  first = first_passes bf k.holdings k.context form span rest outer left_so

  few_result : slots_of_result (Some to) ≤ k.whole.parts.slots
  few_result = first_of (to + 1) (slots_of_operands args) k.whole.parts.slots few

  few_operands : slots_of_operands args ≤ k.whole.parts.slots
  few_operands = second_of (to + 1) (slots_of_operands args) k.whole.parts.slots few

  -- the context is left after it, and the rest from there
  rest_after : (j : Context) → first.mid ≡ Some j → Remains bf (after_form (static_of bf) form k.holdings) j rest outer
  rest_after j e = rest_remains bf k.holdings k.context j form span rest outer left_so
      (subst (λ m. derive bf (tested_places outer) form span k.context ≡ Ok m) e first.derives)
      (subst (KnowsIf bf) e (form_knows bf (tested_places outer) k.holdings form span k.context first.mid formed
      left_so.formed.forms.1 first.passes k.remains.itself))

  module _ (own : Contract) (ec : contract_at program.table contract ≡ Some own) (class : own.interface ≡ false)
      (s : Signature) (es : slice_get own.transactions 0 ≡ Some s) (makes : IsConstructor program.table own s) where
    signed : signature_of program.table contract constructor ≡ Some s
    signed = signature_from program.table contract constructor own ec ∙ es

    made_at : constructor_at program.table contract ≡ Some s
    made_at = ap (λ o. option_and_then (λ (x : Contract). if x.interface then None else slice_get x.transactions 0) o) ec
        ∙ ap (λ b. if b then None else slice_get own.transactions 0) class ∙ es

    can : CanMake bf (tested_places outer) k.context s args
    can = (first.passes.signed s signed).0

    abbrev given : Context
    given = given_all k.context (reads_of args) (parameters s)

    abbrev after : Context
    after = after_new bf k.context to contract s args

    remains : Remains bf (after_form (static_of bf) form k.holdings) after rest outer
    remains = rest_after after (first.passes.signed s signed).1

    abbrev body : Begins program contract constructor_id own s
    body = begins_to_run program is contract constructor_id own s ec class es

    all_passed : ArePassedTo program.table c k.whole.parts (reads_of args) (parameters s)
    all_passed = args_passed program.table is.table entry beginning c k s.params args few_operands formed.numbers.1
        (if_there_so (constructor_at program.table contract) (λ s. ArePassed (static_of bf) k.holdings s.params args) s made_at
        formed.kinds)

    few_params : suc (length (parameters s)) ≤ most_slots
    few_params = let most = body.few in let low = body.params in let same = length-map s.params parameter_of in
        omega (arith, most, low, same)

    once : AreOnce (reads_of args) (parameters s)
    once = are_once (reads_of args) (parameters s) can.once

    module _ (b : Bound) (a : AllBound program.table c k.whole.parts k.context k.context (unbound (here c)) (reads_of args)
        (parameters s) 1 b) (fuel : ℕ) where
      abbrev wr : World
      wr = with_read (with_unit_taken b.from.world fuel) next_item

      abbrev binds : Binds program.table c k.whole.parts b given (1 + length (parameters s))
      binds = a.binds

      unset : b.slots 0 ≡ None
      unset = a.before 0 (omega arith)

      past : 1 + length (parameters s) ≤ suc (length (parameters s))
      past = omega arith

      abbrev called : BodyParts
      called = record { own = own; signature = s; slots = body.slots }

      abbrev callee : SilicaFrame
      callee = made_frame b.slots contract (length wr.objects)

      -- the constructor's frame before the object is made
      abbrev unmade : SilicaFrame
      unmade = record callee { slots = at b.slots 0 (Some (unmade_cell contract (length wr.objects))) }

      abbrev h : Waiting
      h = left_waiting c b rest outer (Some to) b.loans

      abbrev d0 : Configuration
      d0 = called_on c b unmade body.terms rest outer (Some to) b.loans wr

      abbrev d : Configuration
      d = called_on c b callee body.terms rest outer (Some to) b.loans (make_object wr (unfinished contract))

      -- Owners.

      unmade_owners : (m : ℕ) → owners m d0 ≡ in_both owns m b + in_rest owns m c
      unmade_owners m =
          let one = this_more owns m b.slots (unmade_cell contract (length wr.objects)) unset some_slots in
          let none : in_cell owns m (Some (unmade_cell contract (length wr.objects))) ≡ 0 = refl in
          let three = ap (in_handles owns m) a.binds.stays.handles in
          omega (arith, one, none, three)

      unmade_fewer : (m : ℕ) → owners m d0 ≤ owners m c
      unmade_fewer m = let here = unmade_owners m in let was = running_owners program.table is.table entry beginning c k m in
          let less = a.binds.fewer m in omega (arith, here, was, less)

      balanced : (m : ℕ) → m < length wr.objects → owners m d + tests_of m unmade.slots [] ≤ owners m d0 + tests_of m callee.slots []
      balanced m low =
          let now = made_owners program.table is.table entry beginning c k b given (1 + length (parameters s)) binds unset contract own ec
          class body.terms rest outer (Some to) b.loans same_outer wr refl refl refl m in
          let was = unmade_owners m in
          let none = one_other (length wr.objects) m (λ e. omega (arith, e, low)) in
          omega (arith, now, was, none)

      -- Loans.

      has_bound : (x : Cell) → HasBound b.slots (at b.slots 0 (Some x))
      has_bound x = record { has = at_slot }
        where
          at_slot : (j : ℕ) (y : Cell) → b.slots j ≡ Some y
              → (z : Cell) × (at b.slots 0 (Some x) j ≡ Some z) × (z.value ≡ y.value)
              × (owns z.note.permission ≡ owns y.note.permission)
          at_slot zero y e = absurd (let z : None ≡ Some y = sym unset ∙ e in cc)
          at_slot (suc j) y e = (y, at_other b.slots 0 (Some x) (suc j) (λ z. omega (arith, z)) ∙ e, refl, refl)

      gives_back : GiveBack program.table (all_parameters contract s) k.context (reads_of args) (parameters s) 1
      gives_back = same_give_back program.table is.table (all_parameters contract s) k.context (reads_of args) (parameters s) 1
          (λ j p e. subst (λ m. slice_get (all_parameters contract s) m ≡ Some p) (let z : suc j ≡ 1 + j = omega arith in z) e)

      back : AreBack program.table k.context after (reads_of args) (parameters s)
      back = backs_beside program.table b.from.world.objects k.context (passed bf k.context (reads_of args) (parameters s)) b
          (Some to) (Some (TypedReference contract s.exit)) (reads_of args) (parameters s) 1 a.binds.bound
          (result_plain program.table is.table entry beginning c k b given (1 + length (parameters s)) binds (Some to)
          formed.references)
          a.lent
          (backs_are bf k.context given b (reads_of args) (parameters s) 1
          (kinds_given k.context (reads_of args) (parameters s))
          (sets_given k.context (reads_of args) (parameters s)) a.lent once)

      unmade_lending : AreLoans program.table d0 unmade called (λ m. tests_of m unmade.slots [])
          (waiting_here b.from.notes wr h) after b.loans
      unmade_lending = subst (AreLoans program.table d0 unmade called (λ m. tests_of m unmade.slots [])
          (waiting_here b.from.notes wr h) after) (sym a.loans)
          (all_loans program.table d0 unmade called (λ m. tests_of m unmade.slots [])
          (waiting_here b.from.notes wr h) k.context after b
          (λ q. reads_alike b.from wr refl program.table q
          ∙ sits_read program.table is.table c.frame k.whole.parts b.from given a.binds.sits q)
          (has_bound (unmade_cell contract (length wr.objects))) (reads_of args) (parameters s) 1 a.lent back gives_back once)

      between : IsMadeBetween program.table (unfinished contract) d0 d
      between = record {
        objects = refl;
        state = refl;
        notes = refl;
        locked = refl;
        progress = refl;
        fields = from_fields program.table is.table entry beginning c k b given (1 + length (parameters s)) binds unset contract own ec
            class body.terms rest outer (Some to) b.loans same_outer wr refl refl refl;
      }

      self_low : self_of b.from.slots < length wr.objects
      self_low = let there = k.whole.frame.there in let same = a.binds.stays.count in
          subst (λ i. i < length wr.objects) (sym a.binds.stays.this) (omega (arith, there, same))

      reads_made : (q : Location) → Rattle.ob_silica_steps.specs.Here.read program.table (waiting_here d.notes d.world h) q
          ≡ Rattle.ob_silica_steps.specs.Here.read program.table (waiting_here d0.notes d0.world h) q
      reads_made q = read_near program.table (length wr.objects) (λ m. m < length wr.objects)
          (NeedsOwner program.table d0.world.objects) (NeedsOwner program.table d.world.objects) d0 d
          (between_near program.table (unfinished contract) d0 d between) h q self_low
          (λ e. low_ne program.table (unfinished contract) d0 d between (self_of b.from.slots) self_low)

      lending : AreLoans program.table d callee called (λ m. tests_of m callee.slots [])
          (waiting_here d.notes d.world h) after b.loans
      lending = subst (AreLoans program.table d callee called (λ m. tests_of m callee.slots [])
          (waiting_here d.notes d.world h) after) (sym a.loans)
          (all_loans program.table d callee called (λ m. tests_of m callee.slots [])
          (waiting_here d.notes d.world h) k.context after b
          (λ q. reads_made q ∙ reads_alike b.from wr refl program.table q
          ∙ sits_read program.table is.table c.frame k.whole.parts b.from given a.binds.sits q)
          (has_bound (new_cell contract (length wr.objects))) (reads_of args) (parameters s) 1 a.lent back gives_back once)

      -- The caller.

      settled : (q : Location) → is_settled by_new h q ≡ true → after q ≡ given q
      settled q e =
          let parts = settled_parts by_new h q e in
          result_other (passed bf k.context (reads_of args) (parameters s)) (Some to) (Some (TypedReference contract s.exit)) q parts.1
          ∙ backs_settled bf k.context given (reads_of args) (parameters s) 1 q
          (subst (λ ls. is_lent ls q ≡ false) a.loans parts.0)

      held_on : (j : ℕ) → is_result (Some to) (slot j) ≡ false → after_form (static_of bf) form k.holdings j ≡ k.holdings j
      held_on j e = ap (λ x. if x then held_as (Some (Reference contract)) else k.holdings j) e

      result_held : (j : ℕ) (of : ResolvedType) → Some to ≡ Some j → Some (TypedReference contract s.exit) ≡ Some of
          → after_form (static_of bf) form k.holdings j ≡ held_as (Some (kind_of_resolved of))
      result_held j of i e =
          ap (λ x. if x then held_as (Some (Reference contract)) else k.holdings j)
          (eq-eqb j to (sym (same_Some to j i)))
          ∙ ap (λ t. held_as (Some (kind_of_resolved t))) (same_Some (TypedReference contract s.exit) of e)

      awaits : AwaitsResult bf after h (Some to) (gives_back_as unmade called)
      awaits = awaits_result program.table is.table entry beginning c k b given (1 + length (parameters s)) binds h refl same_outer
          (passed bf k.context (reads_of args) (parameters s)) (Some to) (Some (TypedReference contract s.exit)) refl formed.params
          few_result formed.references

      progress_same : (m : ℕ) → times m c.world.progress ≤ times m wr.progress
      progress_same m = let e = ap (times m) a.binds.stays.progress in omega (arith, e)

      apart : self_of b.from.slots ≢ length wr.objects
      apart e = let low = self_low in omega (arith, e, low)

      unmade_waiting : Waits program.table (NeedsOwner program.table wr.objects) d0 unmade called (self_of unmade.slots ∷ [])
          (λ m. tests_of m unmade.slots []) h
      unmade_waiting = caller_waits program.table is.table entry beginning c k b given (1 + length (parameters s)) binds
          unmade called body.terms rest outer (Some to) b.loans wr same_outer refl progress_same a.binds.stays.locked
          unmade_fewer (λ m none. unmade_owners m ∙ none) after (after_form (static_of bf) form k.holdings) settled held_on
          result_held remains (λ e. absurd (cc)) unmade_lending (λ e. absurd (cc)) (apart, tt) (λ e. absurd (cc))
          (λ e. absurd (cc)) awaits (λ e. absurd (cc))

      unmade_parts : unmade_waiting.parts ≡ k.whole.parts
      unfolding unmade_waiting
      unmade_parts = caller_parts program.table is.table entry beginning c k b given (1 + length (parameters s)) binds
          unmade called body.terms rest outer (Some to) b.loans wr same_outer refl progress_same a.binds.stays.locked
          unmade_fewer (λ m none. unmade_owners m ∙ none) after (after_form (static_of bf) form k.holdings) settled held_on
          result_held remains (λ e. absurd (cc)) unmade_lending (λ e. absurd (cc)) (apart, tt) (λ e. absurd (cc))
          (λ e. absurd (cc)) awaits (λ e. absurd (cc))

      unmade_context : unmade_waiting.context ≡ after
      unfolding unmade_waiting
      unmade_context = caller_context program.table is.table entry beginning c k b given (1 + length (parameters s)) binds
          unmade called body.terms rest outer (Some to) b.loans wr same_outer refl progress_same a.binds.stays.locked
          unmade_fewer (λ m none. unmade_owners m ∙ none) after (after_form (static_of bf) form k.holdings) settled held_on
          result_held remains (λ e. absurd (cc)) unmade_lending (λ e. absurd (cc)) (apart, tt) (λ e. absurd (cc))
          (λ e. absurd (cc)) awaits (λ e. absurd (cc))

      waiting : Waits program.table (NeedsOwner program.table d.world.objects) d callee called (self_of callee.slots ∷ [])
          (λ m. tests_of m callee.slots []) h
      waiting = waits_made program.table (unfinished contract) d0 d between unmade callee called (λ m. tests_of m unmade.slots [])
          (λ m. tests_of m callee.slots []) h refl refl refl refl balanced unmade_waiting after unmade_context lending

      waiting_parts : waiting.parts ≡ k.whole.parts
      unfolding waiting
      waiting_parts = waits_made_parts program.table (unfinished contract) d0 d between unmade callee called
          (λ m. tests_of m unmade.slots []) (λ m. tests_of m callee.slots []) h refl refl refl refl balanced unmade_waiting after
          unmade_context lending ∙ unmade_parts

      -- each owner that comes back is lent
      lends : Lends program.table contract constructor_id by_new h
      lends = record {
        owners = owner_lent;
        made = λ e. subst (λ ls. has_lent ls 0 ≡ false) (sym a.loans)
            (later_param program.table k.context (reads_of args) (parameters s) 1 0 (omega arith));
      }
        where
          at_number : (j : ℕ) (p : Parameter) → slice_get (all_parameters contract s) j ≡ Some p
              → owns (permission_of p.exit) ≡ true → j ≢ 0 → has_lent b.loans j ≡ true
          at_number zero p e out ne = absurd (ne refl)
          at_number (suc j) p e out ne = subst (λ ls. has_lent ls (suc j) ≡ true) (sym a.loans)
              (subst (λ m. has_lent (lent_all program.table k.context (reads_of args) (parameters s) 1) m ≡ true)
              (let z : 1 + j ≡ suc j = omega arith in z)
              (wanted_lent program.table c k.whole.parts k.context (reads_of args) (parameters s) 1 j p all_passed e
              (exit_owner_came program.table p (each_at (IsParameter program.table) (parameters s) j p
              (parameters_are program.table own s makes.signature) e) out)))

          owner_lent : (own2 : Contract) (s2 : Signature) → contract_at program.table contract ≡ Some own2
              → signature_at own2 constructor_id ≡ Some s2 → (j : ℕ) (p : Parameter)
              → slice_get (all_parameters contract s2) j ≡ Some p → owns (permission_of p.exit) ≡ true
              → (by_new ≡ by_new → j ≢ 0) → has_lent b.loans j ≡ true
          owner_lent own2 s2 e1 e2 j p e out ne =
              let same_own : own2 ≡ own = same_Some own2 own (sym e1 ∙ ec) in
              let same : s2 ≡ s = same_Some s2 s (sym e2 ∙ ap (λ (x : Contract). slice_get x.transactions 0) same_own ∙ es) in
              at_number j p (subst (λ z. slice_get (all_parameters contract z) j ≡ Some p) same e) out (ne refl)

      runs_now : IsRunning program.table entry beginning d
      runs_now = constructor_runs program is entry beginning c k b given (1 + length (parameters s)) binds unset contract own ec
          class s es makes past a.bound rest outer (Some to) b.loans same_outer wr refl refl refl waiting waiting_parts lends

      enters_so : are_within program.table wr.objects b.slots 1 (parameters s) ≡ true
      enters_so = are_all_within program.table wr.objects b.slots 1 (parameters s) a.bound

      -- there is a next number, or the run aborts
      made_so : StepsSo program.table entry beginning
          (makes_object program (entered_with c b rest outer (Some to) (with_unit_taken b.from.world fuel)) contract constructor_id s)
      made_so = ⊎_elim
          (λ full. subst (λ z. StepsSo program.table entry beginning (if z then abort_step by_full wr else room)) (sym full) tt)
          (λ some. subst (λ z. StepsSo program.table entry beginning (if z then abort_step by_full wr else room)) (sym some)
          (subst (λ z. StepsSo program.table entry beginning (if z then into else stuck)) (sym enters_so)
          (subst (λ z. StepsSo program.table entry beginning (if_there z (λ (terms : SilicaTerms). goes (record {
            frame = callee;
            control = runs terms [];
            stack = h ∷ c.stack;
            notes = b.from.notes;
            world = make_object wr (unfinished contract);
          })))) (sym body.found) (running runs_now))))
          (cases_Bool (nat_le most_objects (length b.from.world.objects)))
        where
          into : NextStep
          into = enters program (entered_new (record (entered_with c b rest outer (Some to) (with_unit_taken b.from.world fuel)) {
            world = wr;
          }) contract) contract constructor_id by_new false

          room : NextStep
          room = if are_within program.table wr.objects b.slots 1 (parameters s) then into else stuck

    -- The step.

    after_unit : (b : Bound) (a : AllBound program.table c k.whole.parts k.context k.context (unbound (here c)) (reads_of args)
        (parameters s) 1 b) (fuel : ℕ) → StepsSo program.table entry beginning (with_fuel_left fuel b.from.world
        (λ w. makes_object program (entered_with c b rest outer (Some to) w) contract constructor_id s))
    after_unit b a zero = tt
    after_unit b a (suc fuel) = made_so b a fuel

    bound_so : StepsSo program.table entry beginning
        (bind_all program.table (unbound (here c)) (all_located args) 1 (parameters s)
        (λ b. with_unit b.from.world (λ w. makes_object program (entered_with c b rest outer (Some to) w) contract constructor_id s)))
    bound_so = subst (λ ls. StepsSo program.table entry beginning
        (bind_all program.table (unbound (here c)) ls 1 (parameters s)
        (λ b. with_unit b.from.world (λ w. makes_object program (entered_with c b rest outer (Some to) w) contract constructor_id s))))
        (sym (places_of_reads args))
        (bind_all_steps program.table is.table c k.whole.parts (tested_places outer)
        (running_one program.table is.table entry beginning c k) (running_placed program.table is.table entry beginning c k)
        (running_finished program.table is.table entry beginning c k)
        (StepsSo program.table entry beginning)
        (λ b. with_unit b.from.world (λ w. makes_object program (entered_with c b rest outer (Some to) w) contract constructor_id s))
        k.context (reads_of args) (parameters s) (unbound (here c)) k.context 1
        (running_binds program.table is.table entry beginning c k 1) (let most = few_params in omega (arith, most))
        (λ q. refl) (λ q. refl) can.gives all_passed once
        (λ b a. after_unit b a b.from.world.fuel))

    signed_so : StepsSo program.table entry beginning (new_step program to contract (all_located args) rest outer c)
    signed_so = subst (λ z. StepsSo program.table entry beginning (if_there z (λ s.
        bind_all program.table (unbound (here c)) (all_located args) 1 (parameters s)
        (λ b. with_unit b.from.world (λ w. makes_object program (entered_with c b rest outer (Some to) w) contract constructor_id s)))))
        (sym made_at) bound_so

  -- A `new` isn't stuck: it aborts, or the constructor runs and the caller waits.
  pub new_steps : StepsSo program.table entry beginning (act program (new_form to contract args) rest outer c)
  new_steps =
      let own = some_is (contract_at program.table contract) formed.numbers.0 in
      let class : own.0.interface ≡ false =
      if_there_so (contract_at program.table contract) (λ (x : Contract). x.interface ≡ false) own.0 own.1 formed.bodies in
      let made = has_constructor program.table own.0 (contract_is program.table is.table contract own.0 own.1) class in
      signed_so own.0 own.1 class made.0 made.1 made.2
