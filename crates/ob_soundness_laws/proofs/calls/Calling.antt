-- The step of a call of another object.
use Rattle.std.proofs.Common.{◌≡◌, ◌≢◌, ℕ, zero, suc, ◌+◌, ◌≤◌, true, false, List, [], ◌∷◌, length, Option, Some, None, Ok, refl, sym, ap, subst, ◌∙◌, arith, ⊎_elim, true≢false, eq-eqb}
use Rattle.std.specs.Prelude.{slice_get, max, option_map, is_some, IsSome, if◌then◌else◌}
use Rattle.std.specs.Option.{option_and_then}
use Rattle.std.proofs.lemmas.Bool.{cases_Bool, both_ways}
use Rattle.std.proofs.lemmas.List.{length-map}
use Rattle.std.proofs.lemmas.Option.{same_Some}
use Rattle.ob_base.specs.Limits.{most_slots}
use Rattle.ob_base.specs.declared.fault.Span.{Span}
use Rattle.ob_base.specs.declared.id.ContractId.{ContractId}
use Rattle.ob_base.specs.declared.id.TxId.{TxId}
use Rattle.ob_perm.specs.Permissions.{owns}
use Rattle.ob_perm.specs.Masks.{permission_of}
use Rattle.ob_table.specs.Tables.{contract_at, signature_at, signature_of}
use Rattle.ob_table.specs.declared.contract.Contract.{Contract}
use Rattle.ob_table.specs.declared.contract.ResolvedType.{ResolvedType}
use Rattle.ob_table.specs.declared.contract.ResolvedType.TheVariants.{Reference as TypedReference}
use Rattle.ob_table.specs.declared.contract.Signature.{Signature}
use Rattle.ob_table.specs.declared.seen.Kind.TheVariants.{Reference}
use Rattle.ob_table_spec.specs.WellFormed.{kind_of_resolved, serves_as}
use Rattle.ob_heap_spec.specs.Values.{reference, referred}
use Rattle.ob_heap_spec.specs.Objects.{Object}
use Rattle.ob_heap_spec.specs.Worlds.{World, read_object, with_unit_taken}
use Rattle.ob_heap_spec.specs.Marks.{is_in_progress, enter}
use Rattle.ob_silica.specs.Terms.{SilicaForm, call_form, SilicaTerms, and_term}
use Rattle.ob_silica.specs.Slots.{slots_of_form, slots_of_result, slots_of_operand, slots_of_operands}
use Rattle.ob_silica.specs.declared.place.Operand.{Operand}
use Rattle.ob_silica_places.specs.Places.{Location, slot, located, all_located}
use Rattle.ob_silica_places.specs.Parameters.{Parameter, parameters, this_parameter, all_parameters, parameter_of}
use Rattle.ob_silica_places.specs.Converting.{converted}
use Rattle.ob_silica_places.specs.Known.{at}
use Rattle.ob_silica_steps.specs.Cells.{Cell}
use Rattle.ob_silica_steps.specs.Configurations.{SilicaProgram, by_receiver, Rest, runs, Configuration, SilicaFrame}
use Rattle.ob_silica_steps.specs.Here.{here, self_of, read, if_there, with_unit, with_fuel_left}
use Rattle.ob_silica_steps.specs.Binding.{Bound, unbound, bound_cell, bind_all}
use Rattle.ob_silica_steps.specs.Calling.{entered_with}
use Rattle.ob_silica_steps.specs.Entering.{this_cell, calls_object}
use Rattle.ob_silica_steps.specs.Steps.{act}
use Rattle.ob_silica_formed.specs.Holdings.{held as held_as, after_form, kind_of_result, with_slot_if}
use Rattle.ob_flow_spec.specs.Contexts.{BodyFrame, Context, static_of}
use Rattle.ob_flow_spec.specs.Uses.{Read, kind_known}
use Rattle.ob_flow_spec.specs.Binding.{wants_owner, reads_of, given_all, passed}
use Rattle.ob_flow_spec.specs.Calling.{all_reads, after_call}
use Rattle.ob_flow_spec.specs.Deriving.{derive}
use Rattle.ob_flow_laws.specs.Calling.{CanCall}
use Rattle.ob_places_laws.specs.Answering.{HasAnswer}
use Rattle.ob_places_laws.proofs.Conversions.{serves_itself, converted_same}
use Rattle.ob_places_laws.proofs.Dispatch.{has_answer, answer_entry_mode, answer_parameters, transaction_as_came}
use Rattle.ob_places_laws.proofs.Passing.{all_are, exit_owner_came}
use Rattle.ob_places_laws.specs.Passing.{IsParameter}
use Rattle.ob_places_laws.proofs.Permissions.{same_mode_owns}
use Rattle.ob_places_laws.proofs.Tables.{each_at, if_there_so}
use Rattle.ob_soundness_laws.proofs.remaining.Knowing.{KnowsIf, form_knows}
use Rattle.ob_soundness_laws.proofs.remaining.Remaining.{IsFirst, first_formed, first_slots, first_passes, rest_remains}
use Rattle.ob_coherent_spec.specs.Counting.{nth_object, owners, any, in_slots}
use Rattle.ob_coherent_spec.specs.Runs.{times, constructions, tested_places}
use Rattle.ob_coherent_spec.specs.Standing.{IsOfKind, Stands, NeedsOwner}
use Rattle.ob_coherent_spec.specs.Remaining.{IsCheckedProgram, BodyParts, body_of, IsWellFormedForm, Remains, IsPlaceIn}
use Rattle.ob_coherent_spec.specs.Waiting.{has_lent, Serves, AreLoans, gives_back_as, AwaitsResult, is_settled, is_result, Lends, tests_of, waiting_here, Waits, is_lent}
use Rattle.ob_coherent_spec.specs.Coherent.{Beginning, IsRunning, running, StepsSo}
use Rattle.ob_soundness_laws.proofs.tests.Operands.{place_inside}
use Rattle.ob_soundness_laws.proofs.tests.Unchanged.{remains_so}
use Rattle.ob_soundness_laws.specs.places.Placed.{cell_at, Found}
use Rattle.ob_soundness_laws.proofs.places.Alike.{reads_alike}
use Rattle.ob_soundness_laws.proofs.places.Finding.{found_at, found_read, found_stands, sits_read}
use Rattle.ob_soundness_laws.proofs.counting.Objects.{object_there}
use Rattle.ob_soundness_laws.proofs.counting.Marking.{read_objects, read_keeps}
use Rattle.ob_soundness_laws.proofs.places.Standing.{refers_is}
use Rattle.ob_soundness_laws.specs.calls.Binds.{in_both, in_rest, Binds, lent_all, ArePassedTo, AllBound, AreOnce}
use Rattle.ob_soundness_laws.specs.calls.Lending.{AreBack, GiveBack, HasBound}
use Rattle.ob_soundness_laws.proofs.calls.After.{kinds_given, sets_given, result_other, settled_parts, backs_beside}
use Rattle.ob_soundness_laws.proofs.calls.Beginning.{Begins, begins_to_run}
use Rattle.ob_soundness_laws.proofs.calls.BindingAll.{are_once, bind_all_steps}
use Rattle.ob_soundness_laws.proofs.calls.Called.{left_waiting, called_on, called_owners, called_fewer}
use Rattle.ob_soundness_laws.proofs.calls.Caller.{caller_waits, caller_parts}
use Rattle.ob_soundness_laws.proofs.calls.Lending.{backs_settled, backs_are, all_loans, answer_serves}
use Rattle.ob_soundness_laws.proofs.calls.Passing.{first_of, second_of, places_of_reads, operand_kind, args_passed, wanted_lent, same_give_back}
use Rattle.ob_soundness_laws.proofs.calls.Receiving.{callee as entered_frame, called as entered_body, begins, within, bound_owners, bound_references, progress_grows, each_apart, caller_apart, apart_stays, receiver_runs}
use Rattle.ob_soundness_laws.proofs.calls.Running.{zero_or_more, running_sits, running_one, running_placed, running_finished, running_binds}
use Rattle.ob_soundness_laws.proofs.calls.Stepping.{call_enters, call_aborts}
use Rattle.ob_soundness_laws.proofs.calls.Untested.{awaits_result, result_plain}
use Rattle.ob_soundness_laws.proofs.counting.Sums.{at_same, at_other}
use Rattle.ob_silica_formed.specs.Points.{ArePassed}

some_is : {A : Type 0} (o : Option A) → IsSome o → (x : A) × (o ≡ Some x)
some_is (Some x) h = (x, refl)
some_is None h = absurd (true≢false (sym h))

runs_outer : (terms others : SilicaTerms) (outer more : List Rest) → runs terms outer ≡ runs others more → outer ≡ more
runs_outer terms others outer more e = cc

module _ (program : SilicaProgram) (is : IsCheckedProgram program) (entry : Option ℕ) (beginning : Beginning)
    (c : Configuration)
    (k : IsRunning program.table entry beginning c) (result : Option ℕ) (receiver : Operand) (contract : ContractId)
    (tx : TxId)
    (args : List Operand) (span : Span) (rest : SilicaTerms) (outer : List Rest)
    (so : c.control ≡ runs (and_term (call_form result receiver contract tx args) span rest) outer) where
  abbrev bf : BodyFrame
  bf = body_of program.table c.frame k.whole.parts

  abbrev form : SilicaForm
  form = call_form result receiver contract tx args

  same_outer : outer ≡ k.outer
  same_outer = runs_outer (and_term form span rest) k.terms outer k.outer (sym so ∙ k.control)

  left_so : Remains bf k.holdings k.context (and_term form span rest) outer
  left_so = remains_so program.table entry beginning c k (and_term form span rest) outer so

  formed : IsWellFormedForm (static_of bf) k.holdings form
  formed = first_formed bf k.holdings k.context form span rest outer left_so

  few : slots_of_form form ≤ k.whole.parts.slots
  few = first_slots bf k.holdings k.context form span rest outer left_so

  abbrev first : IsFirst bf k.context form span outer
  first = first_passes bf k.holdings k.context form span rest outer left_so

  few_result : slots_of_result result ≤ k.whole.parts.slots
  few_result = first_of (slots_of_result result)
      (max (slots_of_operand receiver) (slots_of_operands args)) k.whole.parts.slots few

  few_operands : max (slots_of_operand receiver) (slots_of_operands args) ≤ k.whole.parts.slots
  few_operands = second_of (slots_of_result result)
      (max (slots_of_operand receiver) (slots_of_operands args)) k.whole.parts.slots few

  -- the context is left after it, and the rest from there
  rest_after : (j : Context) → first.mid ≡ Some j → Remains bf (after_form (static_of bf) form k.holdings) j rest outer
  rest_after j e = rest_remains bf k.holdings k.context j form span rest outer left_so
      (subst (λ m. derive bf (tested_places outer) form span k.context ≡ Ok m) e first.derives)
      (subst (KnowsIf bf) e (form_knows bf (tested_places outer) k.holdings form span k.context first.mid formed
      left_so.formed.forms.1 first.passes k.remains.itself))

  module _ (s : Signature) (es : signature_of program.table contract tx ≡ Some s) where
    can : CanCall bf (tested_places outer) k.context receiver contract s args
    can = (first.passes.signed s es).0

    abbrev rs : List Read
    rs = all_reads receiver args

    abbrev ps : List Parameter
    ps = all_parameters contract s

    abbrev given : Context
    given = given_all k.context (all_reads receiver args) (all_parameters contract s)

    abbrev after : Context
    after = after_call bf k.context result receiver contract s args

    remains : Remains bf (after_form (static_of bf) form k.holdings) after rest outer
    remains = rest_after after (first.passes.signed s es).1

    -- The receiver.

    u : Found (NeedsOwner program.table c.world.objects) (k.context (located receiver))
        (cell_at (here c) (located receiver))
    u = found_at program.table is.table c.frame k.whole.parts (here c) k.context
        (running_sits program.table is.table entry beginning c k) (located receiver) can.usable.readable

    kind_u : u.cell.note.kind ≡ Reference contract
    kind_u = operand_kind program.table is.table entry beginning c k receiver
        (Reference contract) u.cell formed.kinds.0 u.is

    kind_is : kind_known (k.context (located receiver)) ≡ Reference contract
    kind_is = ap kind_known u.told ∙ sym u.kind ∙ kind_u

    stands_u : Stands program.table c.world.objects u.cell
    stands_u = found_stands program.table is.table c.frame k.whole.parts (here c) k.context
        (running_sits program.table is.table entry beginning c k) (located receiver) u

    of_kind : IsOfKind program.table c.world.objects (Reference contract) u.cell.value
    of_kind = subst (λ z. IsOfKind program.table c.world.objects z u.cell.value) kind_u stands_u.kind

    refers : (n : ℕ) × (u.cell.value ≡ reference n)
    refers = refers_is program.table c.world.objects contract u.cell.value of_kind

    inside : IsPlaceIn bf (located receiver)
    inside = place_inside bf receiver.place
        (first_of (slots_of_operand receiver)
        (slots_of_operands args) k.whole.parts.slots few_operands) formed.numbers.1

    all_passed : ArePassedTo program.table c k.whole.parts (all_reads receiver args) (all_parameters contract s)
    all_passed = (
      inside,
      λ x e. subst (λ z. serves_as program.table (Reference contract) z ≡ true)
          (sym (operand_kind program.table is.table entry beginning c k receiver
          (Reference contract) x formed.kinds.0 e))
          (serves_itself program.table (Reference contract)),
      args_passed program.table is.table entry beginning c k s.params args
          (second_of (slots_of_operand receiver)
          (slots_of_operands args) k.whole.parts.slots few_operands) formed.numbers.2
          (if_there_so (signature_of program.table contract tx)
          (λ s. ArePassed
          (static_of bf) k.holdings s.params args) s es formed.kinds.1),
    )

    public : s.private ≡ false
    public = if_there_so (signature_of program.table contract tx) (λ s. s.private ≡ false) s es formed.bodies.0

    takes : is_some result ≡ is_some s.result
    takes = if_there_so (signature_of program.table contract tx)
        (λ s. is_some result ≡ is_some s.result) s es formed.results

    module _ (n : ℕ) (refers_n : u.cell.value ≡ reference n) where
      of_object : IsOfKind program.table c.world.objects (Reference contract) (reference n)
      of_object = subst (IsOfKind program.table c.world.objects (Reference contract)) refers_n of_kind

      not_new : constructions n c ≡ 0
      not_new = ⊎_elim (λ none. none)
          (λ some. absurd (running_finished program.table is.table entry beginning c k (located receiver) u.cell inside
          can.usable.spares_this u.is n some refers_n))
          (zero_or_more (constructions n c))

      answered : (o : Object) → o.contract ≡ (nth_object c.world.objects n).contract → (own : Contract)
          → contract_at program.table o.contract ≡ Some own → own.interface ≡ false
          → HasAnswer program.table contract o.contract own tx s
      answered o same own ec class = has_answer program.table is.table contract o.contract tx s own ec class es
          formed.bodies.1
          (subst (λ z. serves_as program.table (Reference contract) (Reference z) ≡ true) (sym same) of_object.1)

      few_params : suc (length (parameters s)) ≤ most_slots
      few_params =
          let r = k.whole.objects n of_object.0 in
          let a = answered (nth_object c.world.objects n) refl r.own r.contract r.class in
          let b = begins_to_run program is
          (nth_object c.world.objects n).contract a.number r.own a.signature r.contract r.class a.there in
          let few = b.few in
          let low = b.params in
          let same : length (parameters s) ≡ length a.signature.params =
          ap (λ (qs : List Parameter). length qs)
          (sym (answer_parameters program.table contract
          (nth_object c.world.objects n).contract s a.signature a.answers))
          ∙ length-map a.signature.params parameter_of in
          omega (arith, few, low, same)

      -- What is bound.

      module _ (b : Bound) (a : AllBound program.table c k.whole.parts k.context k.context (unbound (here c))
          (all_reads receiver args) (all_parameters contract s) 0 b) (fuel : ℕ)
          (idle : is_in_progress (read_object (with_unit_taken b.from.world fuel) n) n ≡ false) where
        abbrev wr : World
        wr = read_object (with_unit_taken b.from.world fuel) n

        objects : wr.objects ≡ b.from.world.objects
        objects = read_objects (with_unit_taken b.from.world fuel) n

        locked : wr.locked ≡ b.from.world.locked
        locked = (read_keeps (with_unit_taken b.from.world fuel) n).locked

        progress : wr.progress ≡ b.from.world.progress
        progress = (read_keeps (with_unit_taken b.from.world fuel) n).progress

        binds : Binds program.table c k.whole.parts b given (0 + length (all_parameters contract s))
        binds = a.binds

        contract_same : (nth_object wr.objects n).contract ≡ (nth_object c.world.objects n).contract
        contract_same = ap (λ os. (nth_object os n).contract) objects ∙ a.binds.stays.contracts n

        own : Contract
        own = (k.whole.objects n of_object.0).own

        ec : contract_at program.table (nth_object wr.objects n).contract ≡ Some own
        unfolding own
        ec = ap (contract_at program.table) contract_same ∙ (k.whole.objects n of_object.0).contract

        class : own.interface ≡ false
        unfolding own
        class = (k.whole.objects n of_object.0).class

        ans : HasAnswer program.table contract (nth_object wr.objects n).contract own tx s
        ans = answered (nth_object wr.objects n) contract_same own ec class

        serves : serves_as program.table (Reference contract) (Reference (nth_object wr.objects n).contract) ≡ true
        serves = subst (λ z. serves_as program.table (Reference contract) (Reference z) ≡ true)
            (sym contract_same) of_object.1

        first_slot : b.slots 0 ≡ Some (bound_cell (TypedReference contract s.entry) (reference n))
        first_slot = a.first u.cell u.is ∙ ap (λ v. Some (bound_cell (TypedReference contract s.entry) v)) refers_n

        past : 0 + length (all_parameters contract s) ≤ suc (length (parameters s))
        past = omega arith

        abbrev body : Begins program (nth_object wr.objects n).contract ans.number own ans.signature
        body = begins program is entry beginning c k contract tx s own b given
            (0 + length (all_parameters contract s)) binds past n
            of_object.0 first_slot a.bound wr objects locked progress idle not_new ec class serves ans public rest
            outer result
            b.loans same_outer

        abbrev callee : SilicaFrame
        callee = entered_frame program is entry beginning c k contract tx s
            own b given
            (0 + length (all_parameters contract s)) binds past n
            of_object.0 first_slot a.bound wr objects locked progress idle not_new ec class serves ans public rest
            outer result
            b.loans same_outer

        abbrev called : BodyParts
        called = entered_body program is entry beginning c k contract tx s
            own b given
            (0 + length (all_parameters contract s)) binds past n
            of_object.0 first_slot a.bound wr objects locked progress idle not_new ec class serves ans public rest
            outer result
            b.loans same_outer

        abbrev d : Configuration
        d = called_on c b callee body.terms rest outer result b.loans (enter n wr)

        owners_grow : (m : ℕ) → in_slots owns m callee.slots
            ≡ in_slots owns m b.slots
        owners_grow = bound_owners program is entry beginning c k contract tx s own b given
            (0 + length (all_parameters contract s)) binds past n
            of_object.0 first_slot a.bound wr objects locked progress idle not_new ec class serves ans public rest
            outer result
            b.loans same_outer

        references_grow : (m : ℕ) → in_slots
            any m callee.slots
            ≡ in_slots any m b.slots
        references_grow = bound_references program is entry beginning c k contract tx s own b given
            (0 + length (all_parameters contract s)) binds past n
            of_object.0 first_slot a.bound wr objects locked progress idle not_new ec class serves ans public rest
            outer result
            b.loans same_outer

        grows : (m : ℕ) → times m c.world.progress ≤ times m (enter n wr).progress
        grows = progress_grows program is entry beginning c k contract tx s own b given
            (0 + length (all_parameters contract s)) binds past n
            of_object.0 first_slot a.bound wr objects locked progress idle not_new ec class serves ans public rest
            outer result
            b.loans same_outer

        apart : self_of b.from.slots ≢ self_of callee.slots
        apart = caller_apart program is entry beginning c k contract tx s own b given
            (0 + length (all_parameters contract s)) binds past n
            of_object.0 first_slot a.bound wr objects locked progress idle not_new ec class serves ans public rest
            outer result
            b.loans same_outer

        all_owners : (m : ℕ) → owners m d ≡ in_both owns m b + in_rest owns m c
        all_owners = called_owners program.table is.table entry beginning c k b given
            (0 + length (all_parameters contract s)) binds
            callee body.terms rest outer result b.loans
            (enter n wr) same_outer objects locked owners_grow references_grow grows
            (λ m. m ≢ n)
            (each_apart program is entry beginning c k contract tx s own b given
            (0 + length (all_parameters contract s)) binds past n
            of_object.0 first_slot a.bound wr objects locked progress idle not_new ec class serves ans public rest
            outer result
            b.loans same_outer)
            (apart_stays program is entry beginning c k contract tx s own b given
            (0 + length (all_parameters contract s)) binds past n
            of_object.0 first_slot a.bound wr objects locked progress idle not_new ec class serves ans public rest
            outer result
            b.loans same_outer)

        fewer : (m : ℕ) → owners m d ≤ owners m c
        fewer = called_fewer program.table is.table entry beginning c k b given
            (0 + length (all_parameters contract s)) binds
            callee body.terms rest outer result b.loans
            (enter n wr) same_outer objects locked owners_grow references_grow grows
            (λ m. m ≢ n)
            (each_apart program is entry beginning c k contract tx s own b given
            (0 + length (all_parameters contract s)) binds past n
            of_object.0 first_slot a.bound wr objects locked progress idle not_new ec class serves ans public rest
            outer result
            b.loans same_outer)
            (apart_stays program is entry beginning c k contract tx s own b given
            (0 + length (all_parameters contract s)) binds past n
            of_object.0 first_slot a.bound wr objects locked progress idle not_new ec class serves ans public rest
            outer result
            b.loans same_outer)

        -- Loans.

        has_bound : HasBound b.slots callee.slots
        has_bound = record { has = at_slot }
          where
            at_slot : (j : ℕ) (x : Cell) → b.slots j ≡ Some x
                → (y : Cell) × (at b.slots 0
                (Some (this_cell (nth_object wr.objects n).contract ans.signature.entry n)) j ≡ Some y)
                × (y.value ≡ x.value) × (owns y.note.permission ≡ owns x.note.permission)
            at_slot zero x e =
                let same : bound_cell (TypedReference contract s.entry) (reference n) ≡ x = same_Some _ x
                (sym first_slot ∙ e) in (
                  this_cell (nth_object wr.objects n).contract ans.signature.entry n,
                  at_same b.slots 0
                      (Some (this_cell (nth_object wr.objects n).contract ans.signature.entry n)),
                  ap (λ (z : Cell). z.value) same,
                  same_mode_owns (permission_of ans.signature.entry) (permission_of s.entry)
                      (answer_entry_mode program.table contract
                      (nth_object wr.objects n).contract s ans.signature ans.answers)
                      ∙ ap (λ (z : Cell). owns z.note.permission) same,
                )
            at_slot (suc j) x e = (
              x,
              at_other b.slots 0
                  (Some (this_cell (nth_object wr.objects n).contract ans.signature.entry n)) (suc j)
                  (λ z. omega (arith, z)) ∙ e,
              refl,
              refl,
            )

        same_parameters : parameters ans.signature ≡ parameters s
        same_parameters = answer_parameters program.table contract
            (nth_object wr.objects n).contract s ans.signature ans.answers

        gives_back : GiveBack program.table (all_parameters (nth_object wr.objects n).contract ans.signature) k.context
            (all_reads receiver args) (all_parameters contract s) 0
        gives_back = (
          λ wants. record {
            parameter = this_parameter (nth_object wr.objects n).contract ans.signature;
            is = refl;
            serves = subst (λ z. Serves program.table (Reference (nth_object wr.objects n).contract)
                (permission_of ans.signature.exit)
                z (converted program.table (Reference contract) z (permission_of s.exit))) (sym kind_is)
                (subst (Serves program.table (Reference (nth_object wr.objects n).contract)
                (permission_of ans.signature.exit) (Reference contract))
                (sym (converted_same program.table (Reference contract) (permission_of s.exit)))
                (answer_serves program.table is.table contract (nth_object wr.objects n).contract own
                (permission_of s.exit)
                (permission_of ans.signature.exit) ec class ans.answers.exit));
          },
          same_give_back program.table is.table
              (all_parameters (nth_object wr.objects n).contract ans.signature) k.context
              (reads_of args) (parameters s) 1
              (λ j p e. subst (λ m. slice_get
              (all_parameters (nth_object wr.objects n).contract ans.signature) m ≡ Some p)
              (let z : suc j ≡ 1 + j = omega arith in z)
              (subst (λ (qs : List Parameter). slice_get qs j ≡ Some p) (sym same_parameters) e)),
        )

        once : AreOnce (all_reads receiver args) (all_parameters contract s)
        once = are_once (all_reads receiver args) (all_parameters contract s) can.once

        back : AreBack program.table k.context after (all_reads receiver args) (all_parameters contract s)
        back = backs_beside program.table b.from.world.objects k.context
            (passed bf k.context (all_reads receiver args) (all_parameters contract s)) b
            result s.result (all_reads receiver args) (all_parameters contract s) 0 a.binds.bound
            (result_plain program.table is.table entry beginning c k b given
            (0 + length (all_parameters contract s)) binds result
            formed.references)
            a.lent
            (backs_are bf k.context given b (all_reads receiver args) (all_parameters contract s) 0
            (kinds_given k.context (all_reads receiver args) (all_parameters contract s))
            (sets_given k.context (all_reads receiver args) (all_parameters contract s)) a.lent once)

        lending : AreLoans program.table d callee called (λ m. tests_of m callee.slots [])
            (waiting_here b.from.notes (enter n wr) (left_waiting c b rest outer result b.loans)) after b.loans
        lending = subst (AreLoans program.table d callee called (λ m. tests_of m callee.slots [])
            (waiting_here b.from.notes (enter n wr) (left_waiting c b rest outer result b.loans)) after) (sym a.loans)
            (all_loans program.table d callee called (λ m. tests_of m callee.slots [])
            (waiting_here b.from.notes (enter n wr) (left_waiting c b rest outer result b.loans)) k.context after b
            (λ q. reads_alike b.from (enter n wr) objects program.table q
            ∙ sits_read program.table is.table c.frame k.whole.parts b.from given a.binds.sits q)
            has_bound (all_reads receiver args) (all_parameters contract s) 0 a.lent back gives_back once)

        settled : (q : Location) → is_settled by_receiver (left_waiting c b rest outer result b.loans) q ≡ true
            → after q ≡ given q
        settled q e =
            let parts = settled_parts by_receiver (left_waiting c b rest outer result b.loans) q e in
            result_other (passed bf k.context (all_reads receiver args)
            (all_parameters contract s)) result s.result q parts.1
            ∙ backs_settled bf k.context given (all_reads receiver args) (all_parameters contract s) 0 q
            (subst (λ ls. is_lent ls q ≡ false) a.loans parts.0)

        held_on : (z : Option ℕ) → result ≡ z → (j : ℕ) → is_result z (slot j) ≡ false
            → with_slot_if z
            (held_as (kind_of_result (static_of bf) contract tx)) k.holdings j
            ≡ k.holdings j
        held_on None i j e = refl
        held_on (Some m) i j e = ap (λ x. if x then held_as
            (kind_of_result (static_of bf) contract tx) else k.holdings j) e

        result_kind : (of : ResolvedType) → ans.signature.result ≡ Some of
            → kind_of_result (static_of bf) contract tx ≡ Some (kind_of_resolved of)
        result_kind of e = ap (option_and_then (λ (x : Signature). option_map kind_of_resolved x.result)) es
            ∙ ap (option_map kind_of_resolved) (sym ans.answers.result ∙ e)

        result_held : (j : ℕ) (of : ResolvedType) → result ≡ Some j → ans.signature.result ≡ Some of
            → after_form (static_of bf) form k.holdings j ≡ held_as (Some (kind_of_resolved of))
        result_held j of i e =
            ap (λ z. with_slot_if z
            (held_as (kind_of_result (static_of bf) contract tx)) k.holdings j) i
            ∙ ap (λ x. if x then held_as (kind_of_result (static_of bf) contract tx) else k.holdings j)
            (eq-eqb j j refl)
            ∙ ap held_as (result_kind of e)

        awaits : AwaitsResult bf after (left_waiting c b rest outer result b.loans) result (gives_back_as callee called)
        awaits = subst (AwaitsResult bf after (left_waiting c b rest outer result b.loans) result)
            (sym ans.answers.result)
            (awaits_result program.table is.table entry beginning c k b given
            (0 + length (all_parameters contract s)) binds
            (left_waiting c b rest outer result b.loans) refl same_outer
            (passed bf k.context (all_reads receiver args)
            (all_parameters contract s)) result s.result takes formed.params
            few_result formed.references)

        waiting : Waits program.table (NeedsOwner program.table (enter n wr).objects) d callee called
            (self_of callee.slots ∷ [])
            (λ m. tests_of m callee.slots []) (left_waiting c b rest outer result b.loans)
        waiting = caller_waits program.table is.table entry beginning c k b given
            (0 + length (all_parameters contract s)) binds
            callee called body.terms rest outer result b.loans (enter n wr) same_outer objects grows
            (locked ∙ a.binds.stays.locked) fewer (λ m none. all_owners m ∙ none) after
            (after_form (static_of bf) form k.holdings) settled (λ j e. held_on result refl j e) result_held remains
            (λ e. absurd (cc)) lending (λ e. absurd (cc)) (apart, tt) (λ e. absurd (cc)) (λ e. absurd (cc)) awaits
            (λ e. absurd (cc))

        waiting_parts : waiting.parts ≡ k.whole.parts
        unfolding waiting
        waiting_parts = caller_parts program.table is.table entry beginning c k b given
            (0 + length (all_parameters contract s)) binds
            callee called body.terms rest outer result b.loans (enter n wr) same_outer objects grows
            (locked ∙ a.binds.stays.locked) fewer (λ m none. all_owners m ∙ none) after
            (after_form (static_of bf) form k.holdings) settled (λ j e. held_on result refl j e) result_held remains
            (λ e. absurd (cc)) lending (λ e. absurd (cc)) (apart, tt) (λ e. absurd (cc)) (λ e. absurd (cc)) awaits
            (λ e. absurd (cc))

        -- each owner that comes back is lent
        lends : Lends program.table (nth_object wr.objects n).contract ans.number by_receiver
            (left_waiting c b rest outer result b.loans)
        lends = record {
          owners = λ own2 s2 e1 e2 j p e out ne. owner_lent own2 s2 e1 e2 j p e out;
          made = λ e.
              absurd (cc);
        }
          where
            lent_at : (j : ℕ) (p : Parameter) → slice_get (all_parameters contract s) j ≡ Some p → wants_owner p ≡ true
                → has_lent b.loans j ≡ true
            lent_at j p e wants = subst (λ ls. has_lent ls j ≡ true) (sym a.loans)
                (subst (λ m. has_lent (lent_all program.table k.context (all_reads receiver args)
                (all_parameters contract s) 0) m ≡ true)
                (let z : 0 + j ≡ j = omega arith in z)
                (wanted_lent program.table c k.whole.parts k.context (all_reads receiver args)
                (all_parameters contract s) 0 j p all_passed e wants))

            own_exit : owns (permission_of ans.signature.exit) ≡ true → owns (permission_of s.entry) ≡ true
            own_exit out = ⊎_elim
                (λ own. sym (same_mode_owns (permission_of ans.signature.entry) (permission_of s.entry)
                (answer_entry_mode program.table contract
                (nth_object wr.objects n).contract s ans.signature ans.answers)) ∙ own)
                (λ not. absurd (both_ways (owns (permission_of ans.signature.exit))
                (ap owns (transaction_as_came program.table own ans.signature ans.transaction not) ∙ not) out))
                (cases_Bool (owns (permission_of ans.signature.entry)))

            at_number : (j : ℕ) (p : Parameter)
                → slice_get (all_parameters (nth_object wr.objects n).contract ans.signature) j ≡ Some p
                → owns (permission_of p.exit) ≡ true → has_lent b.loans j ≡ true
            at_number zero p e out = lent_at 0 (this_parameter contract s) refl
                (own_exit (subst (λ (q : Parameter). owns (permission_of q.exit) ≡ true)
                (sym (same_Some (this_parameter (nth_object wr.objects n).contract ans.signature) p e)) out))
            at_number (suc j) p e out = lent_at (suc j) p
                (subst (λ (qs : List Parameter). slice_get qs j ≡ Some p) same_parameters e)
                (exit_owner_came program.table p (each_at (IsParameter program.table)
                (all_parameters (nth_object wr.objects n).contract ans.signature) (suc j) p
                (all_are program.table (nth_object wr.objects n).contract own ans.signature ec ans.transaction) e) out)

            owner_lent : (own2 : Contract) (s2 : Signature)
                → contract_at program.table (nth_object wr.objects n).contract ≡ Some own2
                → signature_at own2 ans.number ≡ Some s2 → (j : ℕ) (p : Parameter)
                → slice_get (all_parameters (nth_object wr.objects n).contract s2) j ≡ Some p
                → owns (permission_of p.exit) ≡ true → has_lent b.loans j ≡ true
            owner_lent own2 s2 e1 e2 j p e out =
                let same_own : own2 ≡ own = same_Some own2 own (sym e1 ∙ ec) in
                let same : s2 ≡ ans.signature = same_Some s2 ans.signature
                (sym e2 ∙ ap (λ (x : Contract). signature_at x ans.number) same_own ∙ ans.there) in
                at_number j p (subst (λ z. slice_get
                (all_parameters (nth_object wr.objects n).contract z) j ≡ Some p) same e) out

        entered : StepsSo program.table entry beginning
            (calls_object program (entered_with c b rest outer result
            (with_unit_taken b.from.world fuel)) contract tx s n)
        entered = subst (StepsSo program.table entry beginning)
            (sym (call_enters program (entered_with c b rest outer result
            (with_unit_taken b.from.world fuel)) contract tx s n
            (nth_object wr.objects n) own ans.number ans.signature body.terms idle
            (object_there wr.objects n (let low = of_object.0 in let same = a.binds.stays.count in
            let e = ap (λ (os : List Object). length os) objects in omega (arith, low, same, e)))
            ec ans.found ans.there
            (within program is entry beginning c k contract tx s own b given
            (0 + length (all_parameters contract s)) binds past n
            of_object.0 first_slot a.bound wr objects locked progress idle not_new ec class serves ans public rest
            outer result
            b.loans same_outer)
            body.found))
            (running (receiver_runs program is entry beginning c k contract tx s own b given
            (0 + length (all_parameters contract s)) binds past n
            of_object.0 first_slot a.bound wr objects locked progress idle not_new ec class serves ans public rest
            outer result
            b.loans same_outer waiting waiting_parts lends))

      -- The step.

      after_unit : (b : Bound) (a : AllBound program.table c k.whole.parts k.context k.context (unbound (here c))
          (all_reads receiver args) (all_parameters contract s) 0 b) (fuel : ℕ)
          → StepsSo program.table entry beginning (with_fuel_left fuel b.from.world
          (λ w. calls_object program (entered_with c b rest outer result w) contract tx s n))
      after_unit b a zero = tt
      after_unit b a (suc fuel) = ⊎_elim
          (λ busy. subst (StepsSo program.table entry beginning)
          (sym (call_aborts program (entered_with c b rest outer result
          (with_unit_taken b.from.world fuel)) contract tx s n busy)) tt)
          (λ idle. entered b a fuel idle)
          (cases_Bool (is_in_progress (read_object (with_unit_taken b.from.world fuel) n) n))

      bound_so : StepsSo program.table entry beginning
          (bind_all program.table (unbound (here c)) (located receiver ∷ all_located args) 0 (all_parameters contract s)
          (λ b. with_unit b.from.world (λ w. calls_object program
          (entered_with c b rest outer result w) contract tx s n)))
      bound_so = subst (λ ls. StepsSo program.table entry beginning
          (bind_all program.table (unbound (here c)) (located receiver ∷ ls) 0 (all_parameters contract s)
          (λ b. with_unit b.from.world (λ w. calls_object program
          (entered_with c b rest outer result w) contract tx s n))))
          (sym (places_of_reads args))
          (bind_all_steps program.table is.table c k.whole.parts (tested_places outer)
          (running_one program.table is.table entry beginning c k)
          (running_placed program.table is.table entry beginning c k)
          (running_finished program.table is.table entry beginning c k)
          (StepsSo program.table entry beginning)
          (λ b. with_unit b.from.world (λ w. calls_object program
          (entered_with c b rest outer result w) contract tx s n))
          k.context (all_reads receiver args) (all_parameters contract s) (unbound (here c)) k.context 0
          (running_binds program.table is.table entry beginning c k 0) (let few = few_params in omega (arith, few))
          (λ q. refl) (λ q. refl) can.gives all_passed
          (are_once (all_reads receiver args) (all_parameters contract s) can.once)
          (λ b a. after_unit b a b.from.world.fuel))

    signed_so : StepsSo program.table entry beginning
        (if_there (read program.table (here c) (located receiver)) (λ x. if_there (referred x.value) (λ n.
        bind_all program.table (unbound (here c)) (located receiver ∷ all_located args) 0 (all_parameters contract s)
        (λ b. with_unit b.from.world (λ w. calls_object program
        (entered_with c b rest outer result w) contract tx s n)))))
    signed_so = subst (λ z. StepsSo program.table entry beginning (if_there z (λ x. if_there (referred x.value) (λ n.
        bind_all program.table (unbound (here c)) (located receiver ∷ all_located args) 0 (all_parameters contract s)
        (λ b. with_unit b.from.world (λ w. calls_object program
        (entered_with c b rest outer result w) contract tx s n))))))
        (sym (found_read program.table is.table c.frame k.whole.parts (here c) k.context
        (running_sits program.table is.table entry beginning c k) (located receiver) u))
        (subst (λ z. StepsSo program.table entry beginning (if_there z (λ n.
        bind_all program.table (unbound (here c)) (located receiver ∷ all_located args) 0 (all_parameters contract s)
        (λ b. with_unit b.from.world (λ w. calls_object program
        (entered_with c b rest outer result w) contract tx s n)))))
        (sym (ap referred refers.1)) (bound_so refers.0 refers.1))

  -- A call of another object isn't stuck: it aborts, or the called body runs and the caller waits.
  pub call_steps : StepsSo program.table entry beginning
      (act program (call_form result receiver contract tx args) rest outer c)
  call_steps =
      let s = some_is (signature_of program.table contract tx) formed.numbers.0 in
      subst (λ z. StepsSo program.table entry beginning (if_there z (λ s.
      if_there (read program.table (here c) (located receiver)) (λ x. if_there (referred x.value) (λ n.
      bind_all program.table (unbound (here c)) (located receiver ∷ all_located args) 0 (all_parameters contract s)
      (λ b. with_unit b.from.world (λ w. calls_object program
      (entered_with c b rest outer result w) contract tx s n)))))))
      (sym s.1) (signed_so s.0 s.1)
