-- A `new` from outside by its terms.
use Rattle.std.proofs.Common.{◌≡◌, ◌≢◌, ℕ, zero, suc, ◌≤◌, Bool, true, false, List, [], ◌∷◌, map, length, Some, None, refl, sym, ap, ◌∙◌, subst, arith, ◌⊎◌, inl, inr}
use Rattle.std.specs.Prelude.{option_and_then, if◌then◌else◌, ◌++◌, slice_get, nat_le}
use Rattle.ob_base.specs.Limits.{most_objects}
use Rattle.ob_base.specs.declared.id.ContractId.{ContractId}
use Rattle.ob_base.specs.declared.id.TxId.{TxId}
use Rattle.ob_table.specs.Tables.{ClassTable, contract_at, signature_at, signature_of}
use Rattle.ob_table.specs.declared.contract.Contract.{Contract}
use Rattle.ob_table.specs.declared.contract.Signature.{Signature}
use Rattle.ob_heap_spec.specs.Values.{Value, nothing}
use Rattle.ob_heap_spec.specs.Objects.{Object}
use Rattle.ob_heap_spec.specs.Contents.{object_at}
use Rattle.ob_heap_spec.specs.Worlds.{World, next_item, by_full, with_read, make_object, with_some, unit, with_unit_taken, with_fuel}
use Rattle.ob_source_meaning.specs.Frames.{of_new, Calls}
use Rattle.ob_heap_spec.specs.GoingWrong.{may_pass}
use Rattle.ob_source_meaning.specs.Bodies.{args_come}
use Rattle.ob_source_meaning.specs.Calls.{new_after_unit, call_with}
use Rattle.ob_heap_spec.specs.Objects.{unfinished}
use Rattle.ob_silica_steps.specs.Configurations.{SilicaProgram, abort_step as abort_next, by_new, NextStep, stuck, SlotCells, Notes}
use Rattle.ob_silica_steps.specs.Here.{Here, field_of, if_there, with_unit, with_fuel_left}
use Rattle.ob_silica_places.specs.Known.{at}
use Rattle.ob_silica_places.specs.Parameters.{Parameter, parameter_of, parameters}
use Rattle.ob_silica_steps.specs.Entering.{Entered, are_within, new_cell, entered_new, makes_object, enters}
use Rattle.ob_silica_steps.specs.Calling.{constructor_id}
use Rattle.ob_lower_correct.proofs.Standing.{Setting, shape, Stands, none_some, at_same, Noted, at_other}
use Rattle.ob_lower_correct.proofs.Changes.{noted_quiet, Quiet}
use Rattle.ob_lower_correct.proofs.Binding.{come_all, come_args, quiet_all, bound_slots, bound_holds, HoldsFrom, holds_on}
use Rattle.ob_lower_correct.proofs.Beginning.{within_args}
use Rattle.ob_lower_correct.proofs.Calling.{CallsRun}
use Rattle.ob_lower_correct.proofs.Returning.{gives_object, new_finishes}
use Rattle.ob_lower_correct.proofs.Branches.{then_gives}
use Rattle.ob_lower_correct.proofs.Entering.{BodyPair, fixed_slots, zero_fixed, body_ends}
use Rattle.ob_table_spec.specs.WellFormed.{kind_of_resolved, constructor_at}
use Rattle.ob_table.specs.declared.contract.Field.{Field}
use Rattle.ob_lower_correct.proofs.CallsThis.{parameters_length}
use Rattle.ob_silica_steps.specs.Steps.{then_steps, steps}
use Rattle.ob_silica_steps.specs.Starting.{pass_all, alone, started_new}
use Rattle.ob_lower_correct.proofs.Exact.{EndsExactly}
use Rattle.ob_lower_correct.proofs.CallsNew.{at_end, made_or, construct_is}
use Rattle.ob_lower_correct.proofs.Outside.{passes, body_over}

module _ (program : SilicaProgram) (n : ℕ) (inner : Calls) (inner_runs : (m : ℕ) → n ≡ suc m → CallsRun program m inner)
    (bodies : (contract : ContractId) (own : Contract) (tx : TxId) (g : Signature) → contract_at program.table contract ≡ Some own → signature_at own tx ≡ Some g → BodyPair program contract own tx g)
    (constructors : (contract : ContractId) (own : Contract) (g : Signature) → contract_at program.table contract ≡ Some own → own.interface ≡ false → slice_get own.transactions 0 ≡ Some g → g.result ≡ None) where
  abbrev table : ClassTable
  table = program.table

  module _ (notes0 : Notes) (w0 : World) (noted0 : Noted table notes0 w0.objects) (few : w0.fuel ≤ n) (contract : ContractId) (own : Contract) (g : Signature) (eown : contract_at table contract ≡ Some own) (is_object : own.interface ≡ false) (eg : slice_get own.transactions 0 ≡ Some g)
      (vs : List Value) (len : length vs ≡ length g.params) where
    abbrev ps : List Parameter
    ps = map parameter_of g.params

    abbrev S : SlotCells
    S = bound_slots nothing 1 (parameters g) vs

    abbrev W : World
    W = come_all (parameters g) vs w0

    signed : signature_of table contract constructor_id ≡ Some g
    signed = ap (option_and_then (λ c. signature_at c constructor_id)) eown ∙ eg

    module _ (m j : ℕ) (en : n ≡ suc m) (le : j ≤ m) where
      abbrev w1 : World
      w1 = with_unit_taken W j

      abbrev w2 : World
      w2 = with_read w1 next_item

      abbrev i : ℕ
      i = length w1.objects

      abbrev E : World → Entered
      E w = record { slots = S; stack = []; notes = notes0; world = w }

      abbrev cs : Setting
      cs = record { this = i; here = contract; own = own; tx = constructor_id; signature = g; how = by_new; share_entered = false; stack = [] }

      abbrev h0 : Here
      h0 = record { slots = at S 0 (Some (new_cell contract i)); notes = notes0; world = make_object w2 (unfinished contract) }

      quiet : Quiet w0 W
      quiet = quiet_all (parameters g) vs w0

      asked_holds : HoldsFrom S 1 ps vs
      asked_holds = bound_holds ps vs nothing 1 (len ∙ sym (parameters_length g.params))

      holds : HoldsFrom h0.slots 1 ps vs
      holds = holds_on ps vs S h0.slots 1 (λ x lt. ap shape (at_other S 0 (Some (new_cell contract i)) x (not_zero x lt))) asked_holds
        where
          not_zero : (x : ℕ) → 1 ≤ x → x ≢ 0
          not_zero x lt e = omega (arith, lt, e)

      new_or : Noted table notes0 W.objects → (a b : ℕ) (o : Object) (f : Field) (v : Value) → field_of table o b ≡ Some f → o.fields b ≡ Some v → (object_at W.objects a ≡ Some o) ⊎ (unfinished contract ≡ o) → (notes0.fields a b).kind ≡ kind_of_resolved f.of
      new_or before a b o f v ef ev (inl e) = before.by a b o f v e ef ev
      new_or before a b o f v ef ev (inr e) = absurd (none_some (ap (λ (x : Object). x.fields b) e ∙ ev))

      noted_new : Noted table notes0 (W.objects ++ unfinished contract ∷ [])
      noted_new =
          let before : Noted table notes0 W.objects = noted_quiet {more = notes0} {w = w0} {v = W} noted0 quiet (λ a b. refl) in
          record { by = λ a b o f v eo ef ev. new_or before a b o f v ef ev (made_or W.objects (unfinished contract) o a eo) }

      stands : Stands table m cs h0
      stands = record {
        this = ap shape (at_same S 0 (Some (new_cell contract i)));
        object = (unfinished contract, at_end W.objects (unfinished contract), refl);
        noted = noted_new;
        fuel = le;
      }

      pub made : (next : NextStep) (b c : Bool) → nat_le most_objects i ≡ b → may_pass table w2.objects g.params vs ≡ c → next ≡ makes_object program (E w1) contract constructor_id g
          → EndsExactly program next (new_after_unit table inner contract own g vs w1)
      made next true c eb ec e =
          rw eb (0, ap (λ z. then_steps z (steps program 0)) (e ∙ ap (λ b. if b then abort_next by_full w2 else if are_within table w2.objects S 1 (parameters g) then enters program (entered_new (E w2) contract) contract constructor_id by_new false else stuck) eb))
      made next false false eb ec e =
          rw (eb, ec) (
            0,
            ap (λ z. then_steps z (steps program 0)) (e ∙ ap (λ b. if b then abort_next by_full w2 else if are_within table w2.objects S 1 (parameters g) then enters program (entered_new (E w2) contract) contract constructor_id by_new false else stuck) eb
                ∙ ap (λ b. if b then enters program (entered_new (E w2) contract) contract constructor_id by_new false else stuck) (within_args table w2.objects g.params vs S 1 asked_holds ∙ ec)),
          )
      made next false true eb ec e =
          let run = inner_runs m en in
          let o = body_ends program m inner run cs eown (gives_object table cs vs) vs (make_object w2 (unfinished contract)) in
          rw (eb, ec, construct_is table inner cs vs (make_object w2 (unfinished contract)) refl, sym (then_gives o))
          (body_over program m inner run cs eown (gives_object table cs vs) vs h0 next refl (bodies contract own constructor_id g eown eg) stands holds
          (new_finishes program m inner run cs eown h0.slots vs (fixed_slots g) (zero_fixed g) refl signed holds refl (constructors contract own g eown is_object eg))
          (e ∙ ap (λ b. if b then abort_next by_full w2 else if are_within table w2.objects S 1 (parameters g) then enters program (entered_new (E w2) contract) contract constructor_id by_new false else stuck) eb
          ∙ ap (λ b. if b then enters program (entered_new (E w2) contract) contract constructor_id by_new false else stuck) (within_args table w2.objects g.params vs S 1 asked_holds ∙ ec)))

    -- the unit of the `new`
    by_fuel : (l : ℕ) → W.fuel ≡ l → l ≤ n → (next : NextStep) → next ≡ with_fuel_left l W (λ w. makes_object program (alone S notes0 w) contract constructor_id g)
        → EndsExactly program next (with_fuel l W (λ w1. new_after_unit table inner contract own g vs w1))
    by_fuel zero el le next e = (0, ap (λ z. then_steps z (steps program 0)) e)
    by_fuel (suc j) el le next e = with_most n refl le
      where
        with_most : (k : ℕ) → n ≡ k → suc j ≤ k → EndsExactly program next (new_after_unit table inner contract own g vs (with_unit_taken W j))
        with_most zero en le = absurd (omega (arith, le))
        with_most (suc m) en le = made m j en (omega (arith, le)) next (nat_le most_objects (length W.objects)) (may_pass table W.objects g.params vs) refl refl e

    pub new_over : constructor_at table contract ≡ Some g → EndsExactly program (started_new program contract vs notes0 w0) (call_with table inner (of_new contract) vs w0)
    new_over ec =
        subst (λ o. EndsExactly program (started_new program contract vs notes0 w0) o) (sym (ap (λ o. with_some o (λ own. with_some (constructor_at table contract) (λ g. unit (args_come g.params vs w0) (λ w1. new_after_unit table inner contract own g vs w1)))) eown
        ∙ ap (λ o. with_some o (λ g. unit (args_come g.params vs w0) (λ w1. new_after_unit table inner contract own g vs w1))) ec))
        (rw (come_args g.params vs w0)
        (by_fuel W.fuel refl (subst (λ z. z ≤ n) (sym (quiet_all (parameters g) vs w0).fuel) few) (started_new program contract vs notes0 w0)
        (ap (λ o. if_there o (λ x. pass_all vs 1 (parameters x) nothing w0 (λ slots v. with_unit v (λ y. makes_object program (alone slots notes0 y) contract constructor_id x)))) ec
        ∙ passes vs 1 (parameters g) nothing w0 (λ slots v. with_unit v (λ y. makes_object program (alone slots notes0 y) contract constructor_id g)) (len ∙ sym (parameters_length g.params)))))
