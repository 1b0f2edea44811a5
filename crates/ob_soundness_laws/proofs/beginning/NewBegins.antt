-- A `new` from outside begins coherently, or aborts.
use Rattle.std.proofs.Common.{◌≡◌, ℕ, ◌<◌, true, false, List, [], map, length, Option, Some, None, refl, sym, ap, subst, ◌∙◌, ⊎_elim}
use Rattle.std.specs.Prelude.{nat_le, if◌then◌else◌}
use Rattle.std.specs.List.{list_any, list_all}
use Rattle.std.proofs.lemmas.Bool.{cases_Bool}
use Rattle.std.proofs.lemmas.Option.{same_Some}
use Rattle.ob_base.specs.Limits.{most_objects}
use Rattle.ob_base.specs.Optional.{◌>>=◌}
use Rattle.ob_base.specs.declared.id.ContractId.{ContractId}
use Rattle.ob_table.specs.Tables.{contract_at, contract_named, signature_at}
use Rattle.ob_table.specs.declared.contract.Contract.{Contract}
use Rattle.ob_table.specs.declared.contract.Signature.{Signature}
use Rattle.ob_table_spec.specs.Conditions.{IsConstructor}
use Rattle.ob_table_spec.specs.WellFormed.{constructor_at}
use Rattle.ob_heap_spec.specs.Values.{Value, nothing}
use Rattle.ob_heap_spec.specs.Objects.{unfinished}
use Rattle.ob_heap_spec.specs.Contents.{Content}
use Rattle.ob_heap_spec.specs.Worlds.{World, first_world, with_unit_taken, next_item, with_read, make_object, by_full}
use Rattle.ob_silica.specs.Terms.{SilicaTerms}
use Rattle.ob_silica_places.specs.Parameters.{parameters}
use Rattle.ob_silica_steps.specs.Calling.{constructor_id}
use Rattle.ob_silica_steps.specs.Configurations.{SilicaProgram, SlotCells, by_new, runs, Notes, NextStep, goes, abort_step, stuck}
use Rattle.ob_silica_steps.specs.Here.{if_there, with_unit}
use Rattle.ob_silica_steps.specs.Entering.{are_within, enters, entered_new, makes_object}
use Rattle.ob_silica_steps.specs.Starting.{first_notes, pass_all, alone, started_new}
use Rattle.ob_places_laws.proofs.Tables.{constructor_found}
use Rattle.ob_coherent_spec.specs.Counting.{nth_object}
use Rattle.ob_coherent_spec.specs.Remaining.{IsCheckedProgram}
use Rattle.ob_coherent_spec.specs.Coherent.{Beginning, running, StepsSo}
use Rattle.ob_soundness_laws.proofs.counting.Passing.{passed_slots, passed_world, passes, passed_keeps}
use Rattle.ob_rest_spec.specs.AtRest.{IsStoreAtRest}
use Rattle.ob_invocation_spec.specs.Requests.{NewRequest}
use Rattle.ob_invocation_spec.specs.Entries.{HandleUse, Entry, entry_of_new, values_of, handle_uses}
use Rattle.ob_invocation_spec.specs.Checks.{refusal_of}
use Rattle.ob_invocation_spec.specs.Refusals.{entry_checks, use_serves, is_repeated}
use Rattle.ob_invocation_spec.specs.Entering.{is_outside_use, first_outside_use, entry_world}
use Rattle.ob_soundness_laws.specs.beginning.Uses.{sharing_uses, AreUses}
use Rattle.ob_invocation_laws.specs.Laws.{puts_of_uses}
use Rattle.ob_soundness_laws.specs.Requests.{note_in_run}
use Rattle.ob_soundness_laws.specs.beginning.Marked.{AreMarked}
use Rattle.ob_soundness_laws.specs.beginning.Passed.{ArePassed, uses_in}
use Rattle.ob_soundness_laws.specs.beginning.Starts.{new_beginning, NewStarts}
use Rattle.ob_soundness_laws.proofs.beginning.Lists.{find_none}
use Rattle.ob_soundness_laws.proofs.beginning.Passed.{passed_many, passed_newly, passed_marks, passed_marked}
use Rattle.ob_soundness_laws.proofs.beginning.Checked.{IsAllowed, allowed, uses_for, uses_are, args_passed, arguments_used}
use Rattle.ob_soundness_laws.proofs.beginning.Whole.{sharing_there}
use Rattle.ob_soundness_laws.proofs.beginning.CallBegins.{unit_so, found_then}
use Rattle.ob_soundness_laws.proofs.beginning.New.{begins, within, made_runs}

-- A `new` from outside, whose values are passed by uses that serve.
module _ (program : SilicaProgram) (is : IsCheckedProgram program) (content : Content)
    (rest : IsStoreAtRest program.table content) (contract : ContractId) (own : Contract) (s : Signature)
    (args : List Value) (xs : List (Option HandleUse))
    (passed : ArePassed program.table content.objects args (parameters s) xs)
    (uses : AreUses program.table content None (uses_in xs))
    (once : list_any (is_repeated (uses_in xs)) (uses_in xs) ≡ false)
    (ec : contract_at program.table contract ≡ Some own) (class : own.interface ≡ false)
    (es : signature_at own constructor_id ≡ Some s) (makes : IsConstructor program.table own s)
    (made_at : constructor_at program.table contract ≡ Some s) (fuel : ℕ) where
  abbrev w0 : World
  w0 = first_world content.objects fuel

  abbrev w1 : World
  w1 = passed_world args (parameters s) w0

  abbrev notes : Notes
  notes = first_notes program.table content.objects (map (note_in_run (puts_of_uses (uses_in xs))) content.handles)

  abbrev slots : SlotCells
  slots = passed_slots args 1 (parameters s) nothing

  abbrev begun_with : Beginning
  begun_with = record { contract = contract; tx = constructor_id; how = by_new; from = 1; values = args }

  marked_one : AreMarked content.objects w1.objects
  marked_one = passed_marked args (parameters s) w0 content.objects refl

  module _ (m : ℕ) where
    abbrev x : World
    x = with_unit_taken w1 m

    abbrev wr : World
    wr = with_read x next_item

    newly : (i : ℕ) → (nth_object content.objects i).shared ≡ false → (nth_object wr.objects i).shared ≡ true
        → 0 < sharing_uses i (uses_in xs)
    newly i before after = passed_newly program.table content.objects i args (parameters s) xs w0 passed before after

    marks : (i : ℕ) → 0 < sharing_uses i (uses_in xs) → (nth_object wr.objects i).shared ≡ true
    marks i some = passed_marks program.table content.objects i args (parameters s) xs w0 passed
        (sharing_there program.table content None (uses_in xs) uses i some) some

    locked : wr.locked ≡ []
    locked = (passed_keeps args (parameters s) w0).locked

    quiet : wr.progress ≡ []
    quiet = (passed_keeps args (parameters s) w0).progress

    into : NextStep
    into = enters program (entered_new (record (alone slots notes x) { world = wr }) contract) contract constructor_id
        by_new false

    room : NextStep
    room = if are_within program.table wr.objects slots 1 (parameters s) then into else stuck

    into_so : StepsSo program.table None begun_with into
    unfolding into
    into_so = subst (λ z. StepsSo program.table None begun_with (if_there z (λ (terms : SilicaTerms). goes (record {
      frame = Rattle.ob_soundness_laws.proofs.beginning.New.f program is content rest contract own s args xs passed
          uses once
          ec class es makes wr marked_one newly marks locked quiet;
      control = runs terms [];
      stack = [];
      notes = notes;
      world = make_object wr (unfinished contract);
    }))))
        (sym (begins program is content rest contract own s args xs passed uses once ec class es makes wr marked_one
        newly marks
        locked quiet).found)
        (running (made_runs program is content rest contract own s args xs passed uses once ec class es makes wr
        marked_one
        newly marks locked quiet))

    room_so : StepsSo program.table None begun_with room
    unfolding room
    room_so = subst (λ z. StepsSo program.table None begun_with (if z then into else stuck))
        (sym (within program is content rest contract own s args xs passed uses once ec class es makes wr marked_one
        newly marks
        locked quiet)) into_so

    makes_so : StepsSo program.table None begun_with
        (makes_object program (alone slots notes x) contract constructor_id s)
    unfolding room into
    makes_so = ⊎_elim
        (λ full. subst (λ z. StepsSo program.table None begun_with (if z then abort_step by_full wr else room))
        (sym full) tt)
        (λ some. subst (λ z. StepsSo program.table None begun_with (if z then abort_step by_full wr else room))
        (sym some) room_so)
        (cases_Bool (nat_le most_objects (length w1.objects)))

  pub new_starts : StepsSo program.table None begun_with (started_new program contract args
      (first_notes program.table content.objects (map (note_in_run (puts_of_uses (uses_in xs))) content.handles))
      (first_world content.objects fuel))
  new_starts = subst (StepsSo program.table None begun_with)
      (sym (ap (λ o. if_there o (λ (s : Signature).
      pass_all args 1 (parameters s) nothing w0 (λ slots v.
      with_unit v (λ x. makes_object program (alone slots notes x) contract constructor_id s))))
      made_at
      ∙ passes args 1 (parameters s) nothing w0 (λ slots v.
      with_unit v (λ x. makes_object program (alone slots notes x) contract constructor_id s))
      (passed_many program.table content.objects args (parameters s) xs passed)))
      (unit_so program.table None begun_with w1.fuel w1
      (λ x. makes_object program (alone slots notes x) contract constructor_id s) makes_so)

-- A `new` of a contract, by its parts.

-- what it enters
abbrev pub entered : List ℕ → NewRequest → ContractId → Signature → Entry
entered who r contract s = record {
  who = who;
  contract = contract;
  tx = record { 0 = 0 };
  signature = s;
  receiver = None;
  given = Some s.exit.mode;
  args = r.args;
  into = r.into;
}

module _ (program : SilicaProgram) (is : IsCheckedProgram program) (content : Content)
    (rest : IsStoreAtRest program.table content) (who : List ℕ) (r : NewRequest) (contract : ContractId) (s : Signature)
    (es : constructor_at program.table contract ≡ Some s)
    (passed : refusal_of (entry_checks program.table content (entered who r contract s)) ≡ None)
    (inside : first_outside_use program.table content (entered who r contract s) ≡ None) where
  abbrev xs : List (Option HandleUse)
  xs = uses_for program.table content who s.params r.args

  ok : IsAllowed program.table content (entered who r contract s)
  ok = allowed program.table content (entered who r contract s) passed

  uses_same : handle_uses content (entered who r contract s) ≡ uses_in xs
  uses_same = uses_are program.table content who s.params r.args

  used : AreUses program.table content None (uses_in xs)
  used = arguments_used program.table content rest None who s.params r.args
      (ap (list_all use_serves) (sym (uses_are program.table content who s.params r.args)) ∙ ok.args)
      (ap (list_any (is_outside_use program.table content.objects)) (sym uses_same)
      ∙ find_none (is_outside_use program.table content.objects) (handle_uses content (entered who r contract s))
      inside)

  pub parts_begin : (fuel : ℕ) → NewStarts program content fuel (entered who r contract s)
  parts_begin fuel =
      let made = constructor_found program.table is.table contract s es in (
        refl,
        subst (λ us. StepsSo program.table None (new_beginning content (entered who r contract s))
            (started_new program contract (values_of content (entered who r contract s))
            (first_notes program.table content.objects (map (note_in_run (puts_of_uses us)) content.handles))
            (entry_world content fuel (entered who r contract s)))) (sym uses_same)
            (new_starts program is content rest contract made.0 s (values_of content (entered who r contract s)) xs
            (args_passed program.table content who s.params r.args ok.count ok.kinds) used
            (subst (λ us. list_any (is_repeated us) us ≡ false) uses_same ok.once)
            made.1 made.2 made.3 made.4 es fuel),
      )

-- A `new` that is found, isn't refused and passes the entry test begins coherently, or aborts.
pub new_begins : (program : SilicaProgram) → IsCheckedProgram program → (content : Content)
    → IsStoreAtRest program.table content → (who : List ℕ) (r : NewRequest) (e : Entry)
    → entry_of_new program.table who r ≡ Some e → refusal_of (entry_checks program.table content e) ≡ None
    → first_outside_use program.table content e ≡ None → (fuel : ℕ) → NewStarts program content fuel e
new_begins program is content rest who r e found =
    let one = found_then (contract_named program.table.contracts r.contract) (λ contract.
    constructor_at program.table contract >>= λ s. Some (entered who r contract s)) e found in
    let two = found_then (constructor_at program.table one.0) (λ s. Some (entered who r one.0 s)) e one.2 in
    subst (λ (e : Entry). refusal_of (entry_checks program.table content e) ≡ None
    → first_outside_use program.table content e ≡ None → (fuel : ℕ) → NewStarts program content fuel e)
    (same_Some (entered who r one.0 two.0) e two.2)
    (λ passed inside fuel. parts_begin program is content rest who r one.0 two.0 two.1 passed inside fuel)
