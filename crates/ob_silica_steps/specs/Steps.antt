-- Silica steps: one case for each form (Coblenz et al., TOPLAS 42(3), 2020, "Silica"; locks, re-entry, units and what
-- is read are this project's own).
use Rattle.std.specs.Prelude.{ℕ, zero, suc, List, [], ◌∷◌, Some, None, option_map}
use Rattle.ob_heap_spec.specs.Worlds.{by_revert}
use Rattle.ob_silica.specs.Terms.{SilicaForm, unit_form, const_form, op_form, copy_form, move_form, new_form, call_form, call_this_form, change_form, test_form, if_form, loop_form, assert_form, disown_form, drop_form, return_form, revert_form, bad_row_form, SilicaTerms, no_terms, and_term}
use Rattle.ob_silica_steps.specs.Cells.{plain_cell, constant_cell}
use Rattle.ob_silica_places.specs.Known.{kind_of_operator}
use Rattle.ob_silica_places.specs.Places.{location_of, located, all_located}
use Rattle.ob_silica_steps.specs.Configurations.{SilicaProgram, Ends, plain_end, loop_end, Rest, Control, runs, leaves, Configuration, NextStep, goes, ended, aborted, abort_step, stuck}
use Rattle.ob_silica_steps.specs.Here.{here, goes_to, if_there, with_unit, read, set_slot}
use Rattle.ob_silica_steps.specs.Changing.{change_step}
use Rattle.ob_silica_steps.specs.Testing.{test_step, end_branch}
use Rattle.ob_silica_steps.specs.Returning.{return_step, leave_step}
use Rattle.ob_silica_steps.specs.Straight.{operate, with_operated, with_truth, with_text, copy_to, move_to, disowns_object}
use Rattle.ob_silica_steps.specs.Calling.{call_step, call_this_step, new_step}

-- All forms.

-- the step of a form, with the terms after it and the lists around
abbrev pub act : SilicaProgram → SilicaForm → SilicaTerms → List Rest → Configuration → NextStep
act program unit_form rest outer c =
    with_unit c.world (λ w. goes_to c (record (here c) { world = w }) (runs rest outer))
act program (const_form k value) rest outer c =
    goes_to c (set_slot k (Some (constant_cell value)) (here c)) (runs rest outer)
act program (op_form k operator a b line) rest outer c =
    if_there (read program.table (here c) (located a)) (λ x. if_there (read program.table (here c) (located b)) (λ y.
    with_operated line c.world (operate operator x.value y.value) (λ v.
    goes_to c (set_slot k (Some (plain_cell v (kind_of_operator operator))) (here c)) (runs rest outer))))
act program (copy_form to from) rest outer c =
    if_there (read program.table (here c) (located from)) (λ x.
    copy_to program.table (location_of to) x (here c) (λ h. goes_to c h (runs rest outer)))
act program (move_form to from contract) rest outer c =
    if_there (read program.table (here c) (located from)) (λ x.
    move_to program.table (location_of to) contract (located from) x (here c) (λ h. goes_to c h (runs rest outer)))
act program (new_form k contract args) rest outer c = new_step program k contract (all_located args) rest outer c
act program (call_form result receiver contract tx args) rest outer c =
    call_step program result (located receiver) contract tx (all_located args) rest outer c
act program (call_this_form result tx args) rest outer c =
    call_this_step program result tx (all_located args) rest outer c
act program (change_form state given) rest outer c = change_step program.table state given rest outer c
act program (test_form place state branch other join) rest outer c = test_step program.table (record {
  place = located place;
  state = state.0;
  branch = branch;
  other = other;
  rest = rest;
  outer = outer;
}) state c
act program (if_form a branch other join) rest outer c =
    if_there (read program.table (here c) (located a)) (λ x. with_truth x.value
    (goes_to c (here c) (runs branch (record { terms = rest; ends = plain_end } ∷ outer)))
    (goes_to c (here c) (runs other (record { terms = rest; ends = plain_end } ∷ outer))))
act program (loop_form first a body end) rest outer c =
    goes_to c (here c) (runs first (record { terms = rest; ends = loop_end first a body end } ∷ outer))
act program (assert_form place perm) rest outer c = goes_to c (here c) (runs rest outer)
act program (disown_form place) rest outer c =
    if_there (read program.table (here c) (located place)) (λ x.
    disowns_object (located place) x (here c) (λ h. goes_to c h (runs rest outer)))
act program (drop_form k) rest outer c = goes_to c (set_slot k None (here c)) (runs rest outer)
act program (return_form place) rest outer c = return_step program (option_map located place) outer c
act program (revert_form text) rest outer c =
    if_there (read program.table (here c) (located text)) (λ x.
    with_text x.value (λ bytes. abort_step (by_revert bytes) c.world))
act program bad_row_form rest outer c = stuck

-- Steps.

-- Where a list is at its end, what is after it goes on. After the first part of a Loop its body runs where the operand is
-- true, and then the same Loop.
abbrev pub end_step : SilicaProgram → Ends → SilicaTerms → List Rest → Configuration → NextStep
end_step program (loop_end first a body end) rest outer c =
    if_there (read program.table (here c) (located a)) (λ x. with_truth x.value
    (goes_to c (here c) (runs body (record { terms = and_term (loop_form first a body end) end rest; ends = plain_end } ∷ outer)))
    (goes_to c (here c) (runs rest outer)))
end_step program ends rest outer c = goes_to c (end_branch ends (here c)) (runs rest outer)

-- where the current list is at its end, the one around it goes on
abbrev pub pop_step : SilicaProgram → List Rest → Configuration → NextStep
pop_step program [] c = stuck
pop_step program (r ∷ outer) c = end_step program r.ends r.terms outer c

-- the step of a frame that runs this list
abbrev pub run_step : SilicaProgram → SilicaTerms → List Rest → Configuration → NextStep
run_step program no_terms outer c = pop_step program outer c
run_step program (and_term form span rest) outer c = act program form rest outer c

-- the step of what a frame is about to do
abbrev pub control_step : SilicaProgram → Control → Configuration → NextStep
control_step program (runs terms outer) c = run_step program terms outer c
control_step program (leaves result outer) c = leave_step result outer c

-- the step of a configuration
abbrev pub step : SilicaProgram → Configuration → NextStep
step program c = control_step program c.control c

-- what follows a step, unless the run has ended
abbrev pub then_steps : NextStep → (Configuration → NextStep) → NextStep
then_steps (goes c) go = go c
then_steps (ended result w) go = ended result w
then_steps (aborted cause w) go = aborted cause w
then_steps stuck go = stuck

-- at most so many steps
abbrev pub steps : SilicaProgram → ℕ → Configuration → NextStep
steps program zero c = goes c
steps program (suc n) c = then_steps (step program c) (steps program n)
