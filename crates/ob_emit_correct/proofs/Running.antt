-- Runs: the machine does each step of the terms, and so it ends as they do.
use Rattle.std.proofs.Common.{◌≡◌, ℕ, zero, suc, ◌+◌, List, Option, Some, refl, sym, ap, ◌∙◌, subst}
use Rattle.ob_base.specs.declared.fault.Span.{Span}
use Rattle.ob_heap_spec.specs.Worlds.{SameWorld}
use Rattle.ob_silica.specs.Terms.{SilicaForm, unit_form, const_form, op_form, copy_form, move_form, new_form, call_form, call_this_form, change_form, test_form, if_form, loop_form, assert_form, disown_form, drop_form, return_form, revert_form, bad_row_form, SilicaTerms, no_terms, and_term}
use Rattle.ob_silica_steps.specs.Calling.{constructor_id}
use Rattle.ob_silica_steps.specs.Configurations.{SilicaProgram, Rest, runs, Configuration, NextStep, goes, ended, aborted, stuck}
use Rattle.ob_silica_steps.specs.Starting.{first_notes, started_call, started_new}
use Rattle.ob_silica_steps.specs.Steps.{act, run_step, control_step, step, then_steps, steps}
use Rattle.ob_coherent_spec.specs.Coherent.{Beginning, IsCoherent, StepsSo}
use Rattle.ob_coherent_spec.specs.Remaining.{IsCheckedProgram}
use Rattle.ob_machine_steps.specs.Configurations as machine
use Rattle.ob_machine_steps.specs.Entries.{Phase, starting, running, marked_world}
use Rattle.ob_machine_steps.specs.Outcomes.{entry_of_constructor, entry_of_transaction}
use Rattle.ob_machine_steps.specs.Runs.{paused, after_steps}
use Rattle.ob_emit_correct.specs.Law.{code_of, EndsAlike, CallsEndAlike, NewsEndAlike}
use Rattle.ob_emit_correct.proofs.Branching.{if_does, loop_does, pop_does}
use Rattle.ob_emit_correct.proofs.Calling.{call_does, call_this_does, new_does}
use Rattle.ob_emit_correct.proofs.Changing.{change_does}
use Rattle.ob_emit_correct.proofs.Leaving.{leave_does}
use Rattle.ob_emit_correct.proofs.Matching.{GoesOnWith, kind_given_by, AllWaitFor, Matches, as_running, as_leaving, DoesTo, Does}
use Rattle.ob_emit_correct.proofs.Placed.{FormStep, running_of}
use Rattle.ob_emit_correct.proofs.Placing.{KindsHold}
use Rattle.ob_emit_correct.proofs.Returning.{return_does}
use Rattle.ob_emit_correct.proofs.Starting.{call_starts, new_starts}
use Rattle.ob_emit_correct.proofs.Stepping.{after_more}
use Rattle.ob_emit_correct.proofs.Straight.{unit_does, const_does, op_does, copy_does, move_does, assert_does, disown_does, drop_does, revert_does}
use Rattle.ob_emit_correct.proofs.Testing.{test_does}

-- Forms.

-- the step of a form
form_does : (program : SilicaProgram) (form : SilicaForm) (span : Span) (rest : SilicaTerms) (outer : List Rest)
    (c : Configuration) (m : machine.Configuration)
    → FormStep program form span rest outer c m → Does program m (act program form rest outer c)
form_does program unit_form span rest outer c m x = unit_does x
form_does program (const_form k value) span rest outer c m x = const_does x
form_does program (op_form k operator a b line) span rest outer c m x = op_does x
form_does program (copy_form to from) span rest outer c m x = copy_does x
form_does program (move_form to from contract) span rest outer c m x = move_does x
form_does program (new_form k contract args) span rest outer c m x = new_does x
form_does program (call_form k receiver contract tx args) span rest outer c m x = call_does x
form_does program (call_this_form k tx args) span rest outer c m x = call_this_does x
form_does program (change_form state given) span rest outer c m x = change_does x
form_does program (test_form o state branch other join) span rest outer c m x = test_does x
form_does program (if_form o branch other join) span rest outer c m x = if_does x
form_does program (loop_form first o body end) span rest outer c m x = loop_does x
form_does program (assert_form o perm) span rest outer c m x = assert_does x
form_does program (disown_form o) span rest outer c m x = disown_does x
form_does program (drop_form k) span rest outer c m x = drop_does x
form_does program (return_form place) span rest outer c m x = return_does place x
form_does program (revert_form o) span rest outer c m x = revert_does x
form_does program bad_row_form span rest outer c m x = record { by = tt }

module _ (program : SilicaProgram) (checked : IsCheckedProgram program) (entry : Option ℕ) (beginning : Beginning) where
  -- the step of a frame that runs terms
  run_does : (c : Configuration) (m : machine.Configuration) → IsCoherent program.table entry beginning c
      → (terms : SilicaTerms) (outer : List Rest)
      → ((d : Configuration) → run_step program terms outer c ≡ goes d → IsCoherent program.table entry beginning d)
      → c.control ≡ runs terms outer → (g : GoesOnWith program c.frame terms outer m.top) → KindsHold g.holdings c.frame.slots
      → AllWaitFor program (kind_given_by program c.frame) c.stack m.top.into m.below → SameWorld c.world m.world
      → Does program m (run_step program terms outer c)
  run_does c m coherent no_terms outer next control g kinds below world = pop_does program c m outer g kinds below world
  run_does c m coherent (and_term form span rest) outer next control g kinds below world =
      form_does program form span rest outer c m (record {
        checked = checked;
        entry = entry;
        beginning = beginning;
        coherent = running_of (and_term form span rest) outer control coherent;
        next = next;
        goes_on = g;
        kinds = kinds;
        below = below;
        world = world;
      })

  -- one step
  step_does : (c : Configuration) (m : machine.Configuration) → IsCoherent program.table entry beginning c
      → ((d : Configuration) → step program c ≡ goes d → IsCoherent program.table entry beginning d) → Matches program c m
      → Does program m (step program c)
  step_does c m coherent next (as_running r) =
      subst (λ k. Does program m (control_step program k c)) (sym r.control)
      (run_does c m coherent r.terms r.outer (λ d e. next d (ap (λ k. control_step program k c) r.control ∙ e))
      r.control r.goes_on r.kinds r.below r.world)
  step_does c m coherent next (as_leaving l) = leave_does program entry beginning c m coherent l

  -- Steps, one after another.

  -- what follows more steps
  ends_on : (p : Phase) (n : ℕ) (m : machine.Configuration) (next : NextStep)
      → after_steps (code_of program) n p ≡ Some (paused (running m))
      → EndsAlike (code_of program) (running m) next → EndsAlike (code_of program) p next
  ends_on p n m (goes c) e h = tt
  ends_on p n m (ended result w) e (k, v, after, same) =
      (n + k, v, after_more (code_of program) n k p (running m) _ e after, same)
  ends_on p n m (aborted cause s) e (k, t, after, same) =
      (n + k, t, after_more (code_of program) n k p (running m) _ e after, same)
  ends_on p n m stuck e h = tt

  -- a step, and those after it
  ends_next : (p : Phase) (next : NextStep) (k : ℕ) → DoesTo program p next
      → ((d : Configuration) (m : machine.Configuration) → next ≡ goes d → Matches program d m
      → EndsAlike (code_of program) (running m) (steps program k d))
      → EndsAlike (code_of program) p (then_steps next (steps program k))
  ends_next p (goes d) k (n, m, after, matched) go = ends_on p n m (steps program k d) after (go d m refl matched)
  ends_next p (ended result w) k d go = d
  ends_next p (aborted cause s) k d go = d
  ends_next p stuck k d go = tt

  -- a run is coherent wherever it is
  abbrev AllSo : NextStep → Type 0
  AllSo next = (k : ℕ) → StepsSo program.table entry beginning (then_steps next (steps program k))

  from_next : (next : NextStep) (d : Configuration) → next ≡ goes d → AllSo next → (k : ℕ)
      → StepsSo program.table entry beginning (steps program k d)
  from_next next d e all k = subst (λ x. StepsSo program.table entry beginning (then_steps x (steps program k))) e (all k)

  -- so many steps from configurations that match
  steps_end : (k : ℕ) (c : Configuration) (m : machine.Configuration)
      → ((j : ℕ) → StepsSo program.table entry beginning (steps program j c))
      → Matches program c m → EndsAlike (code_of program) (running m) (steps program k c)
  steps_end zero c m all matched = tt
  steps_end (suc k) c m all matched =
      ends_next (running m) (step program c) k
      (step_does c m (all 0) (λ d e. from_next (step program c) d e (λ j. all (suc j)) 0) matched).by
      (λ d n e g. steps_end k d n (from_next (step program c) d e (λ j. all (suc j))) g)

  -- a run from where it starts
  run_ends : (p : Phase) (start : NextStep) → DoesTo program p start → AllSo start → (k : ℕ)
      → EndsAlike (code_of program) p (then_steps start (steps program k))
  run_ends p start d all k = ends_next p start k d (λ c m e g. steps_end k c m (from_next start c e all) g)

-- The laws.

pub calls_end : CallsEndAlike
calls_end program contract tx n args handles w entry beginning checked all k =
    run_ends program checked entry beginning
    (starting (entry_of_transaction contract tx n args)
    (marked_world (code_of program) (entry_of_transaction contract tx n args) w))
    (started_call program contract tx n args (first_notes program.table w.objects handles) w)
    (call_starts program checked entry beginning contract tx n args (first_notes program.table w.objects handles) w
    (λ d e. from_next program checked entry beginning _ d e all 0)) all k

pub news_end : NewsEndAlike
news_end program contract args handles w entry beginning checked all k =
    run_ends program checked entry beginning
    (starting (entry_of_constructor contract args constructor_id)
    (marked_world (code_of program) (entry_of_constructor contract args constructor_id) w))
    (started_new program contract args (first_notes program.table w.objects handles) w)
    (new_starts program checked entry beginning contract args (first_notes program.table w.objects handles) w
    (λ d e. from_next program checked entry beginning _ d e all 0)) all k
