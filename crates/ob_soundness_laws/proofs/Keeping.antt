-- Each step from a coherent configuration comes to another one, to an end, or to an abort.
use Rattle.std.proofs.Common.{◌≡◌, ℕ, List, [], Option, refl, sym, ◌∙◌}
use Rattle.ob_base.specs.declared.fault.Span.{Span}
use Rattle.ob_silica.specs.Terms.{SilicaForm, unit_form, const_form, op_form, copy_form, move_form, new_form, call_form, call_this_form, change_form, test_form, if_form, loop_form, assert_form, disown_form, drop_form, return_form, revert_form, bad_row_form, SilicaTerms, no_terms, and_term}
use Rattle.ob_silica_steps.specs.Cells.{Cell}
use Rattle.ob_silica_steps.specs.Configurations.{SilicaProgram, Rest, Control, runs, leaves, Configuration}
use Rattle.ob_silica_steps.specs.Steps.{act, run_step, control_step}
use Rattle.ob_coherent_spec.specs.Coherent.{Beginning, IsRunning, IsCoherent, running, leaving, returning, StepsSo}
use Rattle.ob_coherent_spec.specs.Remaining.{IsCheckedProgram}
use Rattle.ob_soundness_laws.proofs.forms.Straight.{const_keeps, op_keeps, drop_keeps, assert_keeps, revert_keeps, bad_row_keeps, unit_keeps}
use Rattle.ob_soundness_laws.proofs.forms.Moving.{disown_keeps}
use Rattle.ob_soundness_laws.proofs.forms.Forms.{copy_keeps, move_keeps}
use Rattle.ob_soundness_laws.proofs.tests.Conditions.{if_keeps}
use Rattle.ob_soundness_laws.proofs.tests.Loops.{loop_keeps}
use Rattle.ob_soundness_laws.proofs.tests.Testing.{test_keeps}
use Rattle.ob_soundness_laws.proofs.tests.Popping.{pop_keeps}
use Rattle.ob_soundness_laws.proofs.changes.Changing.{change_keeps}
use Rattle.ob_soundness_laws.proofs.calls.Calling.{call_steps}
use Rattle.ob_soundness_laws.proofs.on_this.Calling.{call_this_steps}
use Rattle.ob_soundness_laws.proofs.news.Making.{new_steps}
use Rattle.ob_soundness_laws.proofs.returns.Return.{return_keeps}
use Rattle.ob_soundness_laws.proofs.returns.Silent.{leave_keeps}
use Rattle.ob_soundness_laws.specs.Running.{StepsKeep}

module _ (program : SilicaProgram) (is : IsCheckedProgram program) (entry : Option ℕ) (beginning : Beginning) (c : Configuration) where
  -- each form
  form_keeps : (form : SilicaForm) (span : Span) (rest : SilicaTerms) (outer : List Rest) → IsRunning program.table entry beginning c
      → c.control ≡ runs (and_term form span rest) outer → StepsSo program.table entry beginning (act program form rest outer c)
  form_keeps unit_form span rest outer k so = unit_keeps program is entry beginning c k span rest outer so
  form_keeps (const_form n value) span rest outer k so = const_keeps program is entry beginning c k span rest outer n value so
  form_keeps (op_form n operator a b line) span rest outer k so = op_keeps program is entry beginning c k span rest outer n operator a b line so
  form_keeps (copy_form to from) span rest outer k so = copy_keeps program is entry beginning c k span rest outer to from so
  form_keeps (move_form to from contract) span rest outer k so = move_keeps program is entry beginning c k span rest outer to from contract so
  form_keeps (new_form n contract args) span rest outer k so = new_steps program is entry beginning c k n contract args span rest outer so
  form_keeps (call_form result receiver contract tx args) span rest outer k so =
      call_steps program is entry beginning c k result receiver contract tx args span rest outer so
  form_keeps (call_this_form result tx args) span rest outer k so = call_this_steps program is entry beginning c k result tx args span rest outer so
  form_keeps (change_form state given) span rest outer k so = change_keeps program entry beginning c state given span rest outer is k so
  form_keeps (test_form o state branch other join) span rest outer k so =
      test_keeps program entry beginning c is k o state branch other join span rest outer so
  form_keeps (if_form a branch other join) span rest outer k so = if_keeps program entry beginning c a branch other join span rest outer is k so
  form_keeps (assert_form o perm) span rest outer k so = assert_keeps program is entry beginning c k span rest outer o perm so
  form_keeps (disown_form o) span rest outer k so = disown_keeps program is entry beginning c k span rest outer o so
  form_keeps (drop_form n) span rest outer k so = drop_keeps program is entry beginning c k span rest outer n so
  form_keeps (return_form value) span rest outer k so = return_keeps program entry beginning c value span rest outer is k so
  form_keeps (revert_form text) span rest outer k so = revert_keeps program is entry beginning c k span rest outer text so
  form_keeps bad_row_form span rest outer k so = bad_row_keeps program is entry beginning c k span rest outer so
  form_keeps (loop_form first a body end) span rest outer k so = loop_keeps program entry beginning c first a body end span rest outer is k so

  -- the current list
  terms_keep : (terms : SilicaTerms) (outer : List Rest) → IsRunning program.table entry beginning c → c.control ≡ runs terms outer
      → StepsSo program.table entry beginning (run_step program terms outer c)
  terms_keep no_terms outer k so = pop_keeps program entry beginning c outer is k so
  terms_keep (and_term form span rest) outer k so = form_keeps form span rest outer k so

  -- a frame that leaves doesn't run
  runs_only : (terms : SilicaTerms) (outer : List Rest) → c.control ≡ runs terms outer → IsCoherent program.table entry beginning c
      → IsRunning program.table entry beginning c
  runs_only terms outer so (running k) = k
  runs_only terms outer so (leaving k) = absurd (never terms outer k.result k.outer (sym so ∙ k.control))
    where
      never : (terms : SilicaTerms) (outer : List Rest) (result : Option Cell) (lists : List Rest) → runs terms outer ≡ leaves result lists → ⊥
      never terms outer result lists e = cc
  runs_only terms outer so (returning k) = absurd (never terms outer k.result (sym so ∙ k.control))
    where
      never : (terms : SilicaTerms) (outer : List Rest) (result : Option Cell) → runs terms outer ≡ leaves result [] → ⊥
      never terms outer result e = cc

  -- what the frame is about to do
  control_keeps : (control : Control) → c.control ≡ control → IsCoherent program.table entry beginning c
      → StepsSo program.table entry beginning (control_step program control c)
  control_keeps (runs terms outer) so k = terms_keep terms outer (runs_only terms outer so k) so
  control_keeps (leaves result outer) so k = leave_keeps program.table entry beginning is.table c result outer so k

-- steps keep to coherent configurations, and none is stuck
pub steps_keep : StepsKeep
steps_keep program entry beginning c is k = control_keeps program is entry beginning c c.control refl k
