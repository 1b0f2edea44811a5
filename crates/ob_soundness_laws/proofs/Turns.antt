-- Where a run comes to a Loop, its turn takes a unit at first.
use Rattle.std.proofs.Common.{◌≡◌, ℕ, List, [], Option, refl}
use Rattle.ob_base.specs.declared.fault.Span.{Span}
use Rattle.ob_table.specs.Tables.{ClassTable}
use Rattle.ob_silica.specs.Terms.{SilicaForm, loop_form, SilicaTerms, no_terms, and_term}
use Rattle.ob_silica.specs.declared.place.Operand.{Operand}
use Rattle.ob_silica_formed.specs.Points.{BeginsWithUnit}
use Rattle.ob_silica_steps.specs.Cells.{Cell}
use Rattle.ob_silica_steps.specs.Configurations.{Rest, Control, runs, leaves, Configuration, NextStep, goes, ended, aborted, stuck}
use Rattle.ob_silica_laws.specs.Laws.{TurnTakesUnit, NextTurnTakesUnit}
use Rattle.ob_coherent_spec.specs.Remaining.{body_of}
use Rattle.ob_coherent_spec.specs.Coherent.{Beginning, IsRunning, IsCoherent, running, leaving, returning, StepsSo}
use Rattle.ob_soundness_laws.proofs.remaining.Remaining.{first_formed}
use Rattle.ob_soundness_laws.proofs.tests.Unchanged.{remains_so}

module _ (table : ClassTable) (entry : Option ℕ) (beginning : Beginning) (c : Configuration) where
  -- a frame that leaves comes to no Loop
  leaves_none : (control : Control) (result : Option Cell) (outer : List Rest) → control ≡ leaves result outer → TurnTakesUnit control
  leaves_none (leaves result outer) other lists e = tt
  leaves_none (runs terms outer) other lists e = absurd (cc)

  unit_first : (first : SilicaTerms) (a : Operand) (body : SilicaTerms) (end span : Span) (rest : SilicaTerms) (outer : List Rest)
      → IsRunning table entry beginning c → c.control ≡ runs (and_term (loop_form first a body end) span rest) outer → BeginsWithUnit first
  unit_first first a body end span rest outer k is =
      (first_formed (body_of table c.frame k.whole.parts) k.holdings k.context (loop_form first a body end) span rest outer
      (remains_so table entry beginning c k (and_term (loop_form first a body end) span rest) outer is)).turns.0

  form_pays : (form : SilicaForm) (span : Span) (rest : SilicaTerms) (outer : List Rest) → IsRunning table entry beginning c
      → c.control ≡ runs (and_term form span rest) outer → TurnTakesUnit (runs (and_term form span rest) outer)
  form_pays (loop_form first a body end) span rest outer k is = unit_first first a body end span rest outer k is
  form_pays form span rest outer k is = tt

  control_pays : (control : Control) → IsRunning table entry beginning c → c.control ≡ control → TurnTakesUnit control
  control_pays (runs no_terms outer) k is = tt
  control_pays (runs (and_term form span rest) outer) k is = form_pays form span rest outer k is
  control_pays (leaves result outer) k is = tt

  pays : IsCoherent table entry beginning c → TurnTakesUnit c.control
  pays (running k) = control_pays c.control k refl
  pays (leaving k) = leaves_none c.control k.result k.outer k.control
  pays (returning k) = leaves_none c.control k.result [] k.control

-- a coherent run pays each turn
pub turns_taken : (table : ClassTable) (entry : Option ℕ) (beginning : Beginning) (next : NextStep) → StepsSo table entry beginning next
    → NextTurnTakesUnit next
turns_taken table entry beginning (goes c) so = pays table entry beginning c so
turns_taken table entry beginning (ended result w) so = tt
turns_taken table entry beginning (aborted cause s) so = tt
turns_taken table entry beginning stuck so = tt
