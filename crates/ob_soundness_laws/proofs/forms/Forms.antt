-- Copies and moves, whatever place they write.
use Rattle.std.proofs.Common.{◌≡◌, ℕ, ◌<◌, List, Option, arith}
use Rattle.ob_base.specs.declared.fault.Span.{Span}
use Rattle.ob_base.specs.declared.id.ContractId.{ContractId}
use Rattle.ob_silica.specs.Terms.{SilicaTerms, copy_form, move_form, and_term}
use Rattle.ob_silica.specs.declared.place.Operand.{Operand}
use Rattle.ob_silica.specs.declared.place.Place.{Place}
use Rattle.ob_silica.specs.declared.place.Place.TheVariants.{This, Slot, Field}
use Rattle.ob_silica_steps.specs.Configurations.{SilicaProgram, Rest, runs, Configuration}
use Rattle.ob_silica_steps.specs.Steps.{act}
use Rattle.ob_coherent_spec.specs.Remaining.{IsCheckedProgram}
use Rattle.ob_coherent_spec.specs.Coherent.{Beginning, IsRunning, StepsSo}
use Rattle.ob_soundness_laws.proofs.forms.Straight.{formed, copy_slot_keeps}
use Rattle.ob_soundness_laws.proofs.forms.Moving.{move_slot_keeps}
use Rattle.ob_soundness_laws.proofs.forms.Fields.{copy_field_keeps}
use Rattle.ob_soundness_laws.proofs.forms.Filling.{move_field_keeps}

module _ (program : SilicaProgram) (checked : IsCheckedProgram program) (entry : Option ℕ) (beginning : Beginning)
    (c : Configuration)
    (k : IsRunning program.table entry beginning c) (span : Span) (rest : SilicaTerms) (outer : List Rest) where
  none_below : (n : ℕ) → n < 0 → ⊥
  none_below n below = omega (arith, below)

  pub copy_keeps : (to : Place) (from : Operand) → c.control ≡ runs (and_term (copy_form to from) span rest) outer
      → StepsSo program.table entry beginning (act program (copy_form to from) rest outer c)
  copy_keeps This from so =
      absurd (none_below _ (formed program checked entry beginning c k (copy_form This from) span rest outer so).params)
  copy_keeps (Slot n) from so = copy_slot_keeps program checked entry beginning c k span rest outer n from so
  copy_keeps (Field id) from so = copy_field_keeps program checked entry beginning c k span rest outer id from so

  pub move_keeps : (to : Place) (from : Operand) (contract : Option ContractId)
      → c.control ≡ runs (and_term (move_form to from contract) span rest) outer
      → StepsSo program.table entry beginning (act program (move_form to from contract) rest outer c)
  move_keeps This from contract so =
      absurd (none_below _ (formed program checked entry beginning c k
      (move_form This from contract) span rest outer so).params)
  move_keeps (Slot n) from contract so = move_slot_keeps program checked entry beginning c k span rest outer n from
      contract so
  move_keeps (Field id) from contract so = move_field_keeps program checked entry beginning c k span rest outer id from
      contract so
