-- What the step at a text's front takes up.
use Rattle.std.proofs.Common.{ℕ, ◌≡◌, List, length, take, drop, Result, Ok, Err, IfOk, sym, ap, ◌∙◌, arith, length-drop}
use Rattle.std.proofs.lemmas.List.{length-take-le}
use Rattle.ob_base.specs.declared.cause.Memory.{Memory}
use Rattle.ob_base.specs.declared.fault.ProgramFault.{ProgramFault}
use Rattle.ob_lexer.specs.declared.position.Position.{Position}
use Rattle.ob_lexer.specs.declared.step.Step.{Step}
use Rattle.ob_lexer.specs.declared.step.Step.TheVariants as step
use Rattle.ob_lexer.specs.Flaws.{flaw_at}
use Rattle.ob_lexer.specs.Reading.{IsStepAt, fault_after, BeginsWith}

pub gives_step : (result : Result Step Memory) (is : Step) (text : List ℕ) → IfOk result (λ s. s ≡ is) → IsStepAt text is → IfOk result (IsStepAt text)
gives_step (Ok s) is text same at = rw same at
gives_step (Err e) is text same at = tt

pub begins_with : (position : Position) (text : List ℕ) (number before count : ℕ) (fault : ProgramFault) → IsStepAt text (step.Flaw number before count) → fault ≡ fault_after number position (take before text) count → BeginsWith position text fault
begins_with position text number before count fault at is =
    let many : length (take count (drop before text)) ≡ count = length-take-le count (drop before text) (omega (arith, at.within, length-drop before text)) in
    record {
      flaw = flaw_at number (take before text) (take count (drop before text));
      begins = at.begins;
      is = is ∙ ap (fault_after number position (take before text)) (sym many);
    }
