-- What a body holds is computed form by form.
use Rattle.std.proofs.Common.{◌≤◌, true≢false, refl, sym, arith}
use Rattle.ob_base.specs.Limits.{most_slots}
use Rattle.ob_examples.specs.VendingMachine.{vending_machine}
use Rattle.ob_silica_formed.specs.WellFormedTerms.{IsWellFormedTerms}
use Rattle.ob_examples.specs.BuyBodies.{buy_lowered}
use Rattle.ob_examples.proofs.terms.well_formed_and_other_terms.Goals as goal

few_slots : buy_lowered.slots ≤ most_slots
unfolding most_slots
few_slots = omega arith

well_formed : IsWellFormedTerms vending_machine buy_lowered
well_formed = record {
  numbers = record {
    forms = (tt, tt, (tt, tt, (tt, tt, ((tt, refl, refl), tt, (tt, tt, ((omega arith, tt), tt, (tt, tt, ((tt, refl), tt, (tt, tt, ((tt, tt), tt, ((refl, tt), tt, (tt, tt, (tt, tt, tt)))))))))))));
    slots = omega arith;
    few = few_slots;
  };
  kinds = (tt, tt, (refl, tt, (tt, tt, ((refl, refl), tt, (tt, tt, ((tt, λ i j d lt within. absurd (omega arith)), tt, (tt, tt, ((refl, tt), tt, (refl, tt, ((refl, refl), tt, ((refl, refl), tt, (tt, tt, (tt, tt, tt)))))))))))));
  results = (tt, tt, (tt, tt, (tt, tt, (tt, tt, (tt, tt, (tt, tt, (tt, tt, (tt, tt, (tt, tt, (tt, tt, (tt, tt, (tt, tt, (tt, tt, tt)))))))))))));
  params = (tt, tt, (tt, tt, (tt, tt, (omega arith, tt, (tt, tt, (tt, tt, (tt, tt, (omega arith, tt, (omega arith, tt, (omega arith, tt, (tt, tt, (tt, tt, (tt, tt, tt)))))))))))));
  references = (tt, tt, (tt, tt, (tt, tt, (tt, tt, (tt, tt, (tt, tt, (tt, tt, (refl, tt, (refl, tt, (refl, tt, (tt, tt, (tt, tt, (tt, tt, tt)))))))))))));
  bodies = (tt, tt, (tt, tt, (tt, tt, (tt, tt, (tt, tt, (tt, tt, (tt, tt, (tt, tt, (tt, tt, (tt, tt, (tt, tt, (tt, tt, (tt, tt, tt)))))))))))));
  returns = (tt, tt, (tt, tt, (tt, tt, (tt, tt, (tt, tt, (tt, tt, (tt, tt, (tt, tt, (tt, tt, (tt, tt, (tt, tt, (tt, tt, (refl, tt, tt)))))))))))));
  turns = (tt, tt, (tt, tt, (tt, tt, (tt, tt, (tt, tt, (tt, tt, (tt, tt, (tt, tt, (tt, tt, (tt, tt, (tt, tt, (tt, tt, (tt, tt, tt)))))))))))));
  ends = refl;
  reached = (λ e. absurd (true≢false (sym e)), tt, (λ e. absurd (true≢false (sym e)), tt, (λ e. absurd (true≢false (sym e)), tt, (λ e. absurd (true≢false (sym e)), tt, (λ e. absurd (true≢false (sym e)), tt, (λ e. absurd (true≢false (sym e)), tt, (λ e. absurd (true≢false (sym e)), tt, (λ e. absurd (true≢false (sym e)), tt, (λ e. absurd (true≢false (sym e)), tt, (λ e. absurd (true≢false (sym e)), tt, (λ e. absurd (true≢false (sym e)), tt, (λ e. absurd (true≢false (sym e)), tt, (λ e. refl, tt, tt)))))))))))));
}

pub returns : goal.returns
returns c = record {
  well_formed = well_formed;
  short = λ h. omega (arith, h.numbers.slots);
  dropping = λ h. omega (arith, h.params.0);
  losing = λ h. true≢false h.references.2.0;
  large = λ h. true≢false (sym h.kinds.0);
  returning = λ h. true≢false (sym h.returns.0);
}
