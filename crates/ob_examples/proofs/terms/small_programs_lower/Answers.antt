-- Each body has its terms by the cases of the relation; the slots are named where one is chosen.
use Rattle.std.proofs.Common.{[], ◌∷◌, refl}
use Rattle.ob_examples.specs.VendingMachine.{vending_machine}
use Rattle.ob_examples.specs.VendingMachineTerms.{vending_terms}
use Rattle.ob_examples.specs.Lights.{lights}
use Rattle.ob_examples.specs.LightsTerms.{light_terms}
use Rattle.ob_examples.specs.Reentry.{reentry}
use Rattle.ob_examples.specs.ReentryTerms.{reentry_terms}
use Rattle.ob_examples.specs.Arithmetic.{arithmetic}
use Rattle.ob_examples.specs.ArithmeticTerms.{arithmetic_terms}
use Rattle.ob_lower_spec.specs.ExpressionTerms.{calls_this, calls_other}
use Rattle.ob_lower_spec.specs.BodyTerms.{AllLower}
use Rattle.ob_examples.proofs.Free.{free}
use Rattle.ob_examples.proofs.terms.small_programs_lower.Goals as goal

vending : AllLower vending_machine vending_machine.bodies vending_terms.bodies
vending = (
  record { contract = refl; tx = refl; block = _; statements = (_, _, (refl, refl), refl); terms = refl; slots = refl; end = refl },
  (
    record { contract = refl; tx = refl; block = _; statements = (_, _, (refl, refl), refl); terms = refl; slots = refl; end = refl },
    (
      record { contract = refl; tx = refl; block = _; statements = (_, _, (_, _, (_, (1, free 1 (0 ∷ []) refl, refl), _, refl, _, refl, refl, refl), _, (_, _, (_, refl, refl, refl), _, (refl, refl), refl), refl), refl); terms = refl; slots = refl; end = refl },
      (
        record { contract = refl; tx = refl; block = _; statements = (_, _, (_, _, (_, (_, refl, refl), refl, refl), _, (_, _, (2, free 2 (1 ∷ 0 ∷ []) refl, _, (_, refl, _, refl, refl), refl, refl), _, (_, _, (_, refl, refl, refl), _, (_, _, (_, (_, (_, refl, _, refl, (3, free 3 (2 ∷ 1 ∷ 0 ∷ []) refl, refl)), _, (4, free 4 (3 ∷ 2 ∷ 1 ∷ 0 ∷ []) refl, refl), 5, free 5 (3 ∷ 4 ∷ 2 ∷ 1 ∷ 0 ∷ []) refl, refl), _, refl, _, refl, refl, refl), _, (_, _, (_, (_, (_, refl, _, refl, refl), refl), refl, refl), _, (refl, refl), refl), refl), refl), refl), refl), refl); terms = refl; slots = refl; end = refl },
        tt,
      ),
    ),
  ),
)

light : AllLower lights lights.bodies light_terms.bodies
light = (
  record { contract = refl; tx = refl; block = _; statements = (_, _, (_, _, (_, refl, refl, refl), _, (refl, refl), refl), refl); terms = refl; slots = refl; end = refl },
  (
    record { contract = refl; tx = refl; block = _; statements = (_, _, (_, _, (_, refl, refl, refl), _, (refl, refl), refl), refl); terms = refl; slots = refl; end = refl },
    (
      record { contract = refl; tx = refl; block = _; statements = (_, _, (refl, refl), refl); terms = refl; slots = refl; end = refl },
      (
        record { contract = refl; tx = refl; block = _; statements = (_, _, (_, _, (_, (_, (_, refl, 1, free 1 (0 ∷ []) refl, refl), refl), refl, refl), _, (refl, refl), refl), refl); terms = refl; slots = refl; end = refl },
        (
          record { contract = refl; tx = refl; block = _; statements = (_, _, (_, _, (3, free 3 (2 ∷ 1 ∷ 0 ∷ []) refl, _, (_, refl, 4, free 4 (3 ∷ 2 ∷ 1 ∷ 0 ∷ []) refl, refl), refl, refl), _, (_, _, (_, (_, refl, refl), _, (_, _, (_, _, (_, (_, refl, _, calls_other refl, refl), refl, refl), _, (refl, refl), refl), refl), _, refl, refl, refl), _, (refl, refl), refl), refl), refl); terms = refl; slots = refl; end = refl },
          tt,
        ),
      ),
    ),
  ),
)

calling : AllLower reentry reentry.bodies reentry_terms.bodies
calling = (
  record { contract = refl; tx = refl; block = _; statements = (_, _, (refl, refl), refl); terms = refl; slots = refl; end = refl },
  (
    record { contract = refl; tx = refl; block = _; statements = (_, _, (_, _, (_, (_, (_, refl, _, refl, 2, free 2 (1 ∷ 0 ∷ []) refl, _, calls_other refl, refl), refl), refl, refl), _, (refl, refl), refl), refl); terms = refl; slots = refl; end = refl },
    (
      record { contract = refl; tx = refl; block = _; statements = (_, _, (_, _, (_, (1, free 1 (0 ∷ []) refl, refl), _, refl, _, refl, refl, refl), _, (refl, refl), refl), refl); terms = refl; slots = refl; end = refl },
      (
        record { contract = refl; tx = refl; block = _; statements = (_, _, (_, _, (_, (_, (_, refl, _, refl, (1, free 1 (0 ∷ []) refl, refl)), refl), refl, refl), _, (refl, refl), refl), refl); terms = refl; slots = refl; end = refl },
        (
          record { contract = refl; tx = refl; block = _; statements = (_, _, (_, _, (1, free 1 (0 ∷ []) refl, _, (_, refl, 2, free 2 (1 ∷ 0 ∷ []) refl, refl), refl, refl), _, (_, _, (_, (_, (_, (_, (_, refl, _, refl, refl), _, refl, refl), _, refl, 2, free 2 (1 ∷ 0 ∷ []) refl, _, calls_other refl, refl), refl), refl, refl), _, (refl, refl), refl), refl), refl); terms = refl; slots = refl; end = refl },
          (
            record { contract = refl; tx = refl; block = _; statements = (_, _, (_, _, (_, (_, (_, refl, _, refl, 1, free 1 (0 ∷ []) refl, _, calls_this, refl), refl), refl, refl), _, (refl, refl), refl), refl); terms = refl; slots = refl; end = refl },
            tt,
          ),
        ),
      ),
    ),
  ),
)

dividing : AllLower arithmetic arithmetic.bodies arithmetic_terms.bodies
dividing = (
  record { contract = refl; tx = refl; block = _; statements = (_, _, (refl, refl), refl); terms = refl; slots = refl; end = refl },
  (
    record { contract = refl; tx = refl; block = _; statements = (_, _, (_, _, (_, (_, (_, (_, refl, _, refl, (3, free 3 (2 ∷ 1 ∷ 0 ∷ []) refl, refl)), _, (_, refl, _, refl, (4, free 4 (3 ∷ 2 ∷ 1 ∷ 0 ∷ []) refl, refl)), 5, free 5 (3 ∷ 4 ∷ 2 ∷ 1 ∷ 0 ∷ []) refl, refl), refl), refl, refl), _, (refl, refl), refl), refl); terms = refl; slots = refl; end = refl },
    (
      record { contract = refl; tx = refl; block = _; statements = (_, _, (_, _, (_, (_, (_, (_, refl, _, refl, (3, free 3 (2 ∷ 1 ∷ 0 ∷ []) refl, refl)), _, (_, refl, _, refl, (4, free 4 (3 ∷ 2 ∷ 1 ∷ 0 ∷ []) refl, refl)), 5, free 5 (3 ∷ 4 ∷ 2 ∷ 1 ∷ 0 ∷ []) refl, refl), refl), refl, refl), _, (refl, refl), refl), refl); terms = refl; slots = refl; end = refl },
      (
        record { contract = refl; tx = refl; block = _; statements = (_, _, (_, _, (_, (_, (_, (_, (_, refl, _, refl, (3, free 3 (2 ∷ 1 ∷ 0 ∷ []) refl, refl)), _, (_, refl, _, refl, (4, free 4 (3 ∷ 2 ∷ 1 ∷ 0 ∷ []) refl, refl)), 5, free 5 (3 ∷ 4 ∷ 2 ∷ 1 ∷ 0 ∷ []) refl, refl), _, (_, (_, refl, _, refl, (6, free 6 (3 ∷ 4 ∷ 5 ∷ 2 ∷ 1 ∷ 0 ∷ []) refl, refl)), _, (_, refl, _, refl, (7, free 7 (6 ∷ 3 ∷ 4 ∷ 5 ∷ 2 ∷ 1 ∷ 0 ∷ []) refl, refl)), 8, free 8 (6 ∷ 7 ∷ 3 ∷ 4 ∷ 5 ∷ 2 ∷ 1 ∷ 0 ∷ []) refl, refl), 9, free 9 (3 ∷ 4 ∷ 5 ∷ 6 ∷ 7 ∷ 8 ∷ 2 ∷ 1 ∷ 0 ∷ []) refl, refl), refl), refl, refl), _, (refl, refl), refl), refl); terms = refl; slots = refl; end = refl },
        tt,
      ),
    ),
  ),
)

pub returns : goal.returns
returns c = record { vending = vending; light = light; calling = calling; dividing = dividing }
