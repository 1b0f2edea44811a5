-- The runs are computed, and each body has its terms by the cases of the relation; the slots are named where one is chosen.
use Rattle.std.proofs.Common.{[], ◌∷◌, refl}
use Rattle.ob_perm.specs.States.{states_max}
use Rattle.ob_perm.specs.Masks.{states_of}
use Rattle.ob_lower_spec.specs.ExpressionTerms.{calls_this}
use Rattle.ob_lower_spec.specs.BodyTerms.{AllLower}
use Rattle.ob_examples.specs.Lamp.{lamp}
use Rattle.ob_examples.specs.LampTerms.{lamp_terms}
use Rattle.ob_examples.proofs.Free.{free}
use Rattle.ob_examples.proofs.terms.lamp_lowers.Goals as goal

lowers : AllLower lamp lamp.bodies lamp_terms.bodies
lowers = (
  record { contract = refl; tx = refl; block = _; statements = (_, _, (_, _, (_, (1, free 1 (0 ∷ []) refl, refl), _, refl, _, refl, refl, refl), _, (_, _, (_, refl, refl, refl), _, (refl, refl), refl), refl), refl); terms = refl; slots = refl; end = refl },
  (
    record { contract = refl; tx = refl; block = _; statements = (_, _, (_, _, (_, (_, (_, (_, refl, _, refl, (3, free 3 (2 ∷ 1 ∷ 0 ∷ []) refl, refl)), _, (_, (_, refl, _, refl, (4, free 4 (3 ∷ 2 ∷ 1 ∷ 0 ∷ []) refl, refl)), _, (5, free 5 (4 ∷ 3 ∷ 2 ∷ 1 ∷ 0 ∷ []) refl, refl), 6, free 6 (4 ∷ 5 ∷ 3 ∷ 2 ∷ 1 ∷ 0 ∷ []) refl, refl), refl), _, (_, (_, refl, _, refl, (7, free 7 (3 ∷ 4 ∷ 5 ∷ 6 ∷ 2 ∷ 1 ∷ 0 ∷ []) refl, refl)), 8, free 8 (7 ∷ 3 ∷ 4 ∷ 5 ∷ 6 ∷ 2 ∷ 1 ∷ 0 ∷ []) refl, refl), refl), _, (_, _, (_, _, (3, free 3 (2 ∷ 1 ∷ 0 ∷ []) refl, _, (_, refl, _, refl, (4, free 4 (3 ∷ 2 ∷ 1 ∷ 0 ∷ []) refl, refl)), refl, refl), _, (_, _, (_, (_, (_, refl, _, refl, (4, free 4 (3 ∷ 2 ∷ 1 ∷ 0 ∷ []) refl, refl)), _, (5, free 5 (4 ∷ 3 ∷ 2 ∷ 1 ∷ 0 ∷ []) refl, refl), 6, free 6 (4 ∷ 5 ∷ 3 ∷ 2 ∷ 1 ∷ 0 ∷ []) refl, refl), refl, refl), _, (_, _, (_, (_, refl, _, refl, (7, free 7 (4 ∷ 5 ∷ 6 ∷ 3 ∷ 2 ∷ 1 ∷ 0 ∷ []) refl, refl)), refl, refl), _, (_, _, (_, refl, refl, refl), _, (refl, refl), refl), refl), refl), refl), refl), _, (_, _, (_, _, (_, (3, free 3 (2 ∷ 1 ∷ 0 ∷ []) refl, refl), refl, refl), _, (_, _, (_, (_, (_, (_, refl, _, refl, (4, free 4 (3 ∷ 2 ∷ 1 ∷ 0 ∷ []) refl, refl)), 5, free 5 (4 ∷ 3 ∷ 2 ∷ 1 ∷ 0 ∷ []) refl, refl), _, refl, refl), refl, refl), _, (refl, refl), refl), refl), refl), refl, refl), _, (_, _, (_, (_, (_, refl, _, refl, (3, free 3 (2 ∷ 1 ∷ 0 ∷ []) refl, refl)), _, (4, free 4 (3 ∷ 2 ∷ 1 ∷ 0 ∷ []) refl, refl), 5, free 5 (3 ∷ 4 ∷ 2 ∷ 1 ∷ 0 ∷ []) refl, refl), _, refl, _, refl, refl, refl), _, (_, _, (_, (_, (_, refl, _, refl, 3, free 3 (2 ∷ 1 ∷ 0 ∷ []) refl, _, calls_this, refl), refl), refl, refl), _, (refl, refl), refl), refl), refl), refl); terms = refl; slots = refl; end = refl },
    (
      record { contract = refl; tx = refl; block = _; statements = (_, _, (_, _, (_, (_, (_, (_, refl, _, refl, (1, free 1 (0 ∷ []) refl, refl)), _, (_, refl, _, refl, (2, free 2 (1 ∷ 0 ∷ []) refl, refl)), 3, free 3 (1 ∷ 2 ∷ 0 ∷ []) refl, refl), refl), refl, refl), _, (refl, refl), refl), refl); terms = refl; slots = refl; end = refl },
      (
        record { contract = refl; tx = refl; block = _; statements = (_, _, (_, _, (_, (1, free 1 (0 ∷ []) refl, refl), _, (_, _, (_, _, (_, (1, free 1 (0 ∷ []) refl, refl), refl, refl), _, (refl, refl), refl), refl), _, (_, _, (_, _, (_, (_, (1, free 1 (0 ∷ []) refl, refl), refl), refl, refl), _, (refl, refl), refl), refl), refl, refl), _, (refl, refl), refl), refl); terms = refl; slots = refl; end = refl },
        (
          record { contract = refl; tx = refl; block = _; statements = (_, _, (_, _, (refl, refl), _, (_, _, (_, refl, refl, refl), _, (refl, refl), refl), refl), refl); terms = refl; slots = refl; end = refl },
          tt,
        ),
      ),
    ),
  ),
)

pub returns : goal.returns
unfolding states_max states_of
returns c = record {
  lowers = lowers;
  lit = refl;
  steps_lit = refl;
  other_lit = refl;
  steps_other = refl;
  fails = refl;
  steps_fail = refl;
  refused = refl;
  steps_refused = refl;
}
