-- The runs are computed, and each body has its terms by the cases of the relation; the slots are named where one is chosen.
use Rattle.std.proofs.Common.{[], ◌∷◌, refl}
use Rattle.ob_perm.specs.States.{states_max}
use Rattle.ob_perm.specs.Masks.{states_of}
use Rattle.ob_lower_spec.specs.BodyTerms.{AllLower}
use Rattle.ob_examples.specs.Summing.{summing}
use Rattle.ob_examples.specs.SummingTerms.{summing_terms}
use Rattle.ob_examples.proofs.Free.{free}
use Rattle.ob_examples.proofs.terms.sums_lower.Goals as goal

lowers : AllLower summing summing.bodies summing_terms.bodies
lowers = (
  record { contract = refl; tx = refl; block = _; statements = (_, _, (refl, refl), refl); terms = refl; slots = refl; end = refl },
  (
    record { contract = refl; tx = refl; block = _; statements = (_, _, (_, _, (2, free 2 (1 ∷ 0 ∷ []) refl, _, (3, free 3 (2 ∷ 1 ∷ 0 ∷ []) refl, refl), refl, refl), _, (_, _, (3, free 3 (2 ∷ 1 ∷ 0 ∷ []) refl, _, (4, free 4 (3 ∷ 2 ∷ 1 ∷ 0 ∷ []) refl, refl), refl, refl), _, (_, _, (_, (_, (_, refl, _, refl, (4, free 4 (3 ∷ 2 ∷ 1 ∷ 0 ∷ []) refl, refl)), _, (_, refl, _, refl, (5, free 5 (4 ∷ 3 ∷ 2 ∷ 1 ∷ 0 ∷ []) refl, refl)), 6, free 6 (4 ∷ 5 ∷ 3 ∷ 2 ∷ 1 ∷ 0 ∷ []) refl, refl), _, (_, _, (_, _, (_, (_, (_, refl, _, refl, (4, free 4 (3 ∷ 2 ∷ 1 ∷ 0 ∷ []) refl, refl)), _, (5, free 5 (4 ∷ 3 ∷ 2 ∷ 1 ∷ 0 ∷ []) refl, refl), 6, free 6 (4 ∷ 5 ∷ 3 ∷ 2 ∷ 1 ∷ 0 ∷ []) refl, refl), _, refl, _, refl, refl, refl), _, (_, _, (_, (_, (_, refl, _, refl, (4, free 4 (3 ∷ 2 ∷ 1 ∷ 0 ∷ []) refl, refl)), _, (_, refl, _, refl, (5, free 5 (4 ∷ 3 ∷ 2 ∷ 1 ∷ 0 ∷ []) refl, refl)), 6, free 6 (4 ∷ 5 ∷ 3 ∷ 2 ∷ 1 ∷ 0 ∷ []) refl, refl), _, refl, _, refl, refl, refl), _, (refl, refl), refl), refl), refl), refl, refl), _, (_, _, (_, (_, (_, refl, _, refl, (4, free 4 (3 ∷ 2 ∷ 1 ∷ 0 ∷ []) refl, refl)), refl), refl, refl), _, (refl, refl), refl), refl), refl), refl), refl); terms = refl; slots = refl; end = refl },
    tt,
  ),
)

pub returns : goal.returns
unfolding states_max states_of
returns c = record {
  lowers = lowers;
  enough = refl;
  steps_enough = refl;
  too_few = refl;
  steps_too_few = refl;
}
