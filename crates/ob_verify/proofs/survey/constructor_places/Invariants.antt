use Rattle.std.proofs.Common.{◌≡◌, take}
use Rattle.ob_verify.specs.Surveys.{constructor_places}
use Rattle.ob_verify.proofs.survey.constructor_places.Given as goal

abbrev pub invariant-loop-contract : goal.invariant-loop-contract
invariant-loop-contract l = l.places.items ≡ constructor_places (take l.contract-index l.contracts)
