use Rattle.std.proofs.Common.{◌≡◌, true, map, take}
use Rattle.ob_code.specs.declared.image.BodyCode.{BodyCode}
use Rattle.ob_code.specs.declared.image.ContractCode.{ContractCode}
use Rattle.ob_verify.proofs.survey.unasked_all.Given as goal

abbrev pub invariant-loop-contract : goal.invariant-loop-contract
invariant-loop-contract l = l.rows.items ≡ map (λ (c : ContractCode). map (λ (b : BodyCode). true) c.bodies) (take l.contract-index l.contracts)
