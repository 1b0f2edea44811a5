use Rattle.std.proofs.Common.{◌≡◌, true, map, take}
use Rattle.ob_code.specs.declared.image.BodyCode.{BodyCode}
use Rattle.ob_verify.proofs.survey.unasked.Given as goal

abbrev pub invariant-loop-body : goal.invariant-loop-body
invariant-loop-body l = l.row ≡ map (λ (b : BodyCode). true) (take l._body-index l.bodies)
