use Rattle.std.proofs.Common.{true, [], ◌∷◌, ◌++◌, map, sym, ap, ap₂, ◌∙◌, arith}
use Rattle.ob_code.specs.declared.image.BodyCode.{BodyCode}
use Rattle.ob_code.specs.declared.image.ContractCode.{ContractCode}
use Rattle.ob_verify.proofs.SurveyLoops.{mapped_turn}
use Rattle.ob_verify.proofs.survey.unasked_all.Goals as goal

pub loop-contract-preserved : goal.loop-contract-preserved
loop-contract-preserved c =
    c.in_ok-push.ensures.items
    ∙ ap₂ (λ rows row. rows ++ row ∷ []) c.loop-contract.invariant (c.in_ok-unasked.ensures ∙ ap (map (λ (b : BodyCode). true)) c.as_slice.ensures)
    ∙ sym (mapped_turn (λ (z : ContractCode). map (λ (b : BodyCode). true) z.bodies) c.args.contracts.now c.loop-contract.contract-index c.contract-item.result (omega arith) c.contract-item.is)
