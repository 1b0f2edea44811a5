use Rattle.std.proofs.lemmas.Result.{IfOk-weaker}
use Rattle.ob_code_laws.proofs.Leading.{leads_ahead}
use Rattle.ob_wire.specs.Meanings.{request_of}
use Rattle.ob_exec.proofs.AnswerLemmas.{always_ends, told_so}
use Rattle.ob_exec.proofs.answering.answer.Goals as goal

pub told-requires : goal.told-requires
told-requires g c =
    always_ends c.args.code.now c.args.fuel c.args.content.now (request_of c.args.request.now) c.open-end.result c.open-end.new.stage c.open-end.ensures

pub returns-clause-answer : goal.returns-clause-answer
returns-clause-answer g c =
    IfOk-weaker c.told.result _ _ (λ a is.
    (told_so c.args.code.now c.args.fuel c.args.content.now (request_of c.args.request.now) c.open-end.result c.open-end.new.stage
    (record { answer = a.0.answer; delta = a.1 }) a.2 (leads_ahead c.args.code.now c.image-image.ensures.verified) c.open-end.ensures is).comes) c.told.ensures.told

pub returns-clause-spent : goal.returns-clause-spent
returns-clause-spent g c =
    IfOk-weaker c.told.result _ _ (λ a is.
    (told_so c.args.code.now c.args.fuel c.args.content.now (request_of c.args.request.now) c.open-end.result c.open-end.new.stage
    (record { answer = a.0.answer; delta = a.1 }) a.2 (leads_ahead c.args.code.now c.image-image.ensures.verified) c.open-end.ensures is).spends) c.told.ensures.told
