use Rattle.std.proofs.Common.{◌∙◌, arith}
use Rattle.ob_verify.proofs.SurveyLoops.{answers_turn, put_back}
use Rattle.ob_verify.proofs.survey.all_answers.Goals as goal

pub loop-own-preserved : goal.loop-own-preserved
loop-own-preserved c =
    put_back c.ask_for_declared.new.rows c.loop-own.rows.items c.loop-own.rows.len (omega arith) (omega arith)
    ∙ answers_turn c.args.contracts.now c.as_mut_slice.result.now c.ask_for_declared.new.rows c.loop-own.own-index c.own-item.result (omega arith) c.own-item.is
    (c.as_mut_slice.ensures.value ∙ c.loop-own.invariant) c.in_ok-ask_for_declared.ensures
