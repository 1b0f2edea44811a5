use Rattle.std.proofs.Common.{arith}
use Rattle.ob_verify.proofs.SurveyLoops.{also_end}
use Rattle.ob_verify.proofs.survey.ask_each.Goals as goal

pub returns : goal.returns
returns c = also_end c.args.own.now c.args.asked.now c.loop-place.row _ c.loop-place.place (omega (arith, c.loop-place.invariant.many)) c.loop-place.invariant.so_far
