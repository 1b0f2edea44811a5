use Rattle.std.proofs.Common.{sym, ◌∙◌}
use Rattle.ob_verify_spec.proofs.Cells.{none_some, some_same}
use Rattle.ob_verify.proofs.SurveyLoops.{answered}
use Rattle.ob_verify.proofs.survey.Surveyed.all_answer.Goals as goal

pub returns-in-Some : goal.returns-in-Some
returns-in-Some c = λ asked e. some_same (answered c.args.self.now c.self.inside.image.now c.self.inside.answered c.args.contract c.args.tx asked _
    c.self.invariant.answered c.self.view_is (sym c.in-Some.is ∙ c.answer_at.ensures) e)

pub returns-in-None : goal.returns-in-None
returns-in-None c = λ asked e. absurd (none_some (answered c.args.self.now c.self.inside.image.now c.self.inside.answered c.args.contract c.args.tx asked _
    c.self.invariant.answered c.self.view_is (sym c.in-None.is ∙ c.answer_at.ensures) e))
