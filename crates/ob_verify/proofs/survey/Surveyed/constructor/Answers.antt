use Rattle.std.proofs.Common.{sym, ap, ◌∙◌}
use Rattle.std.specs.Prelude.{slice_get}
use Rattle.std.specs.Option.{option_and_then}
use Rattle.ob_verify.proofs.SurveyLoops.{constructed}
use Rattle.ob_verify.proofs.survey.Surveyed.constructor.Goals as goal

pub returns-in-Some-place_at : goal.returns-in-Some-place_at
returns-in-Some-place_at c =
    c.get.ensures.value ∙ ap (option_and_then (slice_get c.in-Some.own.now.bodies)) (sym c.in-Some-place_at.is ∙ c.place_at.ensures)
    ∙ sym (constructed c.args.self.now c.self.inside.image.now c.self.inside.constructors c.args.contract c.in-Some.own.now c.self.invariant.constructors c.self.view_is (sym c.in-Some.ensures))

pub returns-in-None-place_at : goal.returns-in-None-place_at
returns-in-None-place_at c =
    ap (option_and_then (slice_get c.in-Some.own.now.bodies)) (sym c.in-None-place_at.is ∙ c.place_at.ensures)
    ∙ sym (constructed c.args.self.now c.self.inside.image.now c.self.inside.constructors c.args.contract c.in-Some.own.now c.self.invariant.constructors c.self.view_is (sym c.in-Some.ensures))
