use Rattle.std.proofs.Common.{Some, None, ap, ◌∙◌}
use Rattle.std.specs.Prelude.{slice_get}
use Rattle.ob_generic_names.proofs.HeadsLemmas.{head_at}
use Rattle.ob_generic_names.proofs.heads.Heads.get.Goals as goal

pub returns-in-Some : goal.returns-in-Some
returns-in-Some c =
    c.get.ensures.value ∙ ap (λ heads. slice_get heads c.in-Some.number) c.self.view_is
    ∙ head_at c.args.self.now c.args.name.now (Some c.in-Some.number) c.in-Some.ensures

pub returns-in-None : goal.returns-in-None
returns-in-None c = head_at c.args.self.now c.args.name.now None c.in-None.ensures
