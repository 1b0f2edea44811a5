use Rattle.std.proofs.Common.{Some, sym, ap, ◌∙◌}
use Rattle.ob_generic_spec.specs.Instances.{number_named}
use Rattle.ob_generic_names.proofs.HeadsLemmas.{states_of, states_at, states_none}
use Rattle.ob_generic_names.proofs.heads.Heads.states.Goals as goal

pub returns-in-Some : goal.returns-in-Some
returns-in-Some c =
    c.get.ensures.value
    ∙ states_at c.self.inside.heads c.self.inside.names c.self.inside.states c.args.name.now (Some c.in-Some.number)
    c.self.invariant (c.in-Some.ensures ∙ ap (λ heads. number_named heads c.args.name.now) (sym c.self.view_is))
    ∙ ap (states_of c.args.name.now) c.self.view_is

pub returns-in-None : goal.returns-in-None
returns-in-None c = states_none c.args.self.now c.args.name.now c.in-None.ensures
