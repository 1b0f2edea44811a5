use Rattle.std.proofs.Common.{ap, ◌∙◌}
use Rattle.ob_generic_spec.specs.Heads.{head_named}
use Rattle.ob_generic_names.proofs.BoundsLemmas.{by_states, by_none}
use Rattle.ob_generic_names.proofs.HeadsLemmas.{states_of}
use Rattle.ob_generic_names.proofs.bounds.lacks_state.Goals as goal

pub returns-in-Some : goal.returns-in-Some
returns-in-Some c =
    by_states c.args.argument.now.perm (head_named c.args.heads.now c.args.argument.now.of.base) c.in-Some.states.now
    (c.in-Some.ensures ∙ ap (λ name. states_of name c.args.heads.now) c.as_bytes.ensures.bytes)
    c.names_other_state.result c.names_other_state.ensures

pub returns-in-None : goal.returns-in-None
returns-in-None c =
    by_none c.args.argument.now.perm (head_named c.args.heads.now c.args.argument.now.of.base)
    (c.in-None.ensures ∙ ap (λ name. states_of name c.args.heads.now) c.as_bytes.ensures.bytes)
