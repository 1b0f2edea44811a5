use Rattle.std.proofs.Common.{is_none, ap, ◌∙◌}
use Rattle.ob_generic_spec.specs.Heads.{head_named}
use Rattle.ob_generic_walk.proofs.NoteTurns.{none_found, some_states, no_states}
use Rattle.ob_generic_walk.proofs.type_notes.lacks_state.Goals as goal

pub returns-in-Some : goal.returns-in-Some
returns-in-Some c =
    none_found c.find.result c.is_none.result c.is_none.ensures ∙ ap is_none c.find.ensures
    ∙ some_states (head_named c.args.heads.now c.args.base.now) c.in-Some.states.now c.args.state.now c.in-Some.ensures

pub returns-in-None : goal.returns-in-None
returns-in-None c = no_states (head_named c.args.heads.now c.args.base.now) c.args.state.now c.in-None.ensures
