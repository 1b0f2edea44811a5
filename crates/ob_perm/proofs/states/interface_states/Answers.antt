use Rattle.std.proofs.Common.{◌∙◌, ap₂}
use Rattle.ob_perm.specs.States.{union}
use Rattle.ob_perm.proofs.states.interface_states.Goals as goal

pub returns : goal.returns
returns c = c.union.ensures ∙ ap₂ (λ a b. union a b) c.all_states.ensures c.bit.ensures
