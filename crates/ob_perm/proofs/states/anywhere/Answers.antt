use Rattle.std.proofs.Common.{◌∙◌}
use Rattle.ob_perm.proofs.SetLemmas.{anywhere-below}
use Rattle.ob_perm.proofs.states.anywhere.Goals as goal

pub returns : goal.returns
returns c = c.below.ensures ∙ anywhere-below
