use Rattle.ob_perm.proofs.MaskLemmas.{is_empty-difference}
use Rattle.ob_perm.proofs.states.subset.Goals as goal

pub returns : goal.returns
returns c = is_empty-difference c.difference.result c.args.a c.args.b c.difference.ensures
