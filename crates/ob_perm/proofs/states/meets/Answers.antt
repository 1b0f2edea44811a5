use Rattle.ob_perm.proofs.MaskLemmas.{is_empty-intersection}
use Rattle.ob_perm.proofs.states.meets.Goals as goal

pub returns : goal.returns
returns c = is_empty-intersection c.intersection.result c.args.a c.args.b c.intersection.ensures
