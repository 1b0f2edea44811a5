use Rattle.ob_perm.proofs.MaskLemmas.{states_of-minus}
use Rattle.ob_perm.proofs.states.difference.Goals as goal

pub returns : goal.returns
returns c = states_of-minus c.args.a c.args.b c.ranges.a.fits c.ranges.b.fits
