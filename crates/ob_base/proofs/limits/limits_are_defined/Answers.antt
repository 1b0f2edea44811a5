use Rattle.std.proofs.Common.{refl}
use Rattle.ob_base.specs.Limits.{most_slots}
use Rattle.ob_base.proofs.limits.limits_are_defined.Goals as goal

pub returns-clause-slots : goal.returns-clause-slots
unfolding most_slots
returns-clause-slots c = refl
