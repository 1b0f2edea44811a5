use Rattle.ob_weight_laws.proofs.Weighing.{declared_counted, within_weight}
use Rattle.ob_weight_laws.proofs.laws.image_within_weight.Goals as goal

pub returns-clause-declared : goal.returns-clause-declared
returns-clause-declared c = declared_counted

pub returns-clause-within : goal.returns-clause-within
returns-clause-within c = within_weight
