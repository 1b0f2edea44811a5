-- By the law.
use Rattle.ob_lower_functions.proofs.WellFormedBodies.{each_has_terms}
use Rattle.ob_lower_functions.proofs.bodies_with_few_slots_lower.Goals as goal

pub returns : goal.returns
returns c = record { each = each_has_terms }
