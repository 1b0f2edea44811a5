-- By the law.
use Rattle.ob_lower_functions.proofs.Bodies.{gives_terms}
use Rattle.ob_lower_functions.proofs.slots_in_order_lower.Goals as goal

pub returns : goal.returns
returns c = record { terms = gives_terms }
