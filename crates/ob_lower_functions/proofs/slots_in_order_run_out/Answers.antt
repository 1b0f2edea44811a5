-- By the law.
use Rattle.ob_lower_functions.proofs.Bodies.{fails_where_full}
use Rattle.ob_lower_functions.proofs.slots_in_order_run_out.Goals as goal

pub returns : goal.returns
returns c = record { fails = fails_where_full }
