-- By the steps of the slices.
use Rattle.ob_machine_laws.proofs.Slicing.{slices_add}
use Rattle.ob_machine_laws.proofs.Ending.{slices_end}
use Rattle.ob_machine_laws.proofs.Paying.{whole_ends}
use Rattle.ob_machine_laws.proofs.laws.slices_add_up.Goals as goal

pub returns : goal.returns
returns c = record { sum = slices_add; end = slices_end; whole = whole_ends }
