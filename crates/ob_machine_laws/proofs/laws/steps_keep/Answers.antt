-- By what each step keeps.
use Rattle.ob_machine_laws.proofs.Keeping.{units_add, reads_grow, objects_stay}
use Rattle.ob_machine_laws.proofs.laws.steps_keep.Goals as goal

pub returns : goal.returns
returns c = record { units = units_add; reads = reads_grow; objects = objects_stay }
