use Rattle.ob_machine.proofs.AlikeLemmas.{stuck_never_stops, whole_over}
use Rattle.ob_machine.proofs.laws.slices_stop_or_are_stuck.Goals as goal

pub returns : goal.returns
returns c = record { stuck = stuck_never_stops; whole = whole_over }
