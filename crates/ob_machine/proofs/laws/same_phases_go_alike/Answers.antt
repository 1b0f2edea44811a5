use Rattle.ob_machine.proofs.AlikeLemmas.{sound_alike, stops_alike, stuck_alike}
use Rattle.ob_machine.proofs.laws.same_phases_go_alike.Goals as goal

pub returns : goal.returns
returns c = record { sound = sound_alike; stops = stops_alike; stuck = stuck_alike }
