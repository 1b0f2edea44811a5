-- By the steps of the slice.
use Rattle.ob_machine_laws.proofs.Sound.{sound_in, sound_paused}
use Rattle.ob_machine_laws.proofs.laws.sound_runs.Goals as goal

pub returns : goal.returns
returns c = record { slices = sound_in; paused = sound_paused }
