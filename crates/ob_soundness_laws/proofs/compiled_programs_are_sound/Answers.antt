use Rattle.ob_soundness_laws.proofs.Together.{compiled_sound}
use Rattle.ob_soundness_laws.proofs.compiled_programs_are_sound.Goals as goal

pub returns : goal.returns
returns c = compiled_sound
