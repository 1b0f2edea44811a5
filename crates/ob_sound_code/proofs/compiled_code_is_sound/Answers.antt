use Rattle.ob_sound_code.proofs.Whole.{compiled_code_sound}
use Rattle.ob_sound_code.proofs.compiled_code_is_sound.Goals as goal

pub returns : goal.returns
returns c = compiled_code_sound
