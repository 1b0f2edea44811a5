use Rattle.ob_sound_code.proofs.Whole.{checked_image_sound, checked_code_sound}
use Rattle.ob_sound_code.proofs.checked_code_is_sound.Goals as goal

pub returns-clause-images : goal.returns-clause-images
returns-clause-images c = checked_image_sound

pub returns-clause-by_table : goal.returns-clause-by_table
returns-clause-by_table c = checked_code_sound
