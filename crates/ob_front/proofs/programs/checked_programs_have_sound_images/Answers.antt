use Rattle.ob_sound_code.proofs.Whole.{checked_image_sound}
use Rattle.ob_front.proofs.programs.checked_programs_have_sound_images.Goals as goal

pub returns : goal.returns
returns c = checked_image_sound
