use Rattle.ob_sound_code.proofs.Emitted.{by_emitted_code}
use Rattle.ob_sound_code.proofs.invocations_by_emitted_code.Goals as goal

pub returns : goal.returns
returns c = by_emitted_code
