use Rattle.ob_emit_verified.proofs.Sizes.{slots_fit}
use Rattle.ob_emit_verified.proofs.laws.emitted_slots_fit.Goals as goal

pub returns : goal.returns
returns c = slots_fit
