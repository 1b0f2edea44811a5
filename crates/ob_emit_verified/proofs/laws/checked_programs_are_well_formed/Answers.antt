use Rattle.ob_emit_verified.proofs.Programs.{checked_formed}
use Rattle.ob_emit_verified.proofs.laws.checked_programs_are_well_formed.Goals as goal

pub returns : goal.returns
returns c = checked_formed
