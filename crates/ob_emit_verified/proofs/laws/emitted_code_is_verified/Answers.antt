use Rattle.ob_emit_verified.proofs.Programs.{code_is_verified}
use Rattle.ob_emit_verified.proofs.laws.emitted_code_is_verified.Goals as goal

pub returns : goal.returns
returns c = code_is_verified
