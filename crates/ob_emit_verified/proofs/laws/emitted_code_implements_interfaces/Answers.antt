use Rattle.ob_emit_verified.proofs.Programs.{code_implements, interfaces_there}
use Rattle.ob_emit_verified.proofs.laws.emitted_code_implements_interfaces.Goals as goal

pub returns : goal.returns
returns c = record { alone = code_implements; there = interfaces_there }
