use Rattle.ob_invocation_laws.proofs.Handles.{found_put, found_gone}
use Rattle.ob_invocation_laws.proofs.laws.handles_are_found_by_name.Goals as goal

pub returns : goal.returns
returns c = record { put = found_put; gone = found_gone }
