-- Form by form.
use Rattle.ob_emit_laws.proofs.Ahead.{jumps_lead_ahead_or_to_unit}
use Rattle.ob_emit_laws.proofs.laws.emitted_jumps_lead_ahead_or_to_unit.Goals as goal

pub returns : goal.returns
returns c = jumps_lead_ahead_or_to_unit
