use Rattle.ob_verify_spec.proofs.Running.{one_slot_kinds}
use Rattle.ob_verify_spec.proofs.laws.one_slot_kinds.Goals as goal

pub returns : goal.returns
returns c = one_slot_kinds
