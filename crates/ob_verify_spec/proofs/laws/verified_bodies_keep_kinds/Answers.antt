use Rattle.ob_verify_spec.proofs.Running.{verified_keep}
use Rattle.ob_verify_spec.proofs.laws.verified_bodies_keep_kinds.Goals as goal

pub returns : goal.returns
returns c = verified_keep
