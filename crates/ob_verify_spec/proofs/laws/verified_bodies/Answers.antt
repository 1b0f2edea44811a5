use Rattle.ob_verify_spec.proofs.Images.{has_verified_bodies}
use Rattle.ob_verify_spec.proofs.laws.verified_bodies.Goals as goal

pub returns : goal.returns
returns c = has_verified_bodies
