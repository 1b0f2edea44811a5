use Rattle.ob_verify_spec.proofs.Images.{has_frames}
use Rattle.ob_verify_spec.proofs.laws.bodies_found.Goals as goal

pub returns : goal.returns
returns c = has_frames
