use Rattle.ob_verify_spec.proofs.Calling.{verified_names}
use Rattle.ob_verify_spec.proofs.laws.verified_bodies_name_what_is_there.Goals as goal

pub returns : goal.returns
returns c = verified_names
