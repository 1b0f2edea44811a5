use Rattle.ob_verify_spec.proofs.Images.{tells_of_body}
use Rattle.ob_verify_spec.proofs.laws.first_fault_of_body.Goals as goal

pub returns : goal.returns
returns c = tells_of_body
