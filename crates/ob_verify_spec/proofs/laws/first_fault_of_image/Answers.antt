use Rattle.ob_verify_spec.proofs.Images.{tells_of_image}
use Rattle.ob_verify_spec.proofs.laws.first_fault_of_image.Goals as goal

pub returns : goal.returns
returns c = tells_of_image
