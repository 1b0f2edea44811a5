use Rattle.ob_verify_spec.proofs.Images.{one_verdict}
use Rattle.ob_verify_spec.proofs.laws.one_verdict.Goals as goal

pub returns : goal.returns
returns c = one_verdict
