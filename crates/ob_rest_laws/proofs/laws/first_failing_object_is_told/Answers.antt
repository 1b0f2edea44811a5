use Rattle.ob_rest_spec.proofs.FirstFailing.{told}
use Rattle.ob_rest_laws.proofs.laws.first_failing_object_is_told.Goals as goal

pub returns : goal.returns
returns c = told
