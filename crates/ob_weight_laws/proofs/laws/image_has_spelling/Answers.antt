use Rattle.ob_weight_laws.proofs.Spelling.{has_spelling}
use Rattle.ob_weight_laws.proofs.laws.image_has_spelling.Goals as goal

pub returns : goal.returns
returns c = has_spelling
