use Rattle.ob_silica.proofs.TermsLost.{silica_body_of-injective}
use Rattle.ob_silica.proofs.body.term_body_loses_nothing.Goals as goal

pub returns : goal.returns
returns c = silica_body_of-injective
