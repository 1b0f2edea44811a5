use Rattle.ob_generic_laws.proofs.Texts.{instance_names}
use Rattle.ob_generic_laws.proofs.Fits.{printed_names}
use Rattle.ob_generic_laws.proofs.printed_names_are_texts.Goals as goal

pub returns-clause-instances : goal.returns-clause-instances
returns-clause-instances c = instance_names

pub returns-clause-types : goal.returns-clause-types
returns-clause-types c = printed_names
