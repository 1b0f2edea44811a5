use Rattle.ob_generic_laws.proofs.Same.{same_tree}
use Rattle.ob_generic_laws.proofs.Untyped.{no_type_fault}
use Rattle.ob_generic_laws.proofs.plain_programs_stay.Goals as goal

pub returns-clause-clean : goal.returns-clause-clean
returns-clause-clean c = no_type_fault

pub returns-clause-same : goal.returns-clause-same
returns-clause-same c = same_tree
