use Rattle.ob_upgrade_laws.proofs.Mismatching.{no_mismatch, one_mismatch}
use Rattle.ob_upgrade_laws.proofs.laws.one_mismatch.Goals as goal

pub returns-clause-none : goal.returns-clause-none
returns-clause-none c = no_mismatch

pub returns-clause-one : goal.returns-clause-one
returns-clause-one c = one_mismatch
