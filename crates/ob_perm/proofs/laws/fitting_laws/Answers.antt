use Rattle.ob_perm.proofs.FitLemmas.{fits_itself, fits_onward, fits_matching, one_owner}
use Rattle.ob_perm.proofs.laws.fitting_laws.Goals as goal

pub returns-clause-itself : goal.returns-clause-itself
returns-clause-itself c = fits_itself

pub returns-clause-onward : goal.returns-clause-onward
returns-clause-onward c = fits_onward

pub returns-clause-matching : goal.returns-clause-matching
returns-clause-matching c = fits_matching

pub returns-clause-one_owner : goal.returns-clause-one_owner
returns-clause-one_owner c = one_owner
