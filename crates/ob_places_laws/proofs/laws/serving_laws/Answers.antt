use Rattle.ob_places_laws.proofs.Serves.{allows_itself, allows_onward, allows_matching, fits_allowed, joined_allows}
use Rattle.ob_places_laws.proofs.laws.serving_laws.Goals as goal

pub returns-clause-itself : goal.returns-clause-itself
returns-clause-itself c = allows_itself

pub returns-clause-onward : goal.returns-clause-onward
returns-clause-onward c = allows_onward

pub returns-clause-matching : goal.returns-clause-matching
returns-clause-matching c = allows_matching

pub returns-clause-fitting : goal.returns-clause-fitting
returns-clause-fitting c = fits_allowed

pub returns-clause-joining : goal.returns-clause-joining
returns-clause-joining c = joined_allows
