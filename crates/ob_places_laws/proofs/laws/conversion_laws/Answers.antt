use Rattle.ob_places_laws.proofs.Conversions.{converted_mode, converted_same, converted_keeps}
use Rattle.ob_places_laws.proofs.laws.conversion_laws.Goals as goal

pub returns-clause-mode : goal.returns-clause-mode
returns-clause-mode c = converted_mode

pub returns-clause-itself : goal.returns-clause-itself
returns-clause-itself c = converted_same

pub returns-clause-serving : goal.returns-clause-serving
returns-clause-serving c = converted_keeps
