use Rattle.ob_perm.proofs.SaidLemmas.{fits-for_interface, matches-for_contract}
use Rattle.ob_perm.proofs.laws.naming_laws.Goals as goal

pub returns-clause-fits : goal.returns-clause-fits
returns-clause-fits c = fits-for_interface

pub returns-clause-back : goal.returns-clause-back
returns-clause-back c = matches-for_contract
