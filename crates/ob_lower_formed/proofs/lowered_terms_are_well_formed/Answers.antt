-- By the law.
use Rattle.ob_lower_formed.proofs.Law.{lowering_makes_well, lowering_makes_all_well}
use Rattle.ob_lower_formed.proofs.lowered_terms_are_well_formed.Goals as goal

pub returns : goal.returns
returns c = record { one = lowering_makes_well; each = lowering_makes_all_well }
