use Rattle.ob_generic.proofs.MakingLaws.{either, never_both}
use Rattle.ob_generic.proofs.making.tree_or_fault.Goals as goal

pub returns-clause-either : goal.returns-clause-either
returns-clause-either c = either

pub returns-clause-never_both : goal.returns-clause-never_both
returns-clause-never_both c = never_both
