use Rattle.ob_tree.proofs.MembersBack.{tree_of-injective}
use Rattle.ob_tree.proofs.contract.view_loses_nothing.Goals as goal

pub returns : goal.returns
returns c = tree_of-injective
