use Rattle.ob_generic_laws.proofs.Bare.{bare_tree}
use Rattle.ob_generic_laws.proofs.instance_trees_have_no_generics.Goals as goal

pub returns : goal.returns
returns c = bare_tree
