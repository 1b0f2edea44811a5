use Rattle.ob_generic_laws.proofs.Shapes.{tree_shape}
use Rattle.ob_generic_laws.proofs.instance_trees_have_shape.Goals as goal

pub returns : goal.returns
returns c = tree_shape
