use Rattle.ob_parser_laws.proofs.ContractShapes.{tree_shape}
use Rattle.ob_parser_laws.proofs.parsed_trees_have_shape.Goals as goal

pub returns : goal.returns
returns c = tree_shape
