use Rattle.ob_parser_spec.proofs.ParserLaws.{one_tree_lem}
use Rattle.ob_parser_spec.proofs.one_tree.Goals as goal

pub returns : goal.returns
returns c = one_tree_lem
