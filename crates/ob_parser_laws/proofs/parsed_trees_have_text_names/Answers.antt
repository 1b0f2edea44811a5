use Rattle.ob_parser_laws.proofs.TreeTexts.{tree_texts}
use Rattle.ob_parser_laws.proofs.parsed_trees_have_text_names.Goals as goal

pub returns : goal.returns
returns c = tree_texts
