use Rattle.ob_parser_spec.proofs.ParserLaws.{tree_or_fault_lem, never_tree_and_fault_lem}
use Rattle.ob_parser_spec.proofs.tree_or_fault.Goals as goal

pub returns-clause-either : goal.returns-clause-either
returns-clause-either c = tree_or_fault_lem

pub returns-clause-never_both : goal.returns-clause-never_both
returns-clause-never_both c = never_tree_and_fault_lem
