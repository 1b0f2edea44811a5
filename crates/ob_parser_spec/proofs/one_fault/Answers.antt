use Rattle.ob_parser_spec.proofs.ParserLaws.{one_fault_lem}
use Rattle.ob_parser_spec.proofs.one_fault.Goals as goal

pub returns : goal.returns
returns c = one_fault_lem
