-- The laws of programs, in the room that the limit gives.
use Rattle.std.proofs.Common.{ℕ, ◌<◌, true, arith}
use Rattle.ob_base.specs.Limits.{most_open}
use Rattle.ob_parser_spec.specs.MemberRows.{program}
use Rattle.ob_parser_spec.specs.NameReaders.{read_named}
use Rattle.ob_parser_spec.specs.ContractReaders.{contract_first}
use Rattle.ob_parser_spec.specs.AllReaders.{all_refs, all_blocks, all_programs}
use Rattle.ob_parser_spec.proofs.Laws.{Laws}
use Rattle.ob_parser_spec.proofs.ContractLaws.{program_laws}
use Rattle.ob_parser_spec.proofs.BlockLaws.{all_refs_laws, all_named_laws, all_blocks_laws}

pub all_programs_laws : (room : ℕ) → room < 256 → Laws room program (all_programs room) contract_first contract_first true
all_programs_laws room less = program_laws room (read_named all_refs room) (all_refs room) (all_blocks room) (all_named_laws room less) (all_refs_laws room less) (all_blocks_laws room less)

pub whole_laws : Laws most_open program (all_programs most_open) contract_first contract_first true
whole_laws = all_programs_laws most_open (omega arith)
