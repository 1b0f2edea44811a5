use Rattle.std.proofs.Common.{◌≡◌, map, length}
use Rattle.ob_tree.specs.MembersView.{contract_of}
use Rattle.ob_parser_spec.specs.Readers.{read_many}
use Rattle.ob_parser_spec.specs.NameReaders.{read_named}
use Rattle.ob_parser_spec.specs.ContractReaders.{contract_first, read_contract}
use Rattle.ob_parser_spec.specs.AllReaders.{all_refs, all_blocks}
use Rattle.ob_parser_expressions.specs.Answering.{prefixed}
use Rattle.ob_parser.proofs.contracts.program.Given as goal

abbrev pub invariant-contracts : goal.invariant-contracts
invariant-contracts l = read_many contract_first (read_contract (read_named all_refs l.fn.room) (all_refs l.fn.room) (all_blocks l.fn.room)) l.fn.tokens ≡ prefixed (map contract_of l.contracts) (read_many contract_first (read_contract (read_named all_refs l.fn.room) (all_refs l.fn.room) (all_blocks l.fn.room)) l.rest)

abbrev pub decreases-contracts : goal.decreases-contracts
decreases-contracts l = length l.rest
