use Rattle.std.proofs.Common.{◌≡◌, map, length}
use Rattle.ob_tree.specs.MembersView.{member_of}
use Rattle.ob_parser_spec.specs.Readers.{read_many}
use Rattle.ob_parser_spec.specs.ContractReaders.{member_first, read_member}
use Rattle.ob_parser_spec.specs.AllReaders.{all_refs, all_blocks}
use Rattle.ob_parser_expressions.specs.Answering.{prefixed}
use Rattle.ob_parser.proofs.contracts.member_list.Given as goal

abbrev pub invariant-members : goal.invariant-members
invariant-members l = read_many member_first (read_member (all_refs l.fn.room) (all_blocks l.fn.room)) l.fn.tokens ≡ prefixed (map member_of l.members) (read_many member_first (read_member (all_refs l.fn.room) (all_blocks l.fn.room)) l.rest)

abbrev pub decreases-members : goal.decreases-members
decreases-members l = length l.rest
