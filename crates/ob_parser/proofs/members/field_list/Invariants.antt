use Rattle.std.proofs.Common.{◌≡◌, map, length}
use Rattle.ob_tree.specs.MembersView.{field_of}
use Rattle.ob_parser_spec.specs.Readers.{read_many}
use Rattle.ob_parser_spec.specs.MemberReaders.{types, read_field}
use Rattle.ob_parser_spec.specs.AllReaders.{all_refs}
use Rattle.ob_parser_expressions.specs.Answering.{prefixed}
use Rattle.ob_parser.proofs.members.field_list.Given as goal

abbrev pub invariant-fields : goal.invariant-fields
invariant-fields l = read_many types (read_field (all_refs l.fn.room)) l.fn.tokens ≡ prefixed (map field_of l.fields) (read_many types (read_field (all_refs l.fn.room)) l.rest)

abbrev pub decreases-fields : goal.decreases-fields
decreases-fields l = length l.rest
