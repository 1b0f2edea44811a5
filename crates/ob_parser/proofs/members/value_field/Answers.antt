use Rattle.std.proofs.Common.{rules}
use Rattle.ob_parser_spec.specs.Readers.{read_token}
use Rattle.ob_parser_spec.specs.MemberReaders.{value_type_if}
use Rattle.ob_parser_expressions.proofs.Halts.{halts_bind}
use Rattle.ob_parser.proofs.CodeParts.{field_answer}
use Rattle.ob_parser.proofs.members.value_field.Goals as goal

pub returns-in_err-of : goal.returns-in_err-of
returns-in_err-of c = search (rules, halts_bind)

pub returns : goal.returns
returns c = field_answer (read_token value_type_if) c.field_of_type.result c.args.tokens.now c.in_ok-of.rest.now _ c.in_ok-of.ensures c.field_of_type.ensures
