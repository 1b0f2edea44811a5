use Rattle.std.proofs.Common.{rules}
use Rattle.ob_parser_spec.specs.MemberReaders.{read_type}
use Rattle.ob_parser_spec.specs.AllReaders.{all_refs}
use Rattle.ob_parser_expressions.proofs.Halts.{halts_bind}
use Rattle.ob_parser.proofs.CodeParts.{field_answer}
use Rattle.ob_parser.proofs.members.field.Goals as goal

pub returns-in_err-of : goal.returns-in_err-of
returns-in_err-of c = search (rules, halts_bind)

pub returns : goal.returns
returns c = field_answer (read_type (all_refs c.args.room)) c.field_of_type.result c.args.tokens.now c.in_ok-of.rest.now _ c.in_ok-of.ensures c.field_of_type.ensures
