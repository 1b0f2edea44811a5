use Rattle.std.proofs.Common.{rules}
use Rattle.ob_parser_spec.specs.StmtReaders.{value_local_if}
use Rattle.ob_parser_spec.specs.Readers.{read_token}
use Rattle.ob_parser_spec.specs.AllReaders.{all_exprs}
use Rattle.ob_parser_expressions.proofs.Halts.{halts_bind}
use Rattle.ob_parser.proofs.CodeStatements.{declared_answer}
use Rattle.ob_parser.proofs.simple.value_declaration.Goals as goal

pub returns-in_err-of : goal.returns-in_err-of
returns-in_err-of c = search (rules, halts_bind)

pub returns : goal.returns
returns c = declared_answer (read_token value_local_if) (all_exprs c.args.room) c.declared.result c.args.tokens.now c.in_ok-of.rest.now _ c.in_ok-of.ensures c.declared.ensures
