use Rattle.std.proofs.Common.{rules}
use Rattle.ob_parser_spec.specs.AllReaders.{all_exprs}
use Rattle.ob_parser_expressions.proofs.Halts.{halts_bind}
use Rattle.ob_parser.proofs.CodeStatements.{changed_answer}
use Rattle.ob_parser.proofs.simple.change.Goals as goal

pub returns-in_err-rest : goal.returns-in_err-rest
returns-in_err-rest c = search (rules, halts_bind)

pub returns-in_err-state : goal.returns-in_err-state
returns-in_err-state c = search (rules, halts_bind)

pub returns : goal.returns
returns c = changed_answer (all_exprs c.args.room) c.changed.result c.args.tokens.now c.in_ok-rest.rest.now c.in_ok-state.rest.now _ _ c.in_ok-rest.ensures c.in_ok-state.ensures c.changed.ensures
