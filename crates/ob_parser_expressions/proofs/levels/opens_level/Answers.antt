use Rattle.std.proofs.Common.{rules, arith}
use Rattle.ob_parser_spec.specs.Operators.{operator_if}
use Rattle.ob_parser_expressions.proofs.CodeTokens.{open_halts, open_deep, open_done}
use Rattle.ob_parser_expressions.proofs.levels.opens_level.Goals as goal

pub returns-in_err-operator-clause-read : goal.returns-in_err-operator-clause-read
returns-in_err-operator-clause-read c = search (rules, open_halts)

pub returns-then-room-eq0-clause-read : goal.returns-then-room-eq0-clause-read
returns-then-room-eq0-clause-read c = open_deep (operator_if c.args.level) c.args.room c.args.tokens.now _ c.in_ok-operator.rest.now (omega arith) c.in_ok-operator.ensures

pub returns-clause-read : goal.returns-clause-read
returns-clause-read c = open_done (operator_if c.args.level) c.args.room c.args.tokens.now _ c.in_ok-operator.rest.now (omega arith) c.in_ok-operator.ensures
