use Rattle.ob_parser_expressions.specs.Answering.{symbol_for}
use Rattle.ob_parser_expressions.proofs.CodeTokens.{placed}
use Rattle.ob_parser_expressions.proofs.parts.before.Goals as goal

pub returns-in-Ok-clause-ok : goal.returns-in-Ok-clause-ok
returns-in-Ok-clause-ok g c = placed (symbol_for c.args.symbol) c.args.tokens.now _ c.in-Ok.rest.now c.in-Ok.ensures

pub returns-in-Err-clause-err : goal.returns-in-Err-clause-err
returns-in-Err-clause-err g c = c.in-Err.ensures
