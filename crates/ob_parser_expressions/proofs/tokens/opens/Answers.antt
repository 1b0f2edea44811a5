use Rattle.std.proofs.Common.{rules, arith}
use Rattle.ob_parser_spec.specs.Readers.{span_if}
use Rattle.ob_parser_expressions.specs.Answering.{symbol_for}
use Rattle.ob_parser_expressions.proofs.CodeTokens.{open_halts, open_deep, open_done}
use Rattle.ob_parser_expressions.proofs.tokens.opens.Goals as goal

pub returns-in_err-span-clause-read : goal.returns-in_err-span-clause-read
returns-in_err-span-clause-read c = search (rules, open_halts)

pub returns-then-room-eq0-clause-read : goal.returns-then-room-eq0-clause-read
returns-then-room-eq0-clause-read c = open_deep (span_if (symbol_for c.args.symbol)) c.args.room c.args.tokens.now _ c.in_ok-span.rest.now (omega arith) c.in_ok-span.ensures

pub returns-clause-read : goal.returns-clause-read
returns-clause-read c = open_done (span_if (symbol_for c.args.symbol)) c.args.room c.args.tokens.now _ c.in_ok-span.rest.now (omega arith) c.in_ok-span.ensures
