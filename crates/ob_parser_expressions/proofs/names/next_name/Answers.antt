use Rattle.std.proofs.Common.{rules}
use Rattle.ob_parser_expressions.proofs.Halts.{halts_bind}
use Rattle.ob_parser_spec.specs.Readers.{name_if, read_token}
use Rattle.ob_parser_expressions.specs.Answering.{as_it_is}
use Rattle.ob_parser_expressions.proofs.Tails.{item_answer}
use Rattle.ob_parser_expressions.proofs.names.next_name.Goals as goal

pub returns : goal.returns
returns c = item_answer as_it_is c.args.separator (read_token name_if) c.name_part.result c.args.tokens.now c.in_ok-rest.rest.now _ c.in_ok-rest.ensures c.name_part.ensures

pub returns-in_err-rest : goal.returns-in_err-rest
returns-in_err-rest c = search (rules, halts_bind)
