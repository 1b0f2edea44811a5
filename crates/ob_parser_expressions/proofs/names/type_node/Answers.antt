use Rattle.std.proofs.Common.{rules}
use Rattle.ob_parser_expressions.proofs.Halts.{halts_bind}
use Rattle.ob_parser_expressions.proofs.names.type_node.Goals as goal

pub returns-in_err-of : goal.returns-in_err-of
returns-in_err-of c = search (rules, halts_bind)
