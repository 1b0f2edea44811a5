use Rattle.std.proofs.Common.{rules}
use Rattle.ob_parser_expressions.proofs.Halts.{halts_bind}
use Rattle.ob_parser_expressions.proofs.names.permission.Goals as goal

pub returns-in_err-mode : goal.returns-in_err-mode
returns-in_err-mode c = search (rules, halts_bind)

pub returns-in_err-states : goal.returns-in_err-states
returns-in_err-states c = search (rules, halts_bind)
