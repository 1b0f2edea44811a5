use Rattle.std.proofs.Common.{rules, ◌∙◌, sym, ap, Some}
use Rattle.ob_parser_spec.specs.Readers.{done, ◌>>=◌}
use Rattle.ob_parser_spec.specs.ContractReaders.{read_maybe_generic}
use Rattle.ob_parser_expressions.specs.Answering.{Halts}
use Rattle.ob_parser_expressions.proofs.Halts.{halts_bind}
use Rattle.ob_parser.proofs.contracts.optional_generic.Goals as goal

pub returns-in_err-param : goal.returns-in_err-param
returns-in_err-param c =
    let why : Halts c.in_err-param.field-0.0 (read_maybe_generic c.args.tokens.now) = rw (sym c.starts_with.ensures ∙ c.if-not-starts_with.false) (halts_bind _ _ _ c.in_err-param.ensures) in
    search rules

pub returns : goal.returns
returns c = rw (sym c.starts_with.ensures ∙ c.if-not-starts_with.false) (ap (λ r. r >>= (λ x rest. done (Some x) rest)) c.in_ok-param.ensures)
