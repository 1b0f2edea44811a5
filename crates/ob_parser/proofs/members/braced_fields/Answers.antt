use Rattle.std.proofs.Common.{rules}
use Rattle.ob_parser_spec.specs.ContractReaders.{read_braced}
use Rattle.ob_parser_spec.specs.AllReaders.{all_refs}
use Rattle.ob_parser_expressions.specs.Answering.{Halts}
use Rattle.ob_parser_expressions.proofs.Halts.{halts_bind}
use Rattle.ob_parser.proofs.members.braced_fields.Goals as goal

pub returns-in_err-fields : goal.returns-in_err-fields
returns-in_err-fields c =
    let why : Halts c.in_err-fields.field-0.0 (read_braced (all_refs c.args.room) c.args.tokens.now) = rw c.in_ok-rest.ensures (halts_bind _ _ _ (halts_bind _ _ _ (halts_bind _ _ _ c.in_err-fields.ensures))) in
    search rules

pub returns-in_err-rest : goal.returns-in_err-rest
returns-in_err-rest c = search (rules, halts_bind)
