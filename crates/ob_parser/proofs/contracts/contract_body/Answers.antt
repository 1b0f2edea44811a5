use Rattle.std.proofs.Common.{rules}
use Rattle.ob_parser_spec.specs.ContractReaders.{member_first, read_member, read_body}
use Rattle.ob_parser_spec.specs.AllReaders.{all_refs, all_blocks}
use Rattle.ob_parser_expressions.specs.Answering.{Halts}
use Rattle.ob_parser_expressions.proofs.Halts.{halts_bind}
use Rattle.ob_parser_spec.specs.Readers.{read_many}
use Rattle.ob_parser.proofs.CodeParts.{body_answer}
use Rattle.ob_parser.proofs.contracts.contract_body.Goals as goal

pub returns-in_err-members : goal.returns-in_err-members
returns-in_err-members c =
    let why : Halts c.in_err-members.field-0.0 (read_body member_first (read_member (all_refs c.args.room) (all_blocks c.args.room)) c.args.tokens.now) = rw c.in_ok-rest.ensures (halts_bind _ _ _ (halts_bind _ _ _ (halts_bind _ _ _ c.in_err-members.ensures))) in
    search rules

pub returns-in_err-rest : goal.returns-in_err-rest
returns-in_err-rest c = search (rules, halts_bind)

pub returns : goal.returns
returns c = body_answer (read_many member_first (read_member (all_refs c.args.room) (all_blocks c.args.room))) c.closed.result c.args.tokens.now c.in_ok-rest.rest.now c.in_ok-members.rest.now _ _ c.in_ok-rest.ensures c.in_ok-members.ensures c.closed.ensures
