use Rattle.std.proofs.Common.{rules}
use Rattle.ob_tree.specs.StmtsView.{block_of}
use Rattle.ob_parser_spec.specs.ContractReaders.{read_transaction}
use Rattle.ob_parser_spec.specs.AllReaders.{all_refs, all_blocks}
use Rattle.ob_parser_expressions.specs.Answering.{Halts}
use Rattle.ob_parser.specs.Parts.{head_part}
use Rattle.ob_parser_expressions.proofs.Halts.{halts_bind}
use Rattle.ob_parser_expressions.proofs.Nexts.{next_done, next_halts}
use Rattle.ob_parser.proofs.members.transaction.Goals as goal

pub returns-in_err-access-3 : goal.returns-in_err-access-3
returns-in_err-access-3 c =
    let head = next_done head_part c.head.result _ _ _ c.in_ok-access-2.ensures.ok c.head.ensures in
    let body = next_halts block_of c.block.result _ _ c.in_err-access-3.ensures.err c.block.ensures in
    let why : Halts c.in_err-access-3.field-0.0 (read_transaction (all_refs c.args.room) (all_blocks c.args.room) c.args.tokens.now) = rw (c.in_ok-access.ensures, head) (halts_bind _ _ _ (halts_bind _ _ _ (halts_bind _ _ _ (halts_bind _ _ _ body)))) in
    search rules

pub returns-in_err-access : goal.returns-in_err-access
returns-in_err-access c = search (rules, halts_bind)

pub returns-in_err-access-2 : goal.returns-in_err-access-2
returns-in_err-access-2 c = search (rules, halts_bind)
