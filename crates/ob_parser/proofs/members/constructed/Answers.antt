use Rattle.std.proofs.Common.{rules}
use Rattle.ob_tree.specs.StmtsView.{block_of}
use Rattle.ob_parser_spec.specs.ContractReaders.{read_constructed}
use Rattle.ob_parser_spec.specs.AllReaders.{all_refs, all_blocks}
use Rattle.ob_parser_expressions.specs.Answering.{Halts}
use Rattle.ob_parser_expressions.proofs.Halts.{halts_bind}
use Rattle.ob_parser_expressions.proofs.Nexts.{next_halts}
use Rattle.ob_parser.proofs.members.constructed.Goals as goal

pub returns-in_err-params : goal.returns-in_err-params
returns-in_err-params c =
    let why : Halts c.in_err-params.field-0.0 (read_constructed (all_refs c.args.room) (all_blocks c.args.room) c.args.tokens.now) = rw c.in_ok-rest.ensures (halts_bind _ _ _ (halts_bind _ _ _ (halts_bind _ _ _ c.in_err-params.ensures))) in
    search rules

pub returns-in_err-params-3 : goal.returns-in_err-params-3
returns-in_err-params-3 c =
    let body = next_halts block_of c.block.result _ _ c.in_err-params-3.ensures.err c.block.ensures in
    let why : Halts c.in_err-params-3.field-0.0 (read_constructed (all_refs c.args.room) (all_blocks c.args.room) c.args.tokens.now) = rw (c.in_ok-rest.ensures, c.in_ok-params.ensures, c.in_ok-params-2.ensures.ok) (halts_bind _ _ _ (halts_bind _ _ _ (halts_bind _ _ _ (halts_bind _ _ _ body)))) in
    search rules

pub returns-in_err-rest : goal.returns-in_err-rest
returns-in_err-rest c = search (rules, halts_bind)

pub returns-in_err-params-2 : goal.returns-in_err-params-2
returns-in_err-params-2 c = search (rules, halts_bind)
