use Rattle.std.proofs.Common.{rules, refl}
use Rattle.ob_parser_spec.specs.NameReaders.{read_named}
use Rattle.ob_parser_spec.specs.ContractReaders.{read_main}
use Rattle.ob_parser_spec.specs.AllReaders.{all_refs, all_blocks}
use Rattle.ob_parser_expressions.specs.Answering.{Halts}
use Rattle.ob_parser_expressions.proofs.Halts.{halts_bind}
use Rattle.ob_parser.proofs.contracts.main_contract.Goals as goal

pub returns-in_err-kind : goal.returns-in_err-kind
returns-in_err-kind c =
    let why : Halts c.in_err-kind.field-0.0 (read_main (read_named all_refs c.args.room) (all_refs c.args.room) (all_blocks c.args.room) c.args.tokens.now) = rw (c.in_ok-rest.ensures, c.in_ok-asset.ensures) (halts_bind _ _ _ (halts_bind _ _ _ (halts_bind _ _ _ c.in_err-kind.ensures))) in
    search rules

pub returns-in_err-rest : goal.returns-in_err-rest
returns-in_err-rest c = search (rules, halts_bind)

pub returns-in_err-asset : goal.returns-in_err-asset
returns-in_err-asset c = search (rules, halts_bind)

pub returns : goal.returns
returns c = rw (c.contract_node.ensures, c.in_ok-rest.ensures, c.in_ok-asset.ensures, c.in_ok-kind.ensures) refl
