use Rattle.std.proofs.Common.{rules, refl, option_map}
use Rattle.ob_tree.specs.NamesView.{named_of}
use Rattle.ob_parser_spec.specs.NameReaders.{read_named}
use Rattle.ob_parser_spec.specs.ContractReaders.{read_contract_kind}
use Rattle.ob_parser_spec.specs.AllReaders.{all_refs, all_blocks}
use Rattle.ob_parser_expressions.specs.Answering.{Halts}
use Rattle.ob_parser.specs.Parts.{body_parts}
use Rattle.ob_parser_expressions.proofs.Halts.{halts_bind}
use Rattle.ob_parser_expressions.proofs.Nexts.{next_done, next_halts}
use Rattle.ob_parser.proofs.contracts.contract_kind.Goals as goal

pub returns-in_err-named : goal.returns-in_err-named
returns-in_err-named c =
    let implements = next_done (option_map named_of) c.implemented.result _ _ _ c.in_ok-title-2.ensures.ok c.implemented.ensures in
    let body = next_halts body_parts c.contract_body.result _ _ c.in_err-named.ensures.err c.contract_body.ensures in
    let why : Halts c.in_err-named.field-0.0 (read_contract_kind (read_named all_refs c.args.room) (all_refs c.args.room) (all_blocks c.args.room) c.args.tokens.now) = rw (c.in_ok-rest.ensures, c.in_ok-title.ensures, implements) (halts_bind _ _ _ (halts_bind _ _ _ (halts_bind _ _ _ (halts_bind _ _ _ body)))) in
    search rules

pub returns-in_err-rest : goal.returns-in_err-rest
returns-in_err-rest c = search (rules, halts_bind)

pub returns-in_err-title : goal.returns-in_err-title
returns-in_err-title c = search (rules, halts_bind)

pub returns-in_err-title-2 : goal.returns-in_err-title-2
returns-in_err-title-2 c = search (rules, halts_bind)

pub returns : goal.returns
returns c =
    let implements = next_done (option_map named_of) c.implemented.result _ _ _ c.in_ok-title-2.ensures.ok c.implemented.ensures in
    let body = next_done body_parts c.contract_body.result _ _ _ c.in_ok-named.ensures.ok c.contract_body.ensures in
    rw (c.in_ok-named.ensures.part, c.in_ok-title-2.ensures.part, c.in_ok-rest.ensures, c.in_ok-title.ensures, implements, body) refl
