use Rattle.std.proofs.Common.{rules, refl}
use Rattle.ob_parser.specs.Parts.{body_parts}
use Rattle.ob_parser_expressions.proofs.Nexts.{next_done}
use Rattle.ob_parser_expressions.proofs.Halts.{halts_bind}
use Rattle.ob_parser.proofs.contracts.interface_kind.Goals as goal

pub returns-in_err-rest : goal.returns-in_err-rest
returns-in_err-rest c = search (rules, halts_bind)

pub returns-in_err-title : goal.returns-in_err-title
returns-in_err-title c = search (rules, halts_bind)

pub returns-in_err-title-2 : goal.returns-in_err-title-2
returns-in_err-title-2 c = search (rules, halts_bind)

pub returns : goal.returns
returns c =
    let body = next_done body_parts c.interface_body.result _ _ _ c.in_ok-title-2.ensures.ok c.interface_body.ensures in
    rw (c.in_ok-title-2.ensures.part, c.in_ok-rest.ensures, c.in_ok-title.ensures, body) refl
