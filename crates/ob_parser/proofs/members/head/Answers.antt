use Rattle.std.proofs.Common.{rules, map}
use Rattle.ob_tree.specs.MembersView.{formal_of}
use Rattle.ob_parser_spec.specs.MemberReaders.{read_head}
use Rattle.ob_parser_spec.specs.AllReaders.{all_refs}
use Rattle.ob_parser_expressions.specs.Answering.{Halts}
use Rattle.ob_parser_expressions.proofs.Halts.{halts_bind}
use Rattle.ob_parser_expressions.proofs.Nexts.{next_halts}
use Rattle.ob_parser.proofs.members.head.Goals as goal

pub returns-in_err-name-3 : goal.returns-in_err-name-3
returns-in_err-name-3 c =
    let params = next_halts (map formal_of) c.params.result _ _ c.in_err-name-3.ensures.err c.params.ensures in
    let why : Halts c.in_err-name-3.field-0.0 (read_head (all_refs c.args.room) c.args.tokens.now) = rw (c.in_ok-rest.ensures, c.in_ok-name.ensures, c.in_ok-name-2.ensures.ok) (halts_bind _ _ _ (halts_bind _ _ _ (halts_bind _ _ _ (halts_bind _ _ _ (halts_bind _ _ _ params))))) in
    search rules

pub returns-in_err-rest : goal.returns-in_err-rest
returns-in_err-rest c = search (rules, halts_bind)

pub returns-in_err-name : goal.returns-in_err-name
returns-in_err-name c = search (rules, halts_bind)

pub returns-in_err-name-2 : goal.returns-in_err-name-2
returns-in_err-name-2 c = search (rules, halts_bind)

pub returns-in_err-parts : goal.returns-in_err-parts
returns-in_err-parts c = search (rules, halts_bind)

pub returns-in_err-name-4 : goal.returns-in_err-name-4
returns-in_err-name-4 c = search (rules, halts_bind)
