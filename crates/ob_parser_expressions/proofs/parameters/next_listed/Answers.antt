use Rattle.std.proofs.Common.{rules}
use Rattle.ob_parser_expressions.proofs.Halts.{halts_bind}
use Rattle.ob_lexer.specs.declared.token.Sign.TheVariants.{Comma}
use Rattle.ob_tree.specs.MembersView.{listed_of}
use Rattle.ob_parser_spec.specs.MemberReaders.{read_listed}
use Rattle.ob_parser_spec.specs.AllReaders.{all_refs}
use Rattle.ob_parser_expressions.proofs.Tails.{item_answer}
use Rattle.ob_parser_expressions.proofs.parameters.next_listed.Goals as goal

pub returns : goal.returns
returns c = item_answer listed_of Comma (read_listed (all_refs c.args.room)) c.listed.result c.args.tokens.now c.in_ok-rest.rest.now _ c.in_ok-rest.ensures c.listed.ensures

pub returns-in_err-rest : goal.returns-in_err-rest
returns-in_err-rest c = search (rules, halts_bind)
