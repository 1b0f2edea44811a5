use Rattle.std.proofs.Common.{rules}
use Rattle.ob_parser_expressions.proofs.Halts.{halts_bind}
use Rattle.ob_lexer.specs.declared.token.Sign.TheVariants.{Comma}
use Rattle.ob_tree.specs.MembersView.{formal_of}
use Rattle.ob_parser_spec.specs.MemberReaders.{read_param}
use Rattle.ob_parser_spec.specs.AllReaders.{all_refs}
use Rattle.ob_parser_expressions.proofs.Tails.{item_answer}
use Rattle.ob_parser_expressions.proofs.parameters.next_param.Goals as goal

pub returns : goal.returns
returns c = item_answer formal_of Comma (read_param (all_refs c.args.room)) c.param.result c.args.tokens.now c.in_ok-rest.rest.now _ c.in_ok-rest.ensures c.param.ensures

pub returns-in_err-rest : goal.returns-in_err-rest
returns-in_err-rest c = search (rules, halts_bind)
