use Rattle.std.proofs.Common.{◌∙◌, sym, map}
use Rattle.ob_lexer.specs.declared.token.Sign.TheVariants.{OpenParen, Comma}
use Rattle.ob_tree.specs.MembersView.{listed_of}
use Rattle.ob_parser_spec.specs.NameReaders.{on, read_parted}
use Rattle.ob_parser_spec.specs.MemberReaders.{read_listed}
use Rattle.ob_parser_spec.specs.ContractReaders.{read_parens}
use Rattle.ob_parser_spec.specs.AllReaders.{all_refs}
use Rattle.ob_parser_expressions.proofs.Tails.{list_answer}
use Rattle.ob_parser_expressions.proofs.parameters.listed_part.Goals as goal

pub returns : goal.returns
returns c = list_answer (map listed_of) (on OpenParen) (read_parens (read_parted Comma (read_listed (all_refs c.args.room)))) c.listed_in_parens.result c.args.tokens.now (sym c.starts_with.ensures ∙ c.if-not-starts_with.false) c.listed_in_parens.ensures
