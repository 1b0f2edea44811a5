use Rattle.std.proofs.Common.{◌∙◌, sym, map}
use Rattle.ob_lexer.specs.declared.token.Sign.TheVariants.{Comma}
use Rattle.ob_tree.specs.MembersView.{formal_of}
use Rattle.ob_parser_spec.specs.NameReaders.{read_parted}
use Rattle.ob_parser_spec.specs.MemberReaders.{types, read_param}
use Rattle.ob_parser_spec.specs.AllReaders.{all_refs}
use Rattle.ob_parser_expressions.proofs.Tails.{list_answer}
use Rattle.ob_parser_expressions.proofs.parameters.params.Goals as goal

pub returns : goal.returns
returns c = list_answer (map formal_of) types (read_parted Comma (read_param (all_refs c.args.room))) c.param_list.result c.args.tokens.now (sym c.starts_with_one_of.ensures ∙ c.if-not-starts_with_one_of.false) c.param_list.ensures
