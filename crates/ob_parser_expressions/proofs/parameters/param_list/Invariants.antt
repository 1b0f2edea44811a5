use Rattle.std.proofs.Common.{◌≡◌, map, length}
use Rattle.ob_lexer.specs.declared.token.Sign.TheVariants.{Comma}
use Rattle.ob_tree.specs.MembersView.{formal_of}
use Rattle.ob_parser_spec.specs.Readers.{read_many}
use Rattle.ob_parser_spec.specs.NameReaders.{on, read_item, read_parted}
use Rattle.ob_parser_spec.specs.MemberReaders.{read_param}
use Rattle.ob_parser_spec.specs.AllReaders.{all_refs}
use Rattle.ob_parser_expressions.specs.Answering.{prefixed}
use Rattle.ob_parser_expressions.proofs.parameters.param_list.Given as goal

abbrev pub invariant-params : goal.invariant-params
invariant-params l = read_parted Comma (read_param (all_refs l.fn.room)) l.fn.tokens ≡ prefixed (map formal_of l.params) (read_many (on Comma) (read_item Comma (read_param (all_refs l.fn.room))) l.rest)

abbrev pub decreases-params : goal.decreases-params
decreases-params l = length l.rest
