use Rattle.std.proofs.Common.{◌≡◌, map, length}
use Rattle.ob_lexer.specs.declared.token.Sign.TheVariants.{Comma}
use Rattle.ob_tree.specs.MembersView.{listed_of}
use Rattle.ob_parser_spec.specs.Readers.{read_many}
use Rattle.ob_parser_spec.specs.NameReaders.{on, read_item, read_parted}
use Rattle.ob_parser_spec.specs.MemberReaders.{read_listed}
use Rattle.ob_parser_spec.specs.AllReaders.{all_refs}
use Rattle.ob_parser_expressions.specs.Answering.{prefixed}
use Rattle.ob_parser_expressions.proofs.parameters.listed_list.Given as goal

abbrev pub invariant-list : goal.invariant-list
invariant-list l = read_parted Comma (read_listed (all_refs l.fn.room)) l.fn.tokens ≡ prefixed (map listed_of l.list) (read_many (on Comma) (read_item Comma (read_listed (all_refs l.fn.room))) l.rest)

abbrev pub decreases-list : goal.decreases-list
decreases-list l = length l.rest
