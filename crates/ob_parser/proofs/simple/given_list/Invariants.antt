use Rattle.std.proofs.Common.{◌≡◌, map, length}
use Rattle.ob_tree.specs.StmtsView.{given_of}
use Rattle.ob_lexer.specs.declared.token.Sign.TheVariants.{Comma}
use Rattle.ob_parser_spec.specs.Readers.{read_many}
use Rattle.ob_parser_spec.specs.NameReaders.{on, read_parted, read_item}
use Rattle.ob_parser_spec.specs.StmtReaders.{read_given}
use Rattle.ob_parser_spec.specs.AllReaders.{all_exprs}
use Rattle.ob_parser_expressions.specs.Answering.{prefixed}
use Rattle.ob_parser.proofs.simple.given_list.Given as goal

abbrev pub invariant-list : goal.invariant-list
invariant-list l = read_parted Comma (read_given (all_exprs l.fn.room)) l.fn.tokens ≡ prefixed (map given_of l.list) (read_many (on Comma) (read_item Comma (read_given (all_exprs l.fn.room))) l.rest)

abbrev pub decreases-list : goal.decreases-list
decreases-list l = length l.rest
