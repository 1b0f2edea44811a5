use Rattle.std.proofs.Common.{◌≡◌, ◌+◌, ◌*◌, map, length}
use Rattle.ob_tree.specs.StmtsView.{stmt_of}
use Rattle.ob_parser_spec.specs.Readers.{read_many}
use Rattle.ob_parser_spec.specs.StmtReaders.{stmt_first, read_stmt}
use Rattle.ob_parser_spec.specs.AllReaders.{all_refs, all_counted, all_branches, all_loops}
use Rattle.ob_parser_expressions.specs.Answering.{prefixed}
use Rattle.ob_parser.proofs.statements.+stmt.Given as goal

abbrev pub decreases-block : goal.decreases-block
decreases-block l = 8 * l.room

abbrev pub decreases-chained : goal.decreases-chained
decreases-chained l = 8 * l.room

abbrev pub decreases-block_or_if : goal.decreases-block_or_if
decreases-block_or_if l = 8 * l.room + 1

abbrev pub decreases-alternative : goal.decreases-alternative
decreases-alternative l = 8 * l.room + 2

abbrev pub decreases-after_if : goal.decreases-after_if
decreases-after_if l = 8 * l.room + 3

abbrev pub decreases-if_statement : goal.decreases-if_statement
decreases-if_statement l = 8 * l.room + 4

abbrev pub decreases-after_while : goal.decreases-after_while
decreases-after_while l = 8 * l.room + 3

abbrev pub decreases-while_statement : goal.decreases-while_statement
decreases-while_statement l = 8 * l.room + 4

abbrev pub decreases-statement : goal.decreases-statement
decreases-statement l = 8 * l.room + 5

abbrev pub decreases-statement_list : goal.decreases-statement_list
decreases-statement_list l = 8 * l.room + 6

abbrev pub invariant-statement_list-statements : goal.invariant-statement_list-statements
invariant-statement_list-statements l = read_many stmt_first (read_stmt all_refs all_counted all_branches all_loops l.fn.room) l.fn.tokens ≡ prefixed (map stmt_of l.statements) (read_many stmt_first (read_stmt all_refs all_counted all_branches all_loops l.fn.room) l.rest)

abbrev pub decreases-statement_list-statements : goal.decreases-statement_list-statements
decreases-statement_list-statements l = length l.rest
