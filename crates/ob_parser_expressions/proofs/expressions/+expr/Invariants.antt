use Rattle.std.proofs.Common.{◌≡◌, ◌+◌, ◌*◌, ◌≤◌, length, map}
use Rattle.ob_lexer.specs.declared.token.Sign.TheVariants.{Comma}
use Rattle.ob_tree.specs.ExprsView.{expr_of}
use Rattle.ob_parser_spec.specs.Readers.{read_many}
use Rattle.ob_parser_spec.specs.NameReaders.{on, read_parted, read_item}
use Rattle.ob_parser_spec.specs.AllReaders.{all_exprs}
use Rattle.ob_parser_spec.specs.Operators.{operator_if, signs_of_level}
use Rattle.ob_parser_spec.specs.Chains.{read_chain}
use Rattle.ob_parser_expressions.specs.Levels.{number_of_level, levels_from, read_operand, read_further}
use Rattle.ob_parser_expressions.specs.Answering.{prefixed}
use Rattle.ob_parser_expressions.proofs.expressions.+expr.Given as goal

abbrev pub decreases-applied : goal.decreases-applied
decreases-applied l = 40 * l.room

abbrev pub decreases-method : goal.decreases-method
decreases-method l = 40 * l.room + 1

abbrev pub decreases-tail : goal.decreases-tail
decreases-tail l = 40 * l.room + 2

abbrev pub decreases-group : goal.decreases-group
decreases-group l = 40 * l.room

abbrev pub decreases-new : goal.decreases-new
decreases-new l = 40 * l.room + 3

abbrev pub decreases-name : goal.decreases-name
decreases-name l = 40 * l.room + 3

abbrev pub decreases-this : goal.decreases-this
decreases-this l = 40 * l.room + 3

abbrev pub decreases-primary : goal.decreases-primary
decreases-primary l = 40 * l.room + 4

abbrev pub decreases-unary : goal.decreases-unary
decreases-unary l = 40 * l.room + 5

abbrev pub decreases-operation : goal.decreases-operation
decreases-operation l = 40 * l.room

abbrev pub decreases-extended : goal.decreases-extended
decreases-extended l = 40 * l.room + 1

abbrev pub decreases-operand : goal.decreases-operand
decreases-operand l = 40 * l.room + (3 * levels_from l.level + 4)

abbrev pub decreases-chain : goal.decreases-chain
decreases-chain l = 40 * l.room + (3 * levels_from l.level + 5)

abbrev pub decreases-single : goal.decreases-single
decreases-single l = 40 * l.room + (3 * levels_from l.level + 5)

abbrev pub decreases-row : goal.decreases-row
decreases-row l = 40 * l.room + (3 * levels_from l.level + 6)

abbrev pub decreases-expression : goal.decreases-expression
decreases-expression l = 40 * l.room + 25

abbrev pub decreases-list : goal.decreases-list
decreases-list l = 40 * l.room + 26

abbrev pub decreases-arguments : goal.decreases-arguments
decreases-arguments l = 40 * l.room + 27

abbrev pub invariant-chain-operators : goal.invariant-chain-operators
invariant-chain-operators l = record {
  read : read_chain (signs_of_level (number_of_level l.fn.level)) (operator_if (number_of_level l.fn.level)) (read_operand l.fn.level) l.fn.room l.fn.tokens ≡ read_further l.fn.level l.fn.room (expr_of l.expr, l.count) l.rest;
  few : l.count ≤ l.fn.room;
}

abbrev pub decreases-chain-operators : goal.decreases-chain-operators
decreases-chain-operators l = length l.rest

abbrev pub invariant-list-arguments : goal.invariant-list-arguments
invariant-list-arguments l = read_parted Comma (all_exprs l.fn.room) l.fn.tokens ≡ prefixed (map expr_of l.args) (read_many (on Comma) (read_item Comma (all_exprs l.fn.room)) l.rest)

abbrev pub decreases-list-arguments : goal.decreases-list-arguments
decreases-list-arguments l = length l.rest
