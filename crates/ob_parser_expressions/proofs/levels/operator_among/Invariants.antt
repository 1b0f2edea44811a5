use Rattle.std.proofs.Common.{◌≡◌, drop}
use Rattle.ob_parser_spec.specs.Readers.{one_among}
use Rattle.ob_parser_spec.specs.Operators.{of_level, symbol_of_operator}
use Rattle.ob_parser_expressions.proofs.levels.operator_among.Given as goal

-- what is left of the operators gives the answer
abbrev pub invariant-loop-operator : goal.invariant-loop-operator
invariant-loop-operator l = one_among symbol_of_operator (of_level l.level (drop l.operator-index l.operators)) l.token ≡ one_among symbol_of_operator (of_level l.level l.operators) l.token
