use Rattle.std.proofs.Common.{◌≡◌, [], drop}
use Rattle.ob_table.specs.ExpressionsView.{arguments_of}
use Rattle.ob_lower_functions.specs.ExpressionCode.{arguments_code}
use Rattle.ob_lower_parts.specs.Makes.{progress}
use Rattle.ob_lower.proofs.expressions.+lower_expression.Given as goal

abbrev pub invariant-lower_args-loop-arg : goal.invariant-lower_args-loop-arg
invariant-lower_args-loop-arg l =
    arguments_code l.around (arguments_of (drop l.arg-index l.args)) l.operands (progress l.out l.slots)
    ≡ arguments_code l.around (arguments_of l.args) [] (progress l.fn.out l.fn.slots)
