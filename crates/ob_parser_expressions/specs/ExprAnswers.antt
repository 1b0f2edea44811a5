-- What the parser's functions on expressions answer, as what the readers read.
use Rattle.std.specs.Prelude.{ℕ, List}
use Rattle.ob_base.specs.declared.fault.Span.{Span}
use Rattle.ob_tree.specs.Exprs.{Exprs}
use Rattle.ob_tree.specs.ExprsView.{expr_of, exprs_of}
use Rattle.ob_tree.specs.declared.name.NamePart.{NamePart}
use Rattle.ob_tree.specs.declared.expr.Expr as made
use Rattle.ob_parser_spec.specs.Chains.{Counted, Step}
use Rattle.ob_parser_spec.specs.Primaries.{Tail, method, applied}
use Rattle.ob_parser_expressions.specs.declared.primaries.TailPart.{TailPart}
use Rattle.ob_parser_expressions.specs.declared.primaries.TailPart.TheVariants.{Method, Applied}
use Rattle.ob_parser_expressions.specs.declared.primaries.Operation.{Operation}

-- an expression, and how many binary operators are read in it
abbrev pub with_count : made.Expr → ℕ → Counted
with_count e n = (expr_of e, n)

-- one in which none is read outside of parentheses
abbrev pub with_none : made.Expr → Counted
with_none e = (expr_of e, 0)

-- what stands after a name
abbrev pub tail_of : TailPart → Tail
tail_of (Method part args) = method part (exprs_of args)
tail_of (Applied args) = applied (exprs_of args)

-- a sign, and the name of a method with its arguments
abbrev pub method_parts : Span → NamePart × List made.Expr → Span × (NamePart × Exprs)
method_parts dot called = (dot, (called.0, exprs_of called.1))

-- an operator and the operand after it, with the count of that
abbrev pub step_of : Operation → ℕ → Step
step_of operation n = ((operation.operator, operation.sign), (expr_of operation.right, n))
