-- What the functions that read statements answer.
use Rattle.ob_tree.specs.Exprs.{Expr}
use Rattle.ob_tree.specs.ExprsView.{expr_of}
use Rattle.ob_tree.specs.StmtsView.{block_of, else_of}
use Rattle.ob_tree.specs.declared.expr.Expr.{Expr as ExprNode}
use Rattle.ob_tree.specs.declared.name.NamePart.{NamePart}
use Rattle.ob_parser_spec.specs.StmtReaders.{Question, tested, asked, Branches, Loop}
use Rattle.ob_parser.specs.declared.statements.QuestionPart.{QuestionPart}
use Rattle.ob_parser.specs.declared.statements.QuestionPart.TheVariants as part
use Rattle.ob_parser.specs.declared.statements.BranchesPart.{BranchesPart}
use Rattle.ob_parser.specs.declared.statements.LoopPart.{LoopPart}

-- a name, and the value that it is given
abbrev pub named_value : NamePart × ExprNode → NamePart × Expr
named_value parts = (parts.0, expr_of parts.1)

-- what stands between the parentheses after `if`
abbrev pub question_of : QuestionPart → Question
question_of (part.Test subject state) = tested subject state
question_of (part.Condition condition) = asked (expr_of condition)

-- what stands after `if`
abbrev pub branches_of : BranchesPart → Branches
branches_of part = (question_of part.question, (block_of part.then, else_of part.otherwise))

-- what stands after `while`
abbrev pub loop_of : LoopPart → Loop
loop_of part = (expr_of part.condition, block_of part.body)
