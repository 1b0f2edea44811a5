use Rattle.ob_table.specs.StatementsView.{statements_of}
use Rattle.ob_lower.proofs.KeptLemmas.{left}
use Rattle.ob_lower.proofs.statements.+lower_statement.Goals as goal

pub lower_scope-returns-clause-position : goal.lower_scope-returns-clause-position
lower_scope-returns-clause-position t c =
    left c.args.frame.now (statements_of c.args.statements.now) c.args.position.now c.settle.new.self c.lower_statements.new.position c.leave.new.self
    c.visible-visible.result c.slots-slots.result c.new-out.result c.lower_statements.new.out c.settle.ensures c.visible-visible.ensures c.slots-slots.ensures
    c.in_ok-ends.ensures.code c.leave.ensures
