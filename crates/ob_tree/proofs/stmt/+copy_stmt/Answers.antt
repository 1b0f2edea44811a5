use Rattle.std.proofs.Common.{sym}
use Rattle.std.specs.Prelude.{refl}
use Rattle.ob_tree.proofs.stmt.+copy_stmt.Goals as goal

pub BlockDuplicate::copy-returns : goal.BlockDuplicate::copy-returns
BlockDuplicate::copy-returns t c = rw (c.in_ok-copy_statements.ensures, c.as_slice.ensures) refl

pub StmtDuplicate::copy-returns-in_ok-subject-in-Test : goal.StmtDuplicate::copy-returns-in_ok-subject-in-Test
StmtDuplicate::copy-returns-in_ok-subject-in-Test t c =
    let front = rw c.in_ok-subject-in-Test.ensures.0 at c.both.ensures in
    let back = rw c.in_ok-subject-in-Test.ensures.1 at c.both-in-Test.ensures in
    let subject = rw front.0 at c.copy.ensures in
    let state = rw front.1 at c.copy-in-Test.ensures in
    let then = rw back.0 at c.copy-in-Test-2.ensures in
    let otherwise = rw back.1 at c.copy_otherwise.ensures in
    rw (subject, state, then, otherwise) (sym c.in-Test.is)

pub StmtDuplicate::copy-returns-in_ok-condition-in-If : goal.StmtDuplicate::copy-returns-in_ok-condition-in-If
StmtDuplicate::copy-returns-in_ok-condition-in-If t c =
    let condition = rw c.in_ok-condition-in-If.ensures.0 at c.copy-in-If.ensures in
    let blocks = rw c.in_ok-condition-in-If.ensures.1 at c.both-in-If.ensures in
    let then = rw blocks.0 at c.copy-in-If-2.ensures in
    let otherwise = rw blocks.1 at c.copy_otherwise-in-If.ensures in
    rw (condition, then, otherwise) (sym c.in-If.is)
