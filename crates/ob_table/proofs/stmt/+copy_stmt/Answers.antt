use Rattle.std.proofs.Common.{sym}
use Rattle.std.specs.Prelude.{refl}
use Rattle.ob_table.proofs.stmt.+copy_stmt.Goals as goal

pub ResolvedBlockDuplicate::copy-returns : goal.ResolvedBlockDuplicate::copy-returns
ResolvedBlockDuplicate::copy-returns t c = rw (c.in_ok-copy_statements.ensures, c.as_slice.ensures) refl

pub ResolvedStmtDuplicate::copy-returns-in_ok-then-in-Test : goal.ResolvedStmtDuplicate::copy-returns-in_ok-then-in-Test
ResolvedStmtDuplicate::copy-returns-in_ok-then-in-Test t c =
    let then = rw c.in_ok-then-in-Test.ensures.0 at c.copy-in-Test.ensures in
    let otherwise = rw c.in_ok-then-in-Test.ensures.1 at c.copy_otherwise.ensures in
    rw (then, otherwise) (sym c.in-Test.is)

pub ResolvedStmtDuplicate::copy-returns-in_ok-condition-in-If : goal.ResolvedStmtDuplicate::copy-returns-in_ok-condition-in-If
ResolvedStmtDuplicate::copy-returns-in_ok-condition-in-If t c =
    let condition = rw c.in_ok-condition-in-If.ensures.0 at c.copy-in-If.ensures in
    let blocks = rw c.in_ok-condition-in-If.ensures.1 at c.both-in-If.ensures in
    let then = rw blocks.0 at c.copy-in-If-2.ensures in
    let otherwise = rw blocks.1 at c.copy_otherwise-in-If.ensures in
    rw (condition, then, otherwise) (sym c.in-If.is)

pub ResolvedStmtDuplicate::copy-returns-in_ok-condition-in-While : goal.ResolvedStmtDuplicate::copy-returns-in_ok-condition-in-While
ResolvedStmtDuplicate::copy-returns-in_ok-condition-in-While t c =
    let condition = rw c.in_ok-condition-in-While.ensures.0 at c.copy-in-While.ensures in
    let body = rw c.in_ok-condition-in-While.ensures.1 at c.copy-in-While-2.ensures in
    rw (condition, body) (sym c.in-While.is)

pub ResolvedStmtDuplicate::copy-returns-in_ok-copy-in-Declare : goal.ResolvedStmtDuplicate::copy-returns-in_ok-copy-in-Declare
ResolvedStmtDuplicate::copy-returns-in_ok-copy-in-Declare t c = rw c.in_ok-copy-in-Declare.ensures (sym c.in-Declare.is)

pub ResolvedStmtDuplicate::copy-returns-in_ok-copy-in-Assign : goal.ResolvedStmtDuplicate::copy-returns-in_ok-copy-in-Assign
ResolvedStmtDuplicate::copy-returns-in_ok-copy-in-Assign t c = rw c.in_ok-copy-in-Assign.ensures (sym c.in-Assign.is)

pub ResolvedStmtDuplicate::copy-returns-in_ok-copy-in-Stage : goal.ResolvedStmtDuplicate::copy-returns-in_ok-copy-in-Stage
ResolvedStmtDuplicate::copy-returns-in_ok-copy-in-Stage t c = rw c.in_ok-copy-in-Stage.ensures (sym c.in-Stage.is)

pub ResolvedStmtDuplicate::copy-returns-in_ok-copy_items-in-Change : goal.ResolvedStmtDuplicate::copy-returns-in_ok-copy_items-in-Change
ResolvedStmtDuplicate::copy-returns-in_ok-copy_items-in-Change t c = rw c.in_ok-copy_items-in-Change.ensures (sym c.in-Change.is)

pub ResolvedStmtDuplicate::copy-returns-in_ok-copy-in-Call : goal.ResolvedStmtDuplicate::copy-returns-in_ok-copy-in-Call
ResolvedStmtDuplicate::copy-returns-in_ok-copy-in-Call t c = rw c.in_ok-copy-in-Call.ensures (sym c.in-Call.is)

pub ResolvedStmtDuplicate::copy-returns-in_ok-copy_option-in-Return : goal.ResolvedStmtDuplicate::copy-returns-in_ok-copy_option-in-Return
ResolvedStmtDuplicate::copy-returns-in_ok-copy_option-in-Return t c = rw c.in_ok-copy_option-in-Return.ensures (sym c.in-Return.is)

pub ResolvedStmtDuplicate::copy-returns-in_ok-copy_option-in-Revert : goal.ResolvedStmtDuplicate::copy-returns-in_ok-copy_option-in-Revert
ResolvedStmtDuplicate::copy-returns-in_ok-copy_option-in-Revert t c = rw c.in_ok-copy_option-in-Revert.ensures (sym c.in-Revert.is)
