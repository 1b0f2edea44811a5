use Rattle.std.proofs.Common.{sym}
use Rattle.std.specs.Prelude.{refl}
use Rattle.ob_table.proofs.expr.+copy_expr.Goals as goal

pub ResolvedCallDuplicate::copy-returns : goal.ResolvedCallDuplicate::copy-returns
ResolvedCallDuplicate::copy-returns t c = rw (c.in_ok-copy_args.ensures, c.as_slice.ensures) refl

pub ResolvedExprDuplicate::copy-returns-in_ok-left-in-Binary : goal.ResolvedExprDuplicate::copy-returns-in_ok-left-in-Binary
ResolvedExprDuplicate::copy-returns-in_ok-left-in-Binary t c =
    let left = rw c.in_ok-left-in-Binary.ensures.0 at c.copy_boxed-in-Binary.ensures in
    let right = rw c.in_ok-left-in-Binary.ensures.1 at c.copy_boxed-in-Binary-2.ensures in
    rw (left, right) (sym c.in-Binary.is)

pub ResolvedExprDuplicate::copy-returns-in_ok-left-in-Logical : goal.ResolvedExprDuplicate::copy-returns-in_ok-left-in-Logical
ResolvedExprDuplicate::copy-returns-in_ok-left-in-Logical t c =
    let left = rw c.in_ok-left-in-Logical.ensures.0 at c.copy_boxed-in-Logical.ensures in
    let right = rw c.in_ok-left-in-Logical.ensures.1 at c.copy_boxed-in-Logical-2.ensures in
    rw (left, right) (sym c.in-Logical.is)

pub ResolvedExprDuplicate::copy-returns-in_ok-copy-in-Text : goal.ResolvedExprDuplicate::copy-returns-in_ok-copy-in-Text
ResolvedExprDuplicate::copy-returns-in_ok-copy-in-Text t c = rw c.in_ok-copy-in-Text.ensures (sym c.in-Text.is)

pub ResolvedExprDuplicate::copy-returns-in_ok-copy_boxed-in-Unary : goal.ResolvedExprDuplicate::copy-returns-in_ok-copy_boxed-in-Unary
ResolvedExprDuplicate::copy-returns-in_ok-copy_boxed-in-Unary t c = rw c.in_ok-copy_boxed-in-Unary.ensures (sym c.in-Unary.is)

pub ResolvedExprDuplicate::copy-returns-in_ok-copy-in-Call : goal.ResolvedExprDuplicate::copy-returns-in_ok-copy-in-Call
ResolvedExprDuplicate::copy-returns-in_ok-copy-in-Call t c = rw c.in_ok-copy-in-Call.ensures (sym c.in-Call.is)

pub ResolvedExprDuplicate::copy-returns-in_ok-copy_args-in-New : goal.ResolvedExprDuplicate::copy-returns-in_ok-copy_args-in-New
ResolvedExprDuplicate::copy-returns-in_ok-copy_args-in-New t c = rw (c.in_ok-copy_args-in-New.ensures, c.as_slice.ensures) (sym c.in-New.is)
