use Rattle.std.proofs.Common.{sym}
use Rattle.std.specs.Prelude.{refl}
use Rattle.ob_tree.proofs.expr.+copy_expr.Goals as goal

pub CallNodeDuplicate::copy-returns : goal.CallNodeDuplicate::copy-returns
CallNodeDuplicate::copy-returns t c =
    let front = rw c.in_ok-receiver.ensures.0 at c.both.ensures in
    let receiver = rw front.0 at c.copy_option.ensures in
    let name = rw front.1 at c.copy.ensures in
    let args = rw c.in_ok-receiver.ensures.1 at c.copy_args.ensures in
    rw (receiver, name, args, c.as_slice.ensures) refl

pub ExprDuplicate::copy-returns-in_ok-left-in-Binary : goal.ExprDuplicate::copy-returns-in_ok-left-in-Binary
ExprDuplicate::copy-returns-in_ok-left-in-Binary t c =
    let left = rw c.in_ok-left-in-Binary.ensures.0 at c.copy_boxed-in-Binary.ensures in
    let right = rw c.in_ok-left-in-Binary.ensures.1 at c.copy_boxed-in-Binary-2.ensures in
    rw (left, right) (sym c.in-Binary.is)

pub ExprDuplicate::copy-returns-in_ok-of-in-New : goal.ExprDuplicate::copy-returns-in_ok-of-in-New
ExprDuplicate::copy-returns-in_ok-of-in-New t c =
    let of = rw c.in_ok-of-in-New.ensures.0 at c.copy-in-New.ensures in
    let args = rw c.in_ok-of-in-New.ensures.1 at c.copy_args.ensures in
    rw (of, args, c.as_slice.ensures) (sym c.in-New.is)

pub ExprDuplicate::copy-returns-in_ok-copy-in-Text : goal.ExprDuplicate::copy-returns-in_ok-copy-in-Text
ExprDuplicate::copy-returns-in_ok-copy-in-Text t c = rw c.in_ok-copy-in-Text.ensures (sym c.in-Text.is)

pub ExprDuplicate::copy-returns-in_ok-copy-in-Name : goal.ExprDuplicate::copy-returns-in_ok-copy-in-Name
ExprDuplicate::copy-returns-in_ok-copy-in-Name t c = rw c.in_ok-copy-in-Name.ensures (sym c.in-Name.is)

pub ExprDuplicate::copy-returns-in_ok-copy_boxed-in-Unary : goal.ExprDuplicate::copy-returns-in_ok-copy_boxed-in-Unary
ExprDuplicate::copy-returns-in_ok-copy_boxed-in-Unary t c = rw c.in_ok-copy_boxed-in-Unary.ensures (sym c.in-Unary.is)

pub ExprDuplicate::copy-returns-in_ok-copy-in-Call : goal.ExprDuplicate::copy-returns-in_ok-copy-in-Call
ExprDuplicate::copy-returns-in_ok-copy-in-Call t c = rw c.in_ok-copy-in-Call.ensures (sym c.in-Call.is)
