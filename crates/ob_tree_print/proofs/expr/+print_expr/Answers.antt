use Rattle.ob_tree.specs.ExprsView.{expr_of-Text, expr_of-Bool, expr_of-Name, expr_of-This, expr_of-Unary, expr_of-Call, expr_of-New, call_of-fields}
use Rattle.ob_tree_print.specs.Written.{written-none, written-cons, written-append}
use Rattle.ob_tree_print.proofs.expr.+print_expr.Goals as goal

pub put_expr-returns-in-Text : goal.put_expr-returns-in-Text
put_expr-returns-in-Text t c = rw (c.in-Text.is, expr_of-Text, written-cons, written-none) c.put_text.ensures

pub put_expr-returns-in-Bool : goal.put_expr-returns-in-Bool
put_expr-returns-in-Bool t c = rw (c.in-Bool.is, expr_of-Bool, written-cons, written-none) (rw c.word_of_bool.ensures at c.put_word.ensures)

pub put_expr-returns-in-Name : goal.put_expr-returns-in-Name
put_expr-returns-in-Name t c = rw (c.in-Name.is, expr_of-Name, written-cons, written-none) c.put_part.ensures

pub put_expr-returns-in-This : goal.put_expr-returns-in-This
put_expr-returns-in-This t c = rw (c.in-This.is, expr_of-This, written-cons, written-none) c.put_word-in-This.ensures

pub put_expr-returns-in-Call : goal.put_expr-returns-in-Call
put_expr-returns-in-Call t c = rw (c.in-Call.is, expr_of-Call) c.put_call.ensures

pub put_expr-returns-in_ok-put_sign-in-Unary : goal.put_expr-returns-in_ok-put_sign-in-Unary
put_expr-returns-in_ok-put_sign-in-Unary t c = rw (c.in-Unary.is, expr_of-Unary, written-cons) (rw (c.in_ok-put_sign-in-Unary.ensures, c.sign_of_operator.ensures) at c.put_operand.ensures)

pub put_expr-returns-in_ok-put_args-in-New : goal.put_expr-returns-in_ok-put_args-in-New
put_expr-returns-in_ok-put_args-in-New t c = rw (c.in-New.is, expr_of-New, written-cons, written-append, written-cons, written-append, written-cons, written-none) (rw (c.in_ok-put_args-in-New.ensures, c.in_ok-put_sign-in-New.ensures, c.in_ok-put_named-in-New.ensures, c.in_ok-put_word-in-New.ensures, c.as_slice.ensures) at c.put_sign-in-New-2.ensures)

pub put_call-returns : goal.put_call-returns
put_call-returns t c =
    rw (call_of-fields, written-append, written-cons, written-cons, written-append, written-cons, written-none) (rw (c.in_ok-put_args.ensures, c.as_slice.ensures, c.in_ok-put_sign.ensures, c.in_ok-put_part.ensures, c.in_ok-put_receiver.ensures) at c.put_sign-2.ensures)
