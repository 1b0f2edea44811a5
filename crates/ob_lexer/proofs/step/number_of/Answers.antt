use Rattle.std.proofs.Common.{sym, ◌∙◌, arith}
use Rattle.ob_lexer.proofs.Numbers.{too_large}
use Rattle.ob_lexer.proofs.step.number_of.Goals as goal

pub returns-in_err-checked_mul : goal.returns-in_err-checked_mul
returns-in_err-checked_mul c =
    c.from_residual.ensures ∙ sym (too_large c.args.digits.now c.loop-digit.digit-index c.loop-digit.value c.loop-digit-test.true c.loop-digit.invariant (omega (arith, c.in_err-checked_mul.ensures)))

pub returns-in_err-value : goal.returns-in_err-value
returns-in_err-value c =
    c.from_residual-in_err-value.ensures ∙ sym (too_large c.args.digits.now c.loop-digit.digit-index c.loop-digit.value c.loop-digit-test.true c.loop-digit.invariant (omega (arith, c.in_err-value.ensures, c.in_ok-checked_mul.ensures)))
