use Rattle.std.proofs.Common.{sym, ◌∙◌}
use Rattle.ob_words.proofs.NumberLemmas.{number_read, number_refused}
use Rattle.ob_words.proofs.number.long_number_in.Goals as goal

pub returns-then-number-most : goal.returns-then-number-most
returns-then-number-most c = sym (number_read 64 _ _ _ c.args.text.now (sym c.is_signed.ensures ∙ c.if-is_signed.false) c.parse.result c.parse.ensures.value.0 c.in-Ok.is c.if-least-number.true c.if-number-most.true)

pub returns-in-Err : goal.returns-in-Err
returns-in-Err c = sym (number_refused 64 _ _ c.args.text.now (sym c.is_signed.ensures ∙ c.if-is_signed.false) c.parse.result c.parse.ensures.value.0 _ c.in-Err.is c.ranges.most.fits)
