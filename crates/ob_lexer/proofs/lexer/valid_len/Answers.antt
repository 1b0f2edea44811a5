use Rattle.ob_lexer.proofs.Ascii.{ascii_alone}
use Rattle.ob_lexer.proofs.lexer.valid_len.Goals as goal

pub returns-then-largest-lt128 : goal.returns-then-largest-lt128
returns-then-largest-lt128 c = ascii_alone c.args.text.now (rw c.largest.ensures at c.if-largest-lt128.true)
