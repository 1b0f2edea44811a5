use Rattle.std.proofs.Common.{sym, ◌∙◌}
use Rattle.ob_lexer.proofs.PlaceLemmas.{fold-plain}
use Rattle.ob_lexer.proofs.PlainTokens.{plain_token}
use Rattle.ob_lexer.proofs.lexer.after_token.Goals as goal

pub returns : goal.returns
returns c =
    c.along.ensures ∙ sym (fold-plain c.args.position c.args.bytes.now (plain_token c.args.kind.now c.args.bytes.now c.requires.spelled c.in_default.not-Text))
