use Rattle.std.proofs.Common.{length}
use Rattle.ob_lexer.proofs.Progress.{IsProgress}
use Rattle.ob_lexer.proofs.lexer.tokens_in.Given as goal

-- what was read so far
abbrev pub invariant-pieces : goal.invariant-pieces
invariant-pieces l = IsProgress l.text l.position l.rest l.tokens

abbrev pub decreases-pieces : goal.decreases-pieces
decreases-pieces l = length l.rest
