use Rattle.std.proofs.Common.{◌≡◌, take, fold}
use Rattle.ob_lexer.specs.Lexing.{larger}
use Rattle.ob_lexer.proofs.lexer.largest.Given as goal

-- the largest of the bytes so far
abbrev pub invariant-loop-byte : goal.invariant-loop-byte
invariant-loop-byte l = l.most ≡ fold larger 0 (take l.byte-index l.bytes)
