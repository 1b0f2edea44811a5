use Rattle.std.proofs.Common.{◌≡◌, ◌+◌, ◌≤◌, take, fold}
use Rattle.ob_lexer.specs.Lexing.{past}
use Rattle.ob_lexer.proofs.position.Position.after.Given as goal

-- the position after the bytes so far
abbrev pub invariant-loop-byte : goal.invariant-loop-byte
invariant-loop-byte l = record {
  position : l.position ≡ fold past l.fn.self (take l.byte-index l.bytes);
  offset : l.position.offset ≡ l.fn.self.offset + l.byte-index;
  line : l.position.line ≤ l.position.offset + 1;
  column : l.position.column ≤ l.position.offset + 1;
}
