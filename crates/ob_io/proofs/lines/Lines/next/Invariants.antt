use Rattle.std.proofs.Common.{◌≤◌, ◌≡◌, ◌+◌, ◌-◌, List, ℕ, false, length}
use Rattle.ob_base.specs.Limits.{longest_line, most_taken}
use Rattle.ob_io.specs.Told.{Takes}
use Rattle.ob_io.specs.Lines.{pending, handed, has_newline, IsSoFar, CountsTaken}
use Rattle.ob_io.proofs.lines.Lines.next.Given as goal

-- a part of a line was taken
abbrev pub invariant-pieces : goal.invariant-pieces
invariant-pieces g l = record {
  part : List ℕ;
  one_line : has_newline part ≡ false;
  so_far : IsSoFar l.is_long l.line.items part;
  short : length l.line.items ≤ longest_line;
  took : Takes (pending l.fn.self (g.S.Source.view l.fn.source).left) (pending l.self (g.S.Source.view l.source).left) part;
  drawn : CountsTaken l.fn.self l.self (g.S.Source.view l.fn.source) (g.S.Source.view l.source);
  counted : handed l.self ≡ handed l.fn.self + length part;
  goes_on : l.self.ended ≡ false;
  calm : (g.S.Source.view l.source).faults ≡ (g.S.Source.view l.fn.source).faults;
}

abbrev pub decreases-pieces : goal.decreases-pieces
decreases-pieces g l = most_taken - l.self.taken
