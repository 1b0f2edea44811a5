use Rattle.std.proofs.Common.{◌≡◌, ◌++◌, List, ℕ, length}
use Rattle.ob_io.specs.Told.{Gives}
use Rattle.ob_io.proofs.sink.write_all.Given as goal

-- a front of the bytes was written, and the rest is left
abbrev pub invariant-loop-rest : goal.invariant-loop-rest
invariant-loop-rest g l = record {
  front : List ℕ;
  split : l.bytes ≡ front ++ l.rest;
  given : Gives (g.K.Sink.view l.fn.sink).written (g.K.Sink.view l.sink).written front;
  calm : (g.K.Sink.view l.sink).faults ≡ (g.K.Sink.view l.fn.sink).faults;
}

abbrev pub decreases-loop-rest : goal.decreases-loop-rest
decreases-loop-rest g l = length l.rest
