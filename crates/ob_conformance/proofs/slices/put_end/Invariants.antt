use Rattle.std.proofs.Common.{ℕ, List}
use Rattle.ob_exec.specs.Pausing.{IsRunOn}
use Rattle.ob_conformance.proofs.slices.put_end.Given as goal

-- the run may have a further slice
abbrev pub invariant-slices : goal.invariant-slices
invariant-slices l = (fuel : ℕ) × (given : List ℕ) × IsRunOn l.code fuel l.content given l.started.request l.started.state
