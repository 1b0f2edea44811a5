use Rattle.std.proofs.Common.{◌≡◌, take}
use Rattle.ob_emit.proofs.declarations.states_code.Given as goal

abbrev pub invariant-loop-state : goal.invariant-loop-state
invariant-loop-state l = l.code ≡ take l.state-index l.states
