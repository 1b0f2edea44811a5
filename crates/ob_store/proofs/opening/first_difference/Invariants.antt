use Rattle.std.proofs.Common.{◌≡◌, take}
use Rattle.ob_store.proofs.opening.first_difference.Given as goal

-- the bytes so far are the same
abbrev pub invariant-loop-at : goal.invariant-loop-at
invariant-loop-at l = take l.at l.a ≡ take l.at l.b
