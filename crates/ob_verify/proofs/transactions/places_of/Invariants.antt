use Rattle.std.proofs.Common.{take}
use Rattle.ob_verify.specs.Named.{HavePlaces}
use Rattle.ob_verify.proofs.transactions.places_of.Given as goal

abbrev pub invariant-loop-place : goal.invariant-loop-place
invariant-loop-place l = HavePlaces l.places (take l.place l.bodies)
