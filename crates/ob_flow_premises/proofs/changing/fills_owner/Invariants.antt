use Rattle.std.proofs.Common.{◌≡◌, take, reverse}
use Rattle.ob_silica_places.specs.Places.{location_of}
use Rattle.ob_flow_spec.specs.Changing.{fills_owner}
use Rattle.ob_flow_premises.proofs.changing.fills_owner.Given as goal

abbrev pub invariant-loop-number : goal.invariant-loop-number
invariant-loop-number l = l.found ≡ fills_owner l.frame (location_of l.place) (reverse (take l.number l.given))
