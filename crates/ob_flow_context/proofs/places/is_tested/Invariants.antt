use Rattle.std.proofs.Common.{◌≡◌, take}
use Rattle.ob_silica_places.specs.Places.{location_of}
use Rattle.ob_flow_spec.specs.Contexts.{is_tested}
use Rattle.ob_flow_context.specs.View.{tested_of}
use Rattle.ob_flow_context.proofs.places.is_tested.Given as goal

abbrev pub invariant-loop-other : goal.invariant-loop-other
invariant-loop-other l = l.found ≡ is_tested (tested_of (take l.other-index l.tested)) (location_of l.place)
