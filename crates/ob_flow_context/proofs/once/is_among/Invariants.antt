use Rattle.std.proofs.Common.{◌≡◌, drop}
use Rattle.ob_silica_places.specs.Places.{location_of}
use Rattle.ob_flow_spec.specs.Binding.{is_among, reads_of}
use Rattle.ob_flow_context.proofs.once.is_among.Given as goal

abbrev pub invariant-loop-read : goal.invariant-loop-read
invariant-loop-read l = is_among (location_of l.place) (reads_of l.reads) ≡ is_among (location_of l.place) (reads_of (drop l.read-index l.reads))
