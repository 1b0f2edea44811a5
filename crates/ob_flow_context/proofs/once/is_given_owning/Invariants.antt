use Rattle.std.proofs.Common.{◌≡◌}
use Rattle.ob_silica_places.specs.Places.{location_of}
use Rattle.ob_flow_spec.specs.Binding.{is_given_owning, reads_of}
use Rattle.ob_flow_context.specs.Parameters.{plain_parameters}
use Rattle.ob_flow_context.proofs.OnceLemmas.{owning_from}
use Rattle.ob_flow_context.proofs.once.is_given_owning.Given as goal

abbrev pub invariant-loop-i : goal.invariant-loop-i
invariant-loop-i l = is_given_owning (location_of l.place) (reads_of l.reads) (plain_parameters l.params)
    ≡ owning_from (location_of l.place) l.reads l.params l.i
