use Rattle.std.proofs.Common.{◌≡◌, map}
use Rattle.ob_silica_places.specs.Parameters.{parameter_of}
use Rattle.ob_flow_spec.specs.Premises.{first_failing}
use Rattle.ob_flow_spec.specs.Binding.{keeps_fields, reads_of}
use Rattle.ob_flow_context.proofs.OnceLemmas.{kept_from}
use Rattle.ob_flow_context.proofs.once.keeps_fields.Given as goal

abbrev pub invariant-loop-i : goal.invariant-loop-i
invariant-loop-i l = first_failing (keeps_fields (reads_of l.reads) (map parameter_of l.params))
    ≡ first_failing (kept_from l.reads l.params l.i)
