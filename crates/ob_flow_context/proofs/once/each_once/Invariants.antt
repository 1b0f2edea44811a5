use Rattle.std.proofs.Common.{◌≡◌}
use Rattle.ob_flow_spec.specs.Premises.{first_failing}
use Rattle.ob_flow_spec.specs.Binding.{each_once, reads_of}
use Rattle.ob_flow_context.specs.Parameters.{plain_parameters}
use Rattle.ob_flow_context.proofs.OnceLemmas.{once_from}
use Rattle.ob_flow_context.proofs.once.each_once.Given as goal

abbrev pub invariant-loop-i : goal.invariant-loop-i
invariant-loop-i l = first_failing (each_once (reads_of l.reads) (plain_parameters l.params))
    ≡ first_failing (once_from l.reads l.params l.i)
