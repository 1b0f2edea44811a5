use Rattle.std.proofs.Common.{◌≡◌, drop}
use Rattle.ob_flow_spec.specs.Binding.{got_back_all, reads_of}
use Rattle.ob_flow_context.specs.View.{context_of}
use Rattle.ob_flow_context.specs.Parameters.{plain_parameters}
use Rattle.ob_flow_context.proofs.lists.get_back_all.Given as goal

abbrev pub invariant-loop-i : goal.invariant-loop-i
invariant-loop-i l = got_back_all l.frame (context_of l.fn.context) (reads_of l.reads) (plain_parameters l.params)
    ≡ got_back_all l.frame (context_of l.context) (reads_of (drop l.i l.reads)) (plain_parameters (drop l.i l.params))
