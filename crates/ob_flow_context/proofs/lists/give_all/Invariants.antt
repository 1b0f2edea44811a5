use Rattle.ob_flow_context.specs.View.{context_of, tested_of}
use Rattle.ob_flow_context.proofs.ListLemmas.{Giving}
use Rattle.ob_flow_context.proofs.lists.give_all.Given as goal

abbrev pub invariant-loop-i : goal.invariant-loop-i
invariant-loop-i l = Giving l.frame (tested_of l.tested) (context_of l.fn.context) l.reads l.params l.i (context_of l.context)
