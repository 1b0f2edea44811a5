use Rattle.ob_flow_context.specs.View.{context_of, tested_of}
use Rattle.ob_flow.proofs.TermLemmas.{Left}
use Rattle.ob_flow.proofs.bodies.+check.Given as goal

abbrev pub invariant-check_terms-loop-term : goal.invariant-check_terms-loop-term
invariant-check_terms-loop-term l = Left l.frame (tested_of l.tested) l.terms (context_of l.fn.context) l.term-index (context_of l.context)
