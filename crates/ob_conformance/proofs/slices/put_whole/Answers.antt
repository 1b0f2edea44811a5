use Rattle.ob_conformance.proofs.slices.put_whole.Goals as goal

pub answer-requires-clause-right : goal.answer-requires-clause-right
answer-requires-clause-right g c = c.requires.right c.in-Ok-One.request (rw c.in-Ok-One.field-0-is at c.in-Ok-One.ensures.asked)
