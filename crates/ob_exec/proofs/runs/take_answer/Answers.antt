use Rattle.std.proofs.Common.{sym, ◌∙◌}
use Rattle.ob_exec.proofs.SliceLemmas.{same_end, paused_answered, over_answered}
use Rattle.ob_exec.proofs.runs.take_answer.Goals as goal

pub returns : goal.returns
returns c = λ told is. same_end c.args.reads c.args.taken c.in-Answered.answered told (sym c.in-Answered.is ∙ c.replace.ensures.value ∙ is)

pub unreachable-requires : goal.unreachable-requires
unreachable-requires c = paused_answered c.in-Paused.field-0 c.requires.0 (sym c.in-Paused.is ∙ c.replace.ensures.value ∙ c.requires.1)

pub unreachable-requires-in-Over : goal.unreachable-requires-in-Over
unreachable-requires-in-Over c = over_answered c.requires.0 (sym c.in-Over.is ∙ c.replace.ensures.value ∙ c.requires.1)
