use Rattle.ob_machine_laws.specs.Laws.{HasToldFrames}
use Rattle.ob_machine_steps.specs.Entries.{running}
use Rattle.ob_machine_steps.specs.Measures.{steps_left}
use Rattle.ob_machine.specs.Shown.{shown}
use Rattle.ob_machine.proofs.StretchLemmas.{Stretched}
use Rattle.ob_machine.proofs.UnreadLemmas.{Spared}
use Rattle.ob_machine.proofs.run.Run.stretch.Given as goal

abbrev pub invariant-strides : goal.invariant-strides
invariant-strides l = record {
  told : Stretched l.code l.fn.units l.left (shown l.fn.self l.base.objects l.fn.overlay) (shown l.self l.base.objects l.overlay) l.instructions;
  unread : HasToldFrames (running (shown l.fn.self l.base.objects l.fn.overlay)) → Spared l.fn.overlay l.overlay (shown l.self l.base.objects l.overlay);
}

abbrev pub decreases-strides : goal.decreases-strides
decreases-strides l = steps_left l.code (running (shown l.self l.base.objects l.overlay))
