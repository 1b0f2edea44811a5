use Rattle.ob_heap.specs.Overlays.{KeepsUnread, no_object}
use Rattle.ob_machine_laws.specs.Laws.{HasToldFrames}
use Rattle.ob_machine_steps.specs.Measures.{steps_left}
use Rattle.ob_machine.specs.Phases.{phase_of}
use Rattle.ob_machine.specs.Stretching.{LeadsOn}
use Rattle.ob_machine.proofs.machine.Machine.try_slice.Given as goal

abbrev pub invariant-steps : goal.invariant-steps
invariant-steps l = record {
  comes : LeadsOn l.image l.fn.units (phase_of l.fn.self l.base.objects l.fn.overlay) l.left (phase_of l.self l.base.objects l.overlay);
  unread : HasToldFrames (phase_of l.fn.self l.base.objects l.fn.overlay)
      → KeepsUnread no_object l.fn.overlay l.overlay × HasToldFrames (phase_of l.self l.base.objects l.overlay);
}

abbrev pub decreases-steps : goal.decreases-steps
decreases-steps l = steps_left l.image (phase_of l.self l.base.objects l.overlay)
