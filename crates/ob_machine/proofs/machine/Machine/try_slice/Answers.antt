use Rattle.std.proofs.Common.{Some, None, sym, subst}
use Rattle.ob_code_laws.proofs.Leading.{leads_ahead}
use Rattle.ob_machine_steps.specs.Measures.{LeadsAheadOrToUnit}
use Rattle.ob_machine_steps.specs.Runs.{paused}
use Rattle.ob_machine.specs.Phases.{phase_of}
use Rattle.ob_machine.specs.Slicing.{StopsSo, IsStuckIn, stop_told}
use Rattle.ob_machine_parts.specs.declared.off.Off.TheVariants.{NoStep}
use Rattle.ob_machine.specs.declared.progress.Progress.TheVariants.{Finished, Aborted, Going}
use Rattle.ob_machine.specs.declared.slice.Turn.TheVariants.{Waits}
use Rattle.ob_machine.proofs.StretchLemmas.{on_turn, on_made, off_turn}
use Rattle.ob_heap.specs.Overlays.{no_object}
use Rattle.ob_heap.proofs.UnreadLemmas.{unread_itself}
use Rattle.ob_machine.proofs.UnreadLemmas.{then_leaves, made_leaves, waits_leaves}
use Rattle.ob_machine.proofs.machine.Machine.try_slice.Goals as goal

pub steps-init : goal.steps-init
steps-init c = record { comes = λ found h. h; unread = λ known. (unread_itself no_object c.args.overlay.now, known) }

pub turn-requires : goal.turn-requires
turn-requires c = subst LeadsAheadOrToUnit (sym c.image-image.ensures.image) (leads_ahead c.args.code.now c.image-image.ensures.verified)

pub returns-in-Ok-Waits-clause-comes : goal.returns-in-Ok-Waits-clause-comes
returns-in-Ok-Waits-clause-comes c =
    let base = c.args.base.now.objects in
    let start = phase_of c.args.self.now base c.args.overlay.now in
    let image = c.image-image.result.now in
    let q = phase_of c.steps.self base c.steps.overlay in
    let end = paused (phase_of c.turn.new.self base c.turn.new.overlay) in
    subst (λ i. StopsSo i c.args.units start end) c.image-image.ensures.image
    (c.steps.invariant.comes (Some end)
    (on_turn image c.steps.left q c.turn.result c.in-Ok-Waits.field-0 Waits c.turn.new.self base c.turn.new.overlay c.turn.ensures.told c.in-Ok-Waits.is c.in-Ok-Waits.field-0-is))

pub steps-smaller : goal.steps-smaller
steps-smaller c =
    let base = c.args.base.now.objects in
    let image = c.image-image.result.now in
    let q = phase_of c.steps.self base c.steps.overlay in
    let turn = c.in-Ok-Made-Going-default in
    (on_made image c.steps.left q c.turn.result turn.field-0 turn.field-0-0 Going turn.rest c.turn.new.self base c.turn.new.overlay
    c.turn.ensures.told turn.is turn.field-0-is turn.field-0-0-is).1

pub steps-preserved : goal.steps-preserved
steps-preserved c =
    let base = c.args.base.now.objects in
    let image = c.image-image.result.now in
    let q = phase_of c.steps.self base c.steps.overlay in
    let turn = c.in-Ok-Made-Going-default in
    record {
      comes = λ found h. c.steps.invariant.comes found
          ((on_made image c.steps.left q c.turn.result turn.field-0 turn.field-0-0 Going turn.rest c.turn.new.self base c.turn.new.overlay
          c.turn.ensures.told turn.is turn.field-0-is turn.field-0-0-is).0 found h);
      unread = λ known.
          let so = c.steps.invariant.unread known in
          then_leaves c.args.overlay.now c.steps.overlay c.turn.new.overlay (phase_of c.turn.new.self base c.turn.new.overlay) Going so.0
          (made_leaves c.turn.result turn.field-0 turn.field-0-0 Going turn.rest c.steps.overlay c.turn.new.overlay
          (phase_of c.turn.new.self base c.turn.new.overlay) (c.turn.ensures.unread so.1) turn.is turn.field-0-is turn.field-0-0-is);
    }

pub returns-in-Ok-Made-Finished-default-clause-comes : goal.returns-in-Ok-Made-Finished-default-clause-comes
returns-in-Ok-Made-Finished-default-clause-comes c =
    let base = c.args.base.now.objects in
    let start = phase_of c.args.self.now base c.args.overlay.now in
    let image = c.image-image.result.now in
    let q = phase_of c.steps.self base c.steps.overlay in
    let turn = c.in-Ok-Made-Finished-default in
    let end = stop_told c.turn.new.self base c.turn.new.overlay (Finished turn.result) in
    subst (λ i. StopsSo i c.args.units start end) c.image-image.ensures.image
    (c.steps.invariant.comes (Some end)
    (on_made image c.steps.left q c.turn.result turn.field-0 turn.field-0-0 (Finished turn.result) turn.field-0-1 c.turn.new.self base c.turn.new.overlay
    c.turn.ensures.told turn.is turn.field-0-is turn.field-0-0-is))

pub returns-in-Ok-Made-Aborted-default-clause-comes : goal.returns-in-Ok-Made-Aborted-default-clause-comes
returns-in-Ok-Made-Aborted-default-clause-comes c =
    let base = c.args.base.now.objects in
    let start = phase_of c.args.self.now base c.args.overlay.now in
    let image = c.image-image.result.now in
    let q = phase_of c.steps.self base c.steps.overlay in
    let turn = c.in-Ok-Made-Aborted-default in
    let end = stop_told c.turn.new.self base c.turn.new.overlay (Aborted turn.cause) in
    subst (λ i. StopsSo i c.args.units start end) c.image-image.ensures.image
    (c.steps.invariant.comes (Some end)
    (on_made image c.steps.left q c.turn.result turn.field-0 turn.field-0-0 (Aborted turn.cause) turn.field-0-1 c.turn.new.self base c.turn.new.overlay
    c.turn.ensures.told turn.is turn.field-0-is turn.field-0-0-is))

pub returns-in-Err-NoStep-clause-comes : goal.returns-in-Err-NoStep-clause-comes
returns-in-Err-NoStep-clause-comes c =
    let base = c.args.base.now.objects in
    let start = phase_of c.args.self.now base c.args.overlay.now in
    let image = c.image-image.result.now in
    let q = phase_of c.steps.self base c.steps.overlay in
    subst (λ i. IsStuckIn i c.args.units start) c.image-image.ensures.image
    (c.steps.invariant.comes None
    (off_turn image c.steps.left q c.turn.result c.in-Err-NoStep.field-0 NoStep c.turn.new.self base c.turn.new.overlay c.turn.ensures.told c.in-Err-NoStep.is c.in-Err-NoStep.field-0-is))

pub returns-in-Ok-Waits-clause-unread : goal.returns-in-Ok-Waits-clause-unread
returns-in-Ok-Waits-clause-unread c = λ known.
    let p = phase_of c.turn.new.self c.args.base.now.objects c.turn.new.overlay in
    let so = c.steps.invariant.unread known in
    then_leaves c.args.overlay.now c.steps.overlay c.turn.new.overlay p Going so.0
    (waits_leaves c.turn.result c.in-Ok-Waits.field-0 c.steps.overlay c.turn.new.overlay p (c.turn.ensures.unread so.1) c.in-Ok-Waits.is c.in-Ok-Waits.field-0-is)

pub returns-in-Ok-Made-Finished-default-clause-unread : goal.returns-in-Ok-Made-Finished-default-clause-unread
returns-in-Ok-Made-Finished-default-clause-unread c = λ known.
    let p = phase_of c.turn.new.self c.args.base.now.objects c.turn.new.overlay in
    let so = c.steps.invariant.unread known in
    let turn = c.in-Ok-Made-Finished-default in
    then_leaves c.args.overlay.now c.steps.overlay c.turn.new.overlay p (Finished turn.result) so.0
    (made_leaves c.turn.result turn.field-0 turn.field-0-0 (Finished turn.result) turn.field-0-1 c.steps.overlay c.turn.new.overlay p (c.turn.ensures.unread so.1)
    turn.is turn.field-0-is turn.field-0-0-is)

pub returns-in-Ok-Made-Aborted-default-clause-unread : goal.returns-in-Ok-Made-Aborted-default-clause-unread
returns-in-Ok-Made-Aborted-default-clause-unread c = λ known.
    let p = phase_of c.turn.new.self c.args.base.now.objects c.turn.new.overlay in
    let so = c.steps.invariant.unread known in
    let turn = c.in-Ok-Made-Aborted-default in
    then_leaves c.args.overlay.now c.steps.overlay c.turn.new.overlay p (Aborted turn.cause) so.0
    (made_leaves c.turn.result turn.field-0 turn.field-0-0 (Aborted turn.cause) turn.field-0-1 c.steps.overlay c.turn.new.overlay p (c.turn.ensures.unread so.1)
    turn.is turn.field-0-is turn.field-0-0-is)
