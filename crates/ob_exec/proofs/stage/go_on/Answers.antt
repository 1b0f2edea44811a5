use Rattle.std.proofs.Common.{sym, subst}
use Rattle.std.specs.Prelude.{IfOk}
use Rattle.ob_heap.specs.Contents.{content_of}
use Rattle.ob_code_laws.proofs.Leading.{leads_ahead}
use Rattle.ob_machine.specs.Phases.{phase_of}
use Rattle.ob_machine.specs.Slicing.{StopsSo, stop_told}
use Rattle.ob_exec.specs.Pausing.{SliceLeads}
use Rattle.ob_exec.specs.Putting.{AllStand}
use Rattle.ob_exec.specs.declared.stage.Stage.TheVariants.{Paused}
use Rattle.ob_exec.proofs.GoingLemmas.{at_goes, at_told, goes_paused, goes_aborted, goes_finished}
use Rattle.ob_exec.proofs.stage.go_on.Goals as goal

pub run_slice-requires : goal.run_slice-requires
run_slice-requires c =
    at_goes c.args.code.now c.args.base.now c.args.who.now c.args.into.now c.args.paused.now c.args.reads c.requires.0 c.requires.1 c.args.units c.requires.2

pub finished-requires : goal.finished-requires
finished-requires c =
    let image = c.args.code.now in
    let base = c.args.base.now in
    let paused = c.args.paused.now in
    let m = c.run_slice.new.self in
    let o = c.run_slice.new.overlay in
    let k = c.requires.2 in
    record {
      limits = (goes_finished image base c.args.who.now c.args.into.now paused c.args.reads c.requires.0 c.requires.1 c.args.units m o c.in_ok-reads.reads
          c.used-taken.result c.in-Finished.value (leads_ahead image c.image-image.ensures.verified) k
          (subst (λ p. StopsSo image c.args.units (phase_of paused.machine base.objects paused.overlay) (stop_told m base.objects o p)) c.in-Finished.is
          c.in_ok-progress.ensures.stops) c.in_ok-reads.ensures (c.used-taken.ensures base.objects o)).limits;
      stand = subst (AllStand (content_of base)) (sym k.those.uses) k.those.stand;
    }

pub returns-in-Going : goal.returns-in-Going
returns-in-Going c = λ a p k.
    let image = c.args.code.now in
    let base = c.args.base.now in
    let paused = c.args.paused.now in
    let m = c.run_slice.new.self in
    let o = c.run_slice.new.overlay in
    goes_paused image base c.args.who.now c.args.into.now paused c.args.reads a p c.args.units m o c.in_ok-reads.reads c.used-taken.result
    (leads_ahead image c.image-image.ensures.verified) k
    (subst (λ t. StopsSo image c.args.units (phase_of paused.machine base.objects paused.overlay) (stop_told m base.objects o t)) c.in-Going.is
    c.in_ok-progress.ensures.stops)
    (c.in_ok-progress.ensures.unread (at_told image base c.args.who.now c.args.into.now paused c.args.reads a p k)).0
    c.in_ok-reads.ensures (c.used-taken.ensures base.objects o)

pub returns-in-Aborted : goal.returns-in-Aborted
returns-in-Aborted c = λ a p k.
    let image = c.args.code.now in
    let base = c.args.base.now in
    let paused = c.args.paused.now in
    let m = c.run_slice.new.self in
    let o = c.run_slice.new.overlay in
    let new = Paused (record paused { machine = m; overlay = o }) in
    let at = goes_aborted image base c.args.who.now c.args.into.now paused c.args.reads a p c.args.units m o c.in_ok-reads.reads c.used-taken.result
    c.in-Aborted.cause (leads_ahead image c.image-image.ensures.verified) k
    (subst (λ t. StopsSo image c.args.units (phase_of paused.machine base.objects paused.overlay) (stop_told m base.objects o t)) c.in-Aborted.is
    c.in_ok-progress.ensures.stops) c.in_ok-reads.ensures (c.used-taken.ensures base.objects o) in
    subst (λ r. IfOk c.aborted.result (λ end. SliceLeads image base r end new)) (sym at.is) (c.aborted.ensures at.items new at.same)

pub returns-in-Finished : goal.returns-in-Finished
returns-in-Finished c = λ a p k.
    let image = c.args.code.now in
    let base = c.args.base.now in
    let paused = c.args.paused.now in
    let m = c.run_slice.new.self in
    let o = c.run_slice.new.overlay in
    let at = goes_finished image base c.args.who.now c.args.into.now paused c.args.reads a p c.args.units m o c.in_ok-reads.reads c.used-taken.result
    c.in-Finished.value (leads_ahead image c.image-image.ensures.verified) k
    (subst (λ t. StopsSo image c.args.units (phase_of paused.machine base.objects paused.overlay) (stop_told m base.objects o t)) c.in-Finished.is
    c.in_ok-progress.ensures.stops) c.in_ok-reads.ensures (c.used-taken.ensures base.objects o) in
    subst (λ r. IfOk c.finished.result (λ end. SliceLeads image base r end (Paused c.finished.new.paused))) (sym at.is)
    (c.finished.ensures image a at.world (Paused c.finished.new.paused) k.those at.end)
