use Rattle.std.proofs.Common.{sym, subst}
use Rattle.ob_heap.specs.Contents.{content_of}
use Rattle.ob_request_run_laws.specs.Slices.{slice}
use Rattle.ob_exec.specs.Pausing.{IsRunOn, run_of}
use Rattle.ob_exec.proofs.runs.Run.slice.Goals as goal

pub slice_of-requires : goal.slice_of-requires
slice_of-requires c =
    let run = c.args.self.now in (
      c.requires.0,
      c.requires.1,
      subst (λ reads. IsRunOn c.args.code.now c.requires.0 c.args.base.now c.requires.1 run.request (record { stage = run.state.stage; reads = reads; taken = run.state.taken }))
          (sym c.replace-reads.ensures.value) c.requires.2,
    )

pub returns-clause-leads : goal.returns-clause-leads
returns-clause-leads c = λ fuel given k.
    let image = c.args.code.now in
    let base = c.args.base.now in
    let run = c.args.self.now in
    c.stop.ensures.leads image base (slice image fuel (content_of base) c.args.units (run_of image fuel base given run.request))
    (c.in_ok-end.ensures fuel given
    (subst (λ reads. IsRunOn image fuel base given run.request (record { stage = run.state.stage; reads = reads; taken = run.state.taken }))
    (sym c.replace-reads.ensures.value) k))
