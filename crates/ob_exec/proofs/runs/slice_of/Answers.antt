use Rattle.std.proofs.Common.{refl, sym, subst}
use Rattle.std.specs.Prelude.{IfOk}
use Rattle.ob_code_laws.proofs.Leading.{leads_ahead}
use Rattle.ob_heap.specs.Contents.{content_of}
use Rattle.ob_machine_meaning.specs.Meanings.{machine_invocation}
use Rattle.ob_request_run_laws.specs.Runs.{opened}
use Rattle.ob_request_run_laws.specs.Slices.{slice}
use Rattle.ob_request_run_laws.proofs.Whole.{slices_so}
use Rattle.ob_wire.specs.Meanings.{request_of}
use Rattle.ob_exec.specs.Going.{IsAt}
use Rattle.ob_exec.specs.Pausing.{SliceLeads, run_of}
use Rattle.ob_exec.specs.declared.stage.Stage.TheVariants.{Paused}
use Rattle.ob_exec.specs.declared.stage.State.{State}
use Rattle.ob_exec.proofs.SliceLemmas.{goes_on_from, answered_stays, never_over}
use Rattle.ob_exec.proofs.runs.slice_of.Goals as goal

pub go_on-requires : goal.go_on-requires
go_on-requires c =
    let image = c.args.code.now in
    let base = c.args.base.now in
    let request = c.args.request.now in
    let fuel = c.requires.0 in
    let given = c.requires.1 in
    let k = c.requires.2 in
    let paused = c.in-Paused.paused in
    let state : State = record { stage = c.args.stage.now; reads = c.args.reads; taken = c.args.taken } in
    let i = machine_invocation image (content_of base) (request_of request) fuel in
    let so = slices_so image fuel (content_of base) (request_of request) i given (opened (request_of request)) (leads_ahead image c.image-image.ensures.verified) (refl, refl) in
    let on = goes_on_from image fuel base request i (run_of image fuel base given request) paused state so k.limits k.stands c.in-Paused.is in (
      on.asked,
      on.phase,
      subst (λ into. IsAt image base request.who into paused c.args.reads on.asked on.phase) (sym c.into_of-into.ensures) on.at,
    )

pub returns-in-Paused : goal.returns-in-Paused
returns-in-Paused c = λ fuel given k.
    let image = c.args.code.now in
    let base = c.args.base.now in
    let request = c.args.request.now in
    let paused = c.in-Paused.paused in
    let state : State = record { stage = c.args.stage.now; reads = c.args.reads; taken = c.args.taken } in
    let i = machine_invocation image (content_of base) (request_of request) fuel in
    let so = slices_so image fuel (content_of base) (request_of request) i given (opened (request_of request)) (leads_ahead image c.image-image.ensures.verified) (refl, refl) in
    let on = goes_on_from image fuel base request i (run_of image fuel base given request) paused state so k.limits k.stands c.in-Paused.is in
    subst (λ r. IfOk c.go_on.result (λ end. SliceLeads image base r end (Paused c.go_on.new.paused))) (sym (on.is fuel c.args.units))
    (c.go_on.ensures on.asked on.phase
    (subst (λ into. IsAt image base request.who into paused c.args.reads on.asked on.phase) (sym c.into_of-into.ensures) on.at))

pub take_answer-requires : goal.take_answer-requires
take_answer-requires c = (c.in-Answered.field-0, c.in-Answered.is)

pub returns-in-Answered : goal.returns-in-Answered
returns-in-Answered c = λ fuel given k.
    let image = c.args.code.now in
    let base = c.args.base.now in
    let told = c.in-Answered.field-0 in
    let r = run_of image fuel base given c.args.request.now in
    subst (λ end. SliceLeads image base (slice image fuel (content_of base) c.args.units r) end c.take_answer.new.stage) (sym (c.take_answer.ensures told c.in-Answered.is))
    (answered_stays image fuel base r told (record { stage = c.args.stage.now; reads = c.args.reads; taken = c.args.taken }) c.args.units k.stands c.in-Answered.is)

pub unreachable-requires : goal.unreachable-requires
unreachable-requires c =
    never_over c.args.code.now c.args.base.now (run_of c.args.code.now c.requires.0 c.args.base.now c.requires.1 c.args.request.now)
    (record { stage = c.args.stage.now; reads = c.args.reads; taken = c.args.taken }) c.requires.2.stands c.in-Over.is
