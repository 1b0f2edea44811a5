use Rattle.std.proofs.Common.{◌≡◌, Some, sym, subst}
use Rattle.std.specs.Prelude.{IsSome, IfOk}
use Rattle.ob_heap.specs.Contents.{content_of}
use Rattle.ob_heap.specs.Overlays.{KeepsUnread, no_object}
use Rattle.ob_machine_steps.specs.Entries.{started}
use Rattle.ob_exec_entries.specs.Entering.{machine_entry}
use Rattle.ob_exec.specs.Bodies.{body_number}
use Rattle.ob_exec.specs.Going.{sliced_at}
use Rattle.ob_exec.specs.Pausing.{SliceLeads}
use Rattle.ob_exec.specs.declared.stage.Paused.{Paused as PausedRun}
use Rattle.ob_exec.specs.declared.stage.Stage.TheVariants.{Paused}
use Rattle.ob_exec.proofs.OpeningLemmas.{enters_some, begun_so, begun_at, passed_is, ends_anyhow}
use Rattle.ob_exec.proofs.opening.run.Goals as goal

pub body_number-requires : goal.body_number-requires
body_number-requires c =
    let entered = c.args.entered in
    subst (λ image. IsSome (body_number image (machine_entry entered).receiver entered.contract entered.tx)) (sym c.image.ensures.image)
    (enters_some c.args.code.now c.args.fuel c.args.content.now c.args.who.now c.args.into.now entered c.args.reads c.requires.0 c.requires.1 c.requires.2)

pub go_on-end-requires : goal.go_on-end-requires
go_on-end-requires c =
    let image = c.args.code.now in
    let base = c.args.content.now in
    let entered = c.args.entered in
    let tx = c.in_ok-body_number.field-0 in
    let begun = begun_so image base c.args.fuel entered tx c.in_ok-machine.machine c.enter.new.overlay
    (subst (λ code. body_number code (machine_entry entered).receiver entered.contract entered.tx ≡ Some tx) c.image.ensures.image c.in_ok-body_number.ensures)
    (c.in_ok-machine.ensures.started c.new-overlay.ensures)
    (subst (λ o. KeepsUnread no_object o c.enter.new.overlay) c.new-overlay.ensures c.in_ok-machine.ensures.unread.0) in (
      c.requires.0,
      started image begun.start (content_of base).objects c.requires.0.fuel,
      begun_at image c.args.fuel base c.args.who.now c.args.into.now entered c.args.reads c.requires.0
          (record { machine = c.in_ok-machine.machine; overlay = c.enter.new.overlay; uses = entered.uses; given = entered.given }) c.requires.1 c.requires.2 begun,
    )

pub returns-then-goes_on : goal.returns-then-goes_on
returns-then-goes_on c = λ a k none.
    let image = c.args.code.now in
    let base = c.args.content.now in
    let entered = c.args.entered in
    let tx = c.in_ok-body_number.field-0 in
    let paused : PausedRun = record { machine = c.in_ok-machine.machine; overlay = c.enter.new.overlay; uses = entered.uses; given = entered.given } in
    let begun = begun_so image base c.args.fuel entered tx c.in_ok-machine.machine c.enter.new.overlay
    (subst (λ code. body_number code (machine_entry entered).receiver entered.contract entered.tx ≡ Some tx) c.image.ensures.image c.in_ok-body_number.ensures)
    (c.in_ok-machine.ensures.started c.new-overlay.ensures)
    (subst (λ o. KeepsUnread no_object o c.enter.new.overlay) c.new-overlay.ensures c.in_ok-machine.ensures.unread.0) in
    subst (λ r. IfOk c.go_on-end.result (λ end. SliceLeads image base r end (Paused c.go_on-end.new.paused)))
    (sym (passed_is image c.args.fuel base c.args.who.now c.args.into.now entered c.args.reads a paused c.args.units k begun))
    (c.go_on-end.ensures a (started image begun.start (content_of base).objects a.fuel)
    (begun_at image c.args.fuel base c.args.who.now c.args.into.now entered c.args.reads a paused k none begun))

pub returns : goal.returns
returns c = λ a k none.
    let image = c.args.code.now in
    let base = c.args.content.now in
    let entered = c.args.entered in
    let tx = c.in_ok-body_number.field-0 in
    let paused : PausedRun = record { machine = c.in_ok-machine.machine; overlay = c.enter.new.overlay; uses = entered.uses; given = entered.given } in
    let begun = begun_so image base c.args.fuel entered tx c.in_ok-machine.machine c.enter.new.overlay
    (subst (λ code. body_number code (machine_entry entered).receiver entered.contract entered.tx ≡ Some tx) c.image.ensures.image c.in_ok-body_number.ensures)
    (c.in_ok-machine.ensures.started c.new-overlay.ensures)
    (subst (λ o. KeepsUnread no_object o c.enter.new.overlay) c.new-overlay.ensures c.in_ok-machine.ensures.unread.0) in
    let start = started image begun.start (content_of base).objects a.fuel in
    subst (λ r. IfOk c.go_on-end.result (λ end. SliceLeads image base r end c.args.stage.now))
    (sym (passed_is image c.args.fuel base c.args.who.now c.args.into.now entered c.args.reads a paused c.args.units k begun))
    (ends_anyhow image base (sliced_at image base c.args.units a start) c.go_on-end.result c.goes_on.result (Paused c.go_on-end.new.paused) c.args.stage.now
    c.goes_on.ensures c.if-goes_on.false
    (c.go_on-end.ensures a start (begun_at image c.args.fuel base c.args.who.now c.args.into.now entered c.args.reads a paused k none begun)))
