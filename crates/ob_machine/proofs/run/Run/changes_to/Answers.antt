use Rattle.std.proofs.Common.{◌≡◌, ◌∙◌, sym, ap}
use Rattle.ob_heap_spec.specs.Worlds.{edit_object}
use Rattle.ob_heap.specs.Plain.{object_of, fields_of}
use Rattle.ob_machine_steps.specs.Changing.{given_values}
use Rattle.ob_machine_parts.specs.Changes.{kept_in}
use Rattle.ob_machine_parts.specs.Editing.{with_state}
use Rattle.ob_machine_parts.specs.Shown.{slots_of}
use Rattle.ob_machine.specs.Shown.{shown, world_of}
use Rattle.ob_machine.proofs.StepLemmas.{on_with}
use Rattle.ob_machine.proofs.ChangeLemmas.{changed}
use Rattle.ob_machine.proofs.run.Run.changes_to.Goals as goal

pub returns-clause-told : goal.returns-clause-told
returns-clause-told c =
    let m = c.args.self.now in
    let base = c.args.base.now.objects in
    let kept : fields_of c.in_ok-kept.kept ≡ kept_in c.args.own.now c.args.state (fields_of c.in_ok-object.object.now.fields) =
    c.in_ok-kept.ensures ∙ ap (λ fs. kept_in c.args.own.now c.args.state (fields_of fs)) c.as_slice.ensures in
    changed c.args.own.now c.args.state c.args.given.now (shown m base c.args.overlay.now) (object_of c.in_ok-object.object.now) (fields_of c.in_ok-fields.fields)
    c.in_ok-object.ensures.object (sym c.are_available.ensures ∙ c.if-not-are_available.false)
    (ap (given_values (slots_of m.top.slots) c.args.given.now) (sym kept) ∙ c.in_ok-fields.ensures)
    ∙ on_with m c.goes_on.new.self base c.args.overlay.now c.set_state.new.overlay c.args.next c.goes_on.result
    (edit_object (with_state c.args.state (fields_of c.in_ok-fields.fields)) m.top.this.0 (world_of m base c.args.overlay.now))
    c.goes_on.ensures.goes c.goes_on.ensures.at c.requires (c.in_ok-set_state.ensures.world m.guard m.units)
