use Rattle.std.proofs.Common.{◌∙◌, sym, subst, Some}
use Rattle.ob_heap_spec.specs.Worlds.{by_fuel}
use Rattle.ob_machine_steps.specs.Configurations.{abort}
use Rattle.ob_machine_steps.specs.Calling.{caller, makes_object}
use Rattle.ob_code_table.specs.Images.{constructor_of}
use Rattle.ob_machine_laws.specs.Laws.{SameNext}
use Rattle.ob_machine_parts.specs.Shown.{slots_of}
use Rattle.ob_machine.specs.Shown.{shown, world_of, Tells}
use Rattle.ob_machine.proofs.BeginningLemmas.{Held, all_held, none_held}
use Rattle.ob_machine.proofs.CallLemmas.{new_unset, new_unpaid, new_called, no_unit, unit_taken, with_units_of, same_abort}
use Rattle.ob_heap.specs.Overlays.{no_object}
use Rattle.ob_heap.proofs.UnreadLemmas.{unread_itself}
use Rattle.ob_machine.proofs.run.Run.new_object.Goals as goal

pub returns-then-not-are_set-clause-told : goal.returns-then-not-are_set-clause-told
returns-then-not-are_set-clause-told c =
    new_unset c.args.code.now c.args.slot c.args.contract c.args.args.now (shown c.args.self.now c.args.base.now.objects c.args.overlay.now)
    (none_held (slots_of c.args.self.now.top.slots) c.args.args.now (sym c.are_set.ensures ∙ c.if-not-are_set.true))

pub returns-then-not-take-clause-told : goal.returns-then-not-take-clause-told
returns-then-not-take-clause-told c =
    let m = c.args.self.now in
    let base = c.args.base.now.objects in
    let s = shown m base c.args.overlay.now in
    let u = c.take.new.self in
    let held : Held (slots_of m.top.slots) c.args.args.now = all_held (slots_of m.top.slots) c.args.args.now (sym c.are_set.ensures ∙ c.if-not-are_set.false) in
    let end = Some (abort by_fuel (world_of (with_units_of m u) base c.args.overlay.now)) in
    subst (λ x. SameNext x end)
    (sym (new_unpaid c.args.code.now c.args.slot c.args.contract c.args.args.now s held.values end held.is
    (no_unit m base c.args.overlay.now u (makes_object c.args.code.now (caller s c.args.slot) c.args.contract (constructor_of c.args.code.now c.args.contract) held.values) c.if-not-take.ensures)))
    (same_abort by_fuel (world_of (with_units_of m u) base c.args.overlay.now))

pub returns-clause-told : goal.returns-clause-told
returns-clause-told c =
    let m = c.args.self.now in
    let base = c.args.base.now.objects in
    let s = shown m base c.args.overlay.now in
    let u = c.take.new.self in
    let held : Held (slots_of m.top.slots) c.args.args.now = all_held (slots_of m.top.slots) c.args.args.now (sym c.are_set.ensures ∙ c.if-not-are_set.false) in
    subst (λ x. Tells c.makes.result x (shown c.makes.new.self base c.makes.new.overlay))
    (sym (new_called c.args.code.now c.args.slot c.args.contract c.args.args.now s held.values (world_of (with_units_of m u) base c.args.overlay.now)
    held.is
    (unit_taken m base c.args.overlay.now u (makes_object c.args.code.now (caller s c.args.slot) c.args.contract (constructor_of c.args.code.now c.args.contract) held.values) c.if-not-take.ensures)))
    c.makes.ensures.told

pub returns-then-not-take-clause-unread : goal.returns-then-not-take-clause-unread
returns-then-not-take-clause-unread c = unread_itself no_object c.args.overlay.now
