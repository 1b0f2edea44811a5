use Rattle.std.proofs.Common.{subst, Some, None, length, map}
use Rattle.ob_base.specs.Limits.{most_objects}
use Rattle.ob_heap.specs.Overlays.{objects_over}
use Rattle.ob_heap.specs.Plain.{value_of}
use Rattle.ob_machine_steps.specs.Configurations.{on_new}
use Rattle.ob_machine_steps.specs.Calling.{makes_object}
use Rattle.ob_machine_steps.specs.Entries.{nobody}
use Rattle.ob_machine_parts.specs.Giving.{Gives}
use Rattle.ob_machine_parts.specs.Making.{Makes}
use Rattle.ob_machine.specs.Phases.{enters_body}
use Rattle.ob_machine.specs.Shown.{shown, told, world_of}
use Rattle.ob_machine.proofs.CallLemmas.{entry_made, entry_full}
use Rattle.ob_machine.proofs.TestLemmas.{told_same}
use Rattle.ob_machine_parts.proofs.WorldLemmas.{below_most, from_most}
use Rattle.ob_machine.proofs.UnreadLemmas.{on_ok_so}
use Rattle.ob_machine.proofs.run.Run.enters_new.Goals as goal

pub returns-in-Some-clause-told : goal.returns-in-Some-clause-told
returns-in-Some-clause-told c =
    let m = c.args.self.now in
    let base = c.args.base.now.objects in
    let e = c.args.entry.now in
    let vs = map value_of e.args in
    let w = world_of m base c.args.overlay.now in
    let v = world_of m base c.make.new.overlay in
    let made : Makes base e.contract c.args.overlay.now c.make.new.overlay (Some c.in-Some.id) =
    subst (Makes base e.contract c.args.overlay.now c.make.new.overlay) c.in-Some.is c.in_ok-id.ensures.made in
    told_same c.enters_body.result (makes_object c.args.code.now nobody e.contract (Some e.tx) vs w)
    (enters_body c.args.code.now (e.contract, e.tx) c.in-Some.id.0 on_new vs v) (shown c.enters_body.new.self base c.make.new.overlay)
    (entry_made c.args.code.now nobody e.contract e.tx vs w v c.in-Some.id.0
    (below_most (length (objects_over base c.args.overlay.now)) most_objects made.0) made.1 (made.2 m.guard m.units))
    (subst (λ xs. Gives c.enters_body.result (enters_body c.args.code.now (e.contract, e.tx) c.in-Some.id.0 on_new (map value_of xs) v) (told (shown c.enters_body.new.self base c.make.new.overlay)))
    c.as_slice.ensures (c.enters_body.ensures base c.make.new.overlay))

pub returns-in-None-clause-told : goal.returns-in-None-clause-told
returns-in-None-clause-told c =
    let m = c.args.self.now in
    let base = c.args.base.now.objects in
    let e = c.args.entry.now in
    let made : Makes base e.contract c.args.overlay.now c.make.new.overlay None =
    subst (Makes base e.contract c.args.overlay.now c.make.new.overlay) c.in-None.is c.in_ok-id.ensures.made in
    entry_full c.args.code.now nobody e.contract e.tx (map value_of e.args) (world_of m base c.args.overlay.now) (world_of m base c.make.new.overlay)
    (from_most (length (objects_over base c.args.overlay.now)) most_objects made.0) (made.1 m.guard m.units)

pub returns-in-Some-clause-unread : goal.returns-in-Some-clause-unread
returns-in-Some-clause-unread c = on_ok_so c.enters_body.result c.in_ok-id.ensures.unread
