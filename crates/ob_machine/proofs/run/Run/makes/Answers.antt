use Rattle.std.proofs.Common.{subst, Some, None, length}
use Rattle.ob_base.specs.Limits.{most_objects}
use Rattle.ob_heap.specs.Overlays.{objects_over}
use Rattle.ob_machine_steps.specs.Parts.{with_world}
use Rattle.ob_machine.specs.Calls.{makes_with, constructs_with}
use Rattle.ob_machine_parts.specs.Making.{Makes}
use Rattle.ob_machine_parts.specs.Shown.{slots_of}
use Rattle.ob_machine.specs.Shown.{shown, world_of}
use Rattle.ob_machine.proofs.BeginningLemmas.{Held, all_held}
use Rattle.ob_machine.proofs.CallLemmas.{makes_same, full_same}
use Rattle.ob_machine.proofs.TestLemmas.{told_same}
use Rattle.ob_machine_parts.proofs.WorldLemmas.{below_most, from_most}
use Rattle.ob_machine.proofs.UnreadLemmas.{on_ok_so}
use Rattle.ob_machine.proofs.run.Run.makes.Goals as goal

pub returns-in-Some-clause-told : goal.returns-in-Some-clause-told
returns-in-Some-clause-told c =
    let m = c.args.self.now in
    let base = c.args.base.now.objects in
    let s = shown m base c.args.overlay.now in
    let n = c.in-Some.id.0 in
    let v = world_of m base c.make.new.overlay in
    let held : Held (slots_of m.top.slots) c.args.args.now = all_held (slots_of m.top.slots) c.args.args.now c.requires.set in
    let made : Makes base c.args.contract c.args.overlay.now c.make.new.overlay (Some c.in-Some.id) =
    subst (Makes base c.args.contract c.args.overlay.now c.make.new.overlay) c.in-Some.is c.in_ok-id.ensures.made in
    told_same c.constructs.result (makes_with c.args.code.now c.args.slot c.args.contract c.args.args.now s)
    (constructs_with c.args.code.now c.args.slot c.args.contract n c.args.args.now (with_world v s)) (shown c.constructs.new.self base c.make.new.overlay)
    (makes_same c.args.code.now c.args.slot c.args.contract c.args.args.now held.values s n v held.is
    (below_most (length (objects_over base c.args.overlay.now)) most_objects made.0) made.1 (made.2 m.guard m.units))
    (c.constructs.ensures base c.make.new.overlay)

pub returns-in-None-clause-told : goal.returns-in-None-clause-told
returns-in-None-clause-told c =
    let m = c.args.self.now in
    let base = c.args.base.now.objects in
    let s = shown m base c.args.overlay.now in
    let held : Held (slots_of m.top.slots) c.args.args.now = all_held (slots_of m.top.slots) c.args.args.now c.requires.set in
    let made : Makes base c.args.contract c.args.overlay.now c.make.new.overlay None =
    subst (Makes base c.args.contract c.args.overlay.now c.make.new.overlay) c.in-None.is c.in_ok-id.ensures.made in
    full_same c.args.code.now c.args.slot c.args.contract c.args.args.now held.values s (world_of m base c.make.new.overlay) held.is
    (from_most (length (objects_over base c.args.overlay.now)) most_objects made.0) (made.1 m.guard m.units)

pub returns-in-Some-clause-unread : goal.returns-in-Some-clause-unread
returns-in-Some-clause-unread c = on_ok_so c.constructs.result c.in_ok-id.ensures.unread
