use Rattle.std.proofs.Common.{◌≡◌, ◌∙◌, sym, subst, false, map}
use Rattle.ob_heap_spec.specs.Marks.{enter, is_among}
use Rattle.ob_heap.specs.Plain.{value_of}
use Rattle.ob_machine_steps.specs.Configurations.{on_receiver}
use Rattle.ob_machine_steps.specs.Calling.{calls_object}
use Rattle.ob_machine_steps.specs.Entries.{nobody}
use Rattle.ob_machine_parts.specs.Giving.{Gives}
use Rattle.ob_machine.specs.Phases.{enters_body}
use Rattle.ob_machine.specs.Shown.{shown, told, world_of}
use Rattle.ob_machine.proofs.CallLemmas.{entry_reentered, entry_called, entry_shown, not_false, not_true}
use Rattle.ob_machine.proofs.TestLemmas.{told_same}
use Rattle.ob_machine.proofs.UnreadLemmas.{on_ok_so}
use Rattle.ob_machine.proofs.run.Run.enters_object.Goals as goal

pub returns-then-not-branch-clause-told : goal.returns-then-not-branch-clause-told
returns-then-not-branch-clause-told c =
    let m = c.args.self.now in
    let base = c.args.base.now.objects in
    entry_reentered c.args.code.now nobody c.args.entry.now.contract c.args.entry.now.tx c.args.id.0 (map value_of c.args.entry.now.args) (world_of m base c.args.overlay.now)
    (world_of m base c.enter.new.overlay) (c.in_ok-enter.ensures.world m.guard m.units)
    (not_false (is_among c.args.id.0 m.guard.progress) (sym c.in_ok-enter.ensures.entered.0 ∙ c.if-not-branch.true))

pub returns-clause-told : goal.returns-clause-told
returns-clause-told c =
    let m = c.args.self.now in
    let base = c.args.base.now.objects in
    let n = c.args.id.0 in
    let v = world_of m base c.enter.new.overlay in
    let vs = map value_of c.args.entry.now.args in
    let free : is_among n m.guard.progress ≡ false = not_true (is_among n m.guard.progress) (sym c.in_ok-enter.ensures.entered.0 ∙ c.if-not-branch.false) in
    let body = enters_body c.args.code.now c.in_ok-answer.answer n on_receiver vs (enter n v) in
    told_same c.enters_body.result (calls_object c.args.code.now nobody c.args.entry.now.contract c.args.entry.now.tx n vs (world_of m base c.args.overlay.now))
    body (shown c.enters_body.new.self base c.enter.new.overlay)
    (entry_called c.args.code.now nobody c.args.entry.now.contract c.args.entry.now.tx n vs (world_of m base c.args.overlay.now) v
    c.in_ok-answer.answer (c.in_ok-enter.ensures.world m.guard m.units) free c.in_ok-answer.ensures)
    (subst (λ w. Gives c.enters_body.result (enters_body c.args.code.now c.in_ok-answer.answer n on_receiver vs w) (told (shown c.enters_body.new.self base c.enter.new.overlay)))
    (entry_shown m base c.enter.new.overlay n c.enter.new.guard c.in_ok-enter.ensures.entered.1 free)
    (subst (λ xs. Gives c.enters_body.result (enters_body c.args.code.now c.in_ok-answer.answer n on_receiver (map value_of xs) (world_of (record m { guard = c.enter.new.guard }) base c.enter.new.overlay))
    (told (shown c.enters_body.new.self base c.enter.new.overlay))) c.as_slice.ensures (c.enters_body.ensures base c.enter.new.overlay)))

pub returns-clause-unread : goal.returns-clause-unread
returns-clause-unread c = on_ok_so c.enters_body.result c.in_ok-enter.ensures.unread
