use Rattle.std.proofs.Common.{◌≡◌, ◌∙◌, sym, subst, false}
use Rattle.ob_heap_spec.specs.Marks.{enter, is_among}
use Rattle.ob_machine_steps.specs.Configurations.{on_receiver}
use Rattle.ob_machine_steps.specs.Parts.{with_world}
use Rattle.ob_machine.specs.Beginning.{runs}
use Rattle.ob_machine.specs.Calls.{calls_with}
use Rattle.ob_machine_parts.specs.Giving.{Gives}
use Rattle.ob_machine_parts.specs.Shown.{slots_of}
use Rattle.ob_machine.specs.Shown.{shown, told, world_of}
use Rattle.ob_machine.proofs.BeginningLemmas.{Held, all_held}
use Rattle.ob_machine.proofs.CallLemmas.{reentered, calls_same, entry_shown, not_false, not_true}
use Rattle.ob_machine.proofs.TestLemmas.{told_same}
use Rattle.ob_machine.proofs.UnreadLemmas.{on_ok_so}
use Rattle.ob_machine.proofs.run.Run.calls.Goals as goal

pub returns-then-not-branch-clause-told : goal.returns-then-not-branch-clause-told
returns-then-not-branch-clause-told c =
    let m = c.args.self.now in
    let base = c.args.base.now.objects in
    let held : Held (slots_of m.top.slots) c.args.args.now = all_held (slots_of m.top.slots) c.args.args.now c.requires.set in
    reentered c.args.code.now c.args.slot c.args.contract c.args.tx c.args.id.0 c.args.args.now held.values (shown m base c.args.overlay.now)
    (world_of m base c.enter.new.overlay) held.is (c.in_ok-enter.ensures.world m.guard m.units)
    (not_false (is_among c.args.id.0 m.guard.progress) (sym c.in_ok-enter.ensures.entered.0 ∙ c.if-not-branch.true))

pub returns-clause-told : goal.returns-clause-told
returns-clause-told c =
    let m = c.args.self.now in
    let base = c.args.base.now.objects in
    let n = c.args.id.0 in
    let s = shown m base c.args.overlay.now in
    let v = world_of m base c.enter.new.overlay in
    let held : Held (slots_of m.top.slots) c.args.args.now = all_held (slots_of m.top.slots) c.args.args.now c.requires.set in
    let free : is_among n m.guard.progress ≡ false = not_true (is_among n m.guard.progress) (sym c.in_ok-enter.ensures.entered.0 ∙ c.if-not-branch.false) in
    told_same c.runs.result (calls_with c.args.code.now c.args.slot c.args.contract c.args.tx n c.args.args.now s)
    (runs c.args.code.now c.args.slot c.in_ok-answer.answer n on_receiver c.args.args.now (with_world (enter n v) s)) (shown c.runs.new.self base c.enter.new.overlay)
    (calls_same c.args.code.now c.args.slot c.args.contract c.args.tx n c.args.args.now held.values s v c.in_ok-answer.answer
    held.is (c.in_ok-enter.ensures.world m.guard m.units) free c.in_ok-answer.ensures)
    (subst (λ w. Gives c.runs.result (runs c.args.code.now c.args.slot c.in_ok-answer.answer n on_receiver c.args.args.now (with_world w s)) (told (shown c.runs.new.self base c.enter.new.overlay)))
    (entry_shown m base c.enter.new.overlay n c.enter.new.guard c.in_ok-enter.ensures.entered.1 free) (c.runs.ensures base c.enter.new.overlay))

pub returns-clause-unread : goal.returns-clause-unread
returns-clause-unread c = on_ok_so c.runs.result c.in_ok-enter.ensures.unread
