use Rattle.std.proofs.Common.{◌≡◌, None, refl, sym, subst, rules}
use Rattle.ob_machine.specs.Phases.{phase_of}
use Rattle.ob_machine.specs.Shown.{shown}
use Rattle.ob_machine.proofs.SliceLemmas.{begun_at}
use Rattle.ob_machine.proofs.StretchLemmas.{turned_first, turned_later}
use Rattle.std.specs.Prelude.{OnOk}
use Rattle.ob_machine_laws.specs.Laws.{HasToldFrames}
use Rattle.ob_machine.proofs.UnreadLemmas.{turn_leaves, then_turn, Spared}
use Rattle.ob_machine.proofs.machine.Machine.turn.Goals as goal

pub returns-then-is_some-clause-told : goal.returns-then-is_some-clause-told
returns-then-is_some-clause-told c =
    let base = c.args.base.now.objects in
    turned_first c.args.code.now c.args.left (phase_of c.args.self.now base c.args.overlay.now) c.first_turn.result c.first_turn.new.self base
    c.first_turn.new.overlay c.requires c.first_turn.ensures.told

pub returns-in-Ok-clause-told : goal.returns-in-Ok-clause-told
returns-in-Ok-clause-told c =
    let base = c.args.base.now.objects in
    let m = c.args.self.now in
    let later = record m { run = c.stretch.new.self } in
    let none : m.entry ≡ None = search rules in
    turned_later c.args.code.now c.args.left c.in-Ok.rest (shown m.run base c.args.overlay.now) (shown c.stretch.new.self base c.stretch.new.overlay)
    (phase_of m base c.args.overlay.now) (phase_of later base c.stretch.new.overlay) c.stretch.result c.later_turn.result c.later_turn.new.self base
    c.later_turn.new.overlay c.requires (begun_at m base c.args.overlay.now none) (begun_at later base c.stretch.new.overlay none)
    c.stretch.ensures.told c.in-Ok.is c.later_turn.ensures.told

pub returns-then-is_some-clause-unread : goal.returns-then-is_some-clause-unread
returns-then-is_some-clause-unread c = λ known.
    let base = c.args.base.now.objects in
    turn_leaves c.args.code.now c.args.left (phase_of c.args.self.now base c.args.overlay.now) c.first_turn.result c.first_turn.new.self base
    c.args.overlay.now c.first_turn.new.overlay known c.first_turn.ensures.told (c.first_turn.ensures.unread known)

pub returns-in-Ok-clause-unread : goal.returns-in-Ok-clause-unread
returns-in-Ok-clause-unread c = λ known.
    let base = c.args.base.now.objects in
    let m = c.args.self.now in
    let later = record m { run = c.stretch.new.self } in
    let none : m.entry ≡ None = search rules in
    let s : Spared c.args.overlay.now c.stretch.new.overlay (shown c.stretch.new.self base c.stretch.new.overlay) =
    subst (λ r. OnOk r (Spared c.args.overlay.now c.stretch.new.overlay (shown c.stretch.new.self base c.stretch.new.overlay))) c.in-Ok.is
    (c.stretch.ensures.unread (subst HasToldFrames (begun_at m base c.args.overlay.now none) known)) in
    let there : HasToldFrames (phase_of later base c.stretch.new.overlay) = subst HasToldFrames (sym (begun_at later base c.stretch.new.overlay none)) s.1 in
    then_turn c.later_turn.result c.args.overlay.now c.stretch.new.overlay c.later_turn.new.overlay
    (phase_of c.later_turn.new.self base c.later_turn.new.overlay) s.0
    (turn_leaves c.args.code.now c.in-Ok.rest (phase_of later base c.stretch.new.overlay) c.later_turn.result c.later_turn.new.self base
    c.stretch.new.overlay c.later_turn.new.overlay there c.later_turn.ensures.told (c.later_turn.ensures.unread there))
