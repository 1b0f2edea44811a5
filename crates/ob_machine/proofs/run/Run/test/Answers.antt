use Rattle.std.proofs.Common.{◌≡◌, sym, subst, true, false, refl, eq-eqb, arith}
use Rattle.std.specs.Prelude.{◌==◌}
use Rattle.ob_heap_spec.specs.Worlds.{read_object}
use Rattle.ob_heap.specs.Plain.{object_of}
use Rattle.ob_machine.specs.Shown.{shown, world_of, Tells}
use Rattle.ob_machine_steps.specs.Parts.{with_world}
use Rattle.ob_machine_steps.specs.Testing.{tests_this, tests_other}
use Rattle.ob_machine.proofs.TestLemmas.{tested, told_same, this_reads, other_reads}
use Rattle.ob_machine.proofs.UnreadLemmas.{on_ok_so}
use Rattle.ob_machine.proofs.run.Run.test.Goals as goal

pub returns-then-a-eq0-clause-told : goal.returns-then-a-eq0-clause-told
returns-then-a-eq0-clause-told c =
    let m = c.args.self.now in
    let base = c.args.base.now.objects in
    let s = shown m base c.args.overlay.now in
    let w = read_object (world_of m base c.args.overlay.now) c.in_ok-id.id.0 in
    let first : (c.args.a == 0) ≡ true = eq-eqb c.args.a 0 c.if-a-eq0.true in
    subst (λ n. Tells c.tests_this.result n (shown c.tests_this.new.self base c.note.new.overlay))
    (sym (tested c.args.code.now c.args.a c.args.contract c.args.state c.args.target s c.in_ok-id.id.0 (object_of c.in_ok-object.object.now) true
    c.is_in_state-holds.result c.in_ok-id.ensures c.in_ok-object.ensures.object c.is_in_state-holds.ensures first))
    (told_same c.tests_this.result (tests_this c.in_ok-id.id.0 c.args.target (with_world w s) c.is_in_state-holds.result)
    (tests_this c.in_ok-id.id.0 c.args.target (with_world (world_of m base c.note.new.overlay) s) c.is_in_state-holds.result)
    (shown c.tests_this.new.self base c.note.new.overlay)
    (this_reads c.in_ok-id.id.0 c.args.target s w (world_of m base c.note.new.overlay) c.is_in_state-holds.result (c.in_ok-note.ensures.world m.guard m.units))
    (c.tests_this.ensures base c.note.new.overlay))

pub returns-else-a-eq0-clause-told : goal.returns-else-a-eq0-clause-told
returns-else-a-eq0-clause-told c =
    let m = c.args.self.now in
    let base = c.args.base.now.objects in
    let s = shown m base c.args.overlay.now in
    let w = read_object (world_of m base c.args.overlay.now) c.in_ok-id.id.0 in
    let o = object_of c.in_ok-object.object.now in
    let first : (c.args.a == 0) ≡ false = grind (arith, c.if-a-eq0.false) in
    subst (λ n. Tells c.tests_other.result n (shown c.tests_other.new.self base c.note.new.overlay))
    (sym (tested c.args.code.now c.args.a c.args.contract c.args.state c.args.target s c.in_ok-id.id.0 o false
    c.is_in_state-holds.result c.in_ok-id.ensures c.in_ok-object.ensures.object c.is_in_state-holds.ensures first))
    (told_same c.tests_other.result (tests_other c.in_ok-id.id.0 o c.args.target (with_world w s) c.is_in_state-holds.result)
    (tests_other c.in_ok-id.id.0 o c.args.target (with_world (world_of m base c.note.new.overlay) s) c.is_in_state-holds.result)
    (shown c.tests_other.new.self base c.note.new.overlay)
    (other_reads c.in_ok-id.id.0 c.args.target o s w (world_of m base c.note.new.overlay) c.is_in_state-holds.result (c.in_ok-note.ensures.world m.guard m.units))
    (c.tests_other.ensures base c.note.new.overlay o refl))

pub returns-then-a-eq0-clause-unread : goal.returns-then-a-eq0-clause-unread
returns-then-a-eq0-clause-unread c = on_ok_so c.tests_this.result c.in_ok-note.ensures.unread

pub returns-else-a-eq0-clause-unread : goal.returns-else-a-eq0-clause-unread
returns-else-a-eq0-clause-unread c = on_ok_so c.tests_other.result c.in_ok-note.ensures.unread
