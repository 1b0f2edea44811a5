use Rattle.std.proofs.Common.{length, ◌≡◌, ◌∙◌, sym, subst, Some, None, true, false, refl}
use Rattle.ob_heap_spec.specs.Values.{nothing}
use Rattle.ob_machine_steps.specs.Changing.{given_values, is_locked_out}
use Rattle.ob_machine_parts.specs.Giving.{Gives}
use Rattle.ob_machine_parts.specs.Shown.{slots_of}
use Rattle.ob_machine.specs.Shown.{shown, told}
use Rattle.ob_machine.proofs.ChangeLemmas.{Got, given_none, given_some, changing}
use Rattle.ob_heap.proofs.UnreadLemmas.{unread_itself}
use Rattle.ob_heap.specs.Overlays.{only}
use Rattle.ob_machine.proofs.run.Run.change.Goals as goal

pub returns-then-not-are_given-clause-told : goal.returns-then-not-are_given-clause-told
returns-then-not-are_given-clause-told c =
    let e = c.in_ok-own.ensures in
    let f : given_values (slots_of c.args.self.now.top.slots) c.args.given.now nothing ≡ None =
    given_none (slots_of c.args.self.now.top.slots) c.args.given.now nothing (sym c.are_given.ensures ∙ c.if-not-are_given.true) in
    rw (e, f) refl

pub returns-then-is_locked_out-clause-told : goal.returns-then-is_locked_out-clause-told
returns-then-is_locked_out-clause-told c =
    let got : Got (slots_of c.args.self.now.top.slots) c.args.given.now nothing =
    given_some (slots_of c.args.self.now.top.slots) c.args.given.now nothing (sym c.are_given.ensures ∙ c.if-not-are_given.false) in
    let e = c.in_ok-own.ensures in
    let f : given_values (slots_of c.args.self.now.top.slots) c.args.given.now nothing ≡ Some got.got = got.is in
    let g : is_locked_out (shown c.args.self.now c.args.base.now.objects c.args.overlay.now) c.args.self.now.top.this.0 ≡ true =
    sym (c.is_locked_out.ensures c.args.base.now.objects c.args.overlay.now) ∙ c.if-is_locked_out.true in
    rw (e, f, g) refl

pub returns-clause-told : goal.returns-clause-told
returns-clause-told c =
    let m = c.args.self.now in
    let s = shown m c.args.base.now.objects c.args.overlay.now in
    let got : Got (slots_of m.top.slots) c.args.given.now nothing =
    given_some (slots_of m.top.slots) c.args.given.now nothing (sym c.are_given.ensures ∙ c.if-not-are_given.false) in
    let g : is_locked_out s m.top.this.0 ≡ false = sym (c.is_locked_out.ensures c.args.base.now.objects c.args.overlay.now) ∙ c.if-is_locked_out.false in
    subst (λ n. Gives c.changes_to.result n (told (shown c.changes_to.new.self c.args.base.now.objects c.changes_to.new.overlay)))
    (sym (changing c.args.code.now c.args.state c.args.given.now s c.in_ok-own.own.now got.got c.in_ok-own.ensures got.is g)) c.changes_to.ensures.told

pub returns-then-is_locked_out-clause-unread : goal.returns-then-is_locked_out-clause-unread
returns-then-is_locked_out-clause-unread c = unread_itself (only (length c.args.base.now.objects) c.args.self.now.top.this.0) c.args.overlay.now
