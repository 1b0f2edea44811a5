use Rattle.std.proofs.Common.{sym, ◌∙◌}
use Rattle.std.proofs.lemmas.Result.{on_ok_weaker}
use Rattle.ob_heap_spec.specs.Worlds.{read_object}
use Rattle.ob_heap.specs.Overlays.{no_object}
use Rattle.ob_heap.proofs.UnreadLemmas.{unread_onward}
use Rattle.ob_machine_parts.specs.Editing.{disowned_now}
use Rattle.ob_machine_parts.specs.Shown.{world_with}
use Rattle.ob_machine_parts.proofs.WorldLemmas.{marked_now}
use Rattle.ob_machine_parts.proofs.heap.mark_disowned.Goals as goal

pub returns-clause-world : goal.returns-clause-world
returns-clause-world c = on_ok_weaker c.set_disowned.result
    (λ h d u. marked_now (λ o. o.disowned) disowned_now c.args.id.0 (read_object (world_with d u c.args.base.now.objects c.args.overlay.now) c.args.id.0)
    (world_with d u c.args.base.now.objects c.note.new.overlay) (world_with d u c.args.base.now.objects c.set_disowned.new.overlay)
    (c.in_ok-note.ensures.world d u) (sym c.is_disowned.ensures ∙ c.if-is_disowned.false) (h d u)) c.set_disowned.ensures.world

pub returns-clause-unread : goal.returns-clause-unread
returns-clause-unread c = on_ok_weaker c.set_disowned.result
    (λ k. unread_onward no_object c.args.overlay.now c.note.new.overlay c.set_disowned.new.overlay c.in_ok-note.ensures.unread (k c.in_ok-note.ensures.read))
    c.set_disowned.ensures.unread
