use Rattle.std.proofs.Common.{sym, ◌∙◌}
use Rattle.std.proofs.lemmas.Result.{on_ok_weaker}
use Rattle.ob_heap_spec.specs.Worlds.{read_object}
use Rattle.ob_heap.specs.Overlays.{no_object}
use Rattle.ob_heap.proofs.UnreadLemmas.{unread_onward}
use Rattle.ob_machine_parts.specs.Editing.{shared_now}
use Rattle.ob_machine_parts.specs.Shown.{world_with}
use Rattle.ob_machine_parts.proofs.WorldLemmas.{unmarked_within, marked_now}
use Rattle.ob_machine_parts.proofs.heap.mark_shared.Goals as goal

pub set_shared-requires : goal.set_shared-requires
set_shared-requires c =
    unmarked_within (λ o. o.shared) c.args.base.now.objects c.note.new.overlay c.args.id.0 (sym c.is_shared.ensures ∙ c.if-is_shared.false)

pub returns-clause-world : goal.returns-clause-world
returns-clause-world c = on_ok_weaker c.set_shared.result
    (λ h d u. marked_now (λ o. o.shared) shared_now c.args.id.0 (read_object (world_with d u c.args.base.now.objects c.args.overlay.now) c.args.id.0)
    (world_with d u c.args.base.now.objects c.note.new.overlay) (world_with d u c.args.base.now.objects c.set_shared.new.overlay)
    (c.in_ok-note.ensures.world d u) (sym c.is_shared.ensures ∙ c.if-is_shared.false) (h d u)) c.set_shared.ensures.world

pub returns-clause-unread : goal.returns-clause-unread
returns-clause-unread c = on_ok_weaker c.set_shared.result
    (λ k. unread_onward no_object c.args.overlay.now c.note.new.overlay c.set_shared.new.overlay c.in_ok-note.ensures.unread (k c.in_ok-note.ensures.read))
    c.set_shared.ensures.unread
