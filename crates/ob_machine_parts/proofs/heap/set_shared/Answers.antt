use Rattle.std.proofs.Common.{refl}
use Rattle.ob_heap.specs.declared.edit.Edit.TheVariants.{Shared}
use Rattle.ob_machine_parts.specs.Editing.{shared_now}
use Rattle.ob_machine_parts.proofs.WorldLemmas.{edited_ok}
use Rattle.ob_machine_parts.proofs.UnreadLemmas.{edited_unread}
use Rattle.ob_machine_parts.proofs.heap.set_shared.Goals as goal

pub returns-clause-world : goal.returns-clause-world
returns-clause-world c =
    edited_ok shared_now c.edit.result c.args.base.now.objects c.args.overlay.now c.edit.new.self c.args.id.0 Shared c.requires
    c.edit.ensures.objects c.edit.ensures.same (λ x. refl)

pub returns-clause-unread : goal.returns-clause-unread
returns-clause-unread c =
    edited_unread c.edit.result c.args.base.now.objects c.args.overlay.now c.edit.new.self c.args.id.0 c.edit.ensures.others c.edit.ensures.same
