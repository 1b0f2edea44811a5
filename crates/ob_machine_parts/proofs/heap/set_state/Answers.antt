use Rattle.std.proofs.Common.{refl}
use Rattle.ob_heap.specs.declared.edit.Edit.TheVariants.{State}
use Rattle.ob_heap.specs.Plain.{fields_of}
use Rattle.ob_machine_parts.specs.Editing.{with_state}
use Rattle.ob_machine_parts.proofs.WorldLemmas.{edited_ok}
use Rattle.ob_machine_parts.proofs.UnreadLemmas.{edited_only}
use Rattle.ob_machine_parts.proofs.heap.set_state.Goals as goal

pub returns-clause-world : goal.returns-clause-world
returns-clause-world c =
    edited_ok (with_state c.args.state (fields_of c.args.fields)) c.edit.result c.args.base.now.objects c.args.overlay.now c.edit.new.self c.args.id.0 (State c.args.state c.args.fields) c.requires
    c.edit.ensures.objects c.edit.ensures.same (λ x. refl)

pub returns-clause-unread : goal.returns-clause-unread
returns-clause-unread c =
    edited_only c.edit.result c.args.base.now.objects c.args.overlay.now c.edit.new.self c.args.id.0 c.edit.ensures.others c.edit.ensures.same
