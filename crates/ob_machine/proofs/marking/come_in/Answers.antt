use Rattle.ob_heap.specs.Overlays.{no_object}
use Rattle.ob_heap.proofs.UnreadLemmas.{unread_itself}
use Rattle.ob_machine.proofs.marking.come_in.Goals as goal

pub returns-then-not-is_shared-clause-unread : goal.returns-then-not-is_shared-clause-unread
returns-then-not-is_shared-clause-unread c = unread_itself no_object c.args.overlay.now
