use Rattle.ob_heap.specs.Overlays.{no_object}
use Rattle.ob_heap.proofs.UnreadLemmas.{unread_itself}
use Rattle.ob_machine.proofs.marking.mark.Goals as goal

pub returns-in-Err-NoStep-clause-unread : goal.returns-in-Err-NoStep-clause-unread
returns-in-Err-NoStep-clause-unread c = unread_itself no_object c.args.overlay.now
