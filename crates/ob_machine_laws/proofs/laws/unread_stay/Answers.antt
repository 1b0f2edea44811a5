-- By what each step reads.
use Rattle.ob_machine_laws.proofs.Unread.{unread_stay, frames_told}
use Rattle.ob_machine_laws.proofs.laws.unread_stay.Goals as goal

pub returns : goal.returns
returns c = record { objects = unread_stay; frames = frames_told }
