-- What a run leaves of the changes that are laid over a store (this project's own).
use Rattle.std.specs.Prelude.{⊤}
use Rattle.ob_heap.specs.Overlays.{Changes, KeepsUnread, no_object}
use Rattle.ob_machine_steps.specs.Entries.{Phase}
use Rattle.ob_machine_laws.specs.Laws.{HasToldFrames}
use Rattle.ob_machine.specs.declared.progress.Progress.{Progress}
use Rattle.ob_machine.specs.declared.progress.Progress.TheVariants.{Finished, Aborted, Going}
use Rattle.ob_machine.specs.declared.slice.Turn.{Turn}
use Rattle.ob_machine.specs.declared.slice.Turn.TheVariants.{Waits, Made}

-- where a run goes on, it has made or read the object of each frame
abbrev pub IsToldOn : Progress → Phase → Type 0
IsToldOn Going p = HasToldFrames p
IsToldOn (Finished result) p = ⊤
IsToldOn (Aborted cause) p = ⊤

-- The entries of what isn't read are as they were; and where the run goes on, it has made or read the object of each frame.
abbrev pub Leaves : Progress → Changes → Changes → Phase → Type 0
Leaves progress old new p = KeepsUnread no_object old new × IsToldOn progress p

-- the same of a turn of a slice
abbrev pub TurnLeaves : Turn → Changes → Changes → Phase → Type 0
TurnLeaves Waits old new p = KeepsUnread no_object old new × HasToldFrames p
TurnLeaves (Made progress rest) old new p = Leaves progress old new p
