-- Frames that wait, from the newest on.
use Rattle.std.proofs.Common.{◌≡◌, List, [], ◌∷◌, ◌++◌}
use Rattle.ob_machine_parts.proofs.LocksLemmas.{newest_first}
use Rattle.ob_machine.specs.Shown.{frame_of, frames_of}
use Rattle.ob_machine.specs.declared.frame.Frame.{Frame}

pub frames_newest : (xs : List Frame) (x : Frame) → frames_of (xs ++ x ∷ []) ≡ frame_of x ∷ frames_of xs
frames_newest xs x = newest_first frame_of xs x
