-- How the code runs a stretch: steps inside one body that neither call nor test nor end (this project's own).
use Rattle.std.specs.Prelude.{◌≡◌, ◌<◌, ◌≤◌, ℕ, Bool, true, false, List, Option, Some, None, Result, Ok, Err, ⊤}
use Rattle.ob_code.specs.declared.image.Image.{Image}
use Rattle.ob_heap.specs.declared.object.Object.{Object}
use Rattle.ob_heap.specs.Overlays.{Changes}
use Rattle.ob_machine_steps.specs.Configurations.{Configuration, Next, goes}
use Rattle.ob_machine_steps.specs.Entries.{Phase, running, next_step}
use Rattle.ob_machine_steps.specs.Measures.{steps_left}
use Rattle.ob_machine_steps.specs.Runs.{Stop, paused, waits, pays, left_after}
use Rattle.ob_machine.specs.Phases.{phase_of}
use Rattle.ob_machine.specs.Slicing.{ComesTo, stop_told}
use Rattle.ob_machine.specs.declared.machine.Machine.{Machine}
use Rattle.ob_machine_parts.specs.declared.off.Off.{Off}
use Rattle.ob_machine_parts.specs.declared.off.Off.TheVariants.{Memory, NoStep}
use Rattle.ob_machine.specs.declared.progress.Progress.TheVariants.{Finished, Aborted, Going}
use Rattle.ob_machine.specs.declared.slice.Turn.{Turn}
use Rattle.ob_machine.specs.declared.slice.Turn.TheVariants.{Waits, Made}

-- two configurations are in the same body
abbrev pub IsSameBody : Configuration → Configuration → Type 0
IsSameBody c d = (d.top.contract ≡ c.top.contract) × (d.top.tx ≡ c.top.tx)

-- A step inside a body leads from a configuration to another one, or nothing is done; or there is no such step; or memory ran out.
abbrev pub Acts : Result Bool Off → Option Next → Configuration → Configuration → Type 0
Acts (Ok true) spec c d = (spec ≡ Some (goes d)) × IsSameBody c d
Acts (Ok false) spec c d = d ≡ c
Acts (Err NoStep) spec c d = spec ≡ None
Acts (Err Memory) spec c d = ⊤

-- the same in a slice, of which so many units are left then
abbrev pub Strides : Result (Option ℕ) Off → Image → ℕ → Configuration → Configuration → Type 0
Strides (Ok (Some rest)) image left c d =
    (waits image left (running c) ≡ false) × (rest ≡ left_after (pays image (running c)) left) × (next_step image (running c) ≡ Some (goes d))
    × IsSameBody c d
Strides (Ok None) image left c d = d ≡ c
Strides (Err NoStep) image left c d = (waits image left (running c) ≡ false) × (next_step image (running c) ≡ None)
Strides (Err Memory) image left c d = ⊤

-- What a slice of so many units comes to from the second phase, one of so many units comes to from the first.
abbrev pub LeadsOn : Image → ℕ → Phase → ℕ → Phase → Type 0
LeadsOn image units p left q = (found : Option Stop) → ComesTo image left q found → ComesTo image units p found

-- A stretch leads on, with no more steps to make than before; or it comes to where there is no next step; or memory ran out.
abbrev pub Stretches : Result ℕ Off → Image → ℕ → Configuration → Configuration → Type 0
Stretches (Ok left) image units c d = LeadsOn image units (running c) left (running d) × (steps_left image (running d) ≤ steps_left image (running c))
Stretches (Err NoStep) image units c d = ComesTo image units (running c) None
Stretches (Err Memory) image units c d = ⊤

-- A turn of a slice waits, or stops, or leads on, with fewer steps to make than before; or it comes to where there is no next step; or
-- memory ran out.
abbrev pub Turns : Result Turn Off → Image → ℕ → Phase → Machine → List Object → Changes → Type 0
Turns (Ok Waits) image left p m base o = ComesTo image left p (Some (paused (phase_of m base o)))
Turns (Ok (Made Going rest)) image left p m base o =
    LeadsOn image left p rest (phase_of m base o) × (steps_left image (phase_of m base o) < steps_left image p)
Turns (Ok (Made (Finished result) rest)) image left p m base o = ComesTo image left p (Some (stop_told m base o (Finished result)))
Turns (Ok (Made (Aborted cause) rest)) image left p m base o = ComesTo image left p (Some (stop_told m base o (Aborted cause)))
Turns (Err NoStep) image left p m base o = ComesTo image left p None
Turns (Err Memory) image left p m base o = ⊤
