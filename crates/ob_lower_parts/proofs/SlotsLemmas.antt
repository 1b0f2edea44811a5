-- The next slot.
use Rattle.std.proofs.Common.{◌≡◌, ◌≤◌, ◌<◌, ◌+◌, arith, Ok, Err}
use Rattle.std.proofs.lemmas.Bool.{le-leb, lt-leb}
use Rattle.ob_base.specs.Limits.{most_slots}
use Rattle.ob_base.specs.declared.fault.Span.{Span}
use Rattle.ob_lower_functions.specs.Progress.{full, Slots, next_slot}

pub next-full : (place : Span) (s : Slots) → 128 ≤ s.top → next_slot place s ≡ Err (full place)
unfolding most_slots
next-full place s h = rw (lt-leb (s.top + 1) 128 (omega arith))

pub next-taken : (place : Span) (s : Slots) → s.top < 128
    → next_slot place s ≡ Ok (record { top = s.top + 1; references = s.references }, s.top)
unfolding most_slots
next-taken place s h = rw (le-leb (s.top + 1) 128 (omega arith))

pub ruleset slots = (next-full, next-taken)
