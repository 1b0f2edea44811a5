-- When requests are answered in the order of their batch (this project's own).
use Rattle.std.specs.Prelude.{◌≡◌, ℕ, true, List, map, reverse, length}
use Rattle.std.specs.List.{range_with_len}
use Rattle.ob_lanes_laws.specs.Schedule.{Rules, Done, Event, idle, after_events}
use Rattle.ob_lanes_laws.specs.Serial.{IsOf, AreLocal}
use Rattle.ob_lanes_laws.specs.Turns.{after_turns}

-- the requests that were answered are the first ones of their batch, in their order there
abbrev pub AreFirstInOrder : {S A : Type 0} → List (Done S A) → Type 0
AreFirstInOrder done = reverse (map (λ d. d.number) done) ≡ range_with_len 0 (length done)

-- So it is in one lane, after any number of turns, whatever a slice has, and whether runs are local or not.
abbrev pub OneLaneKeepsTheOrder : Type 0 → Type 0 → Type 0 → Type 0 → Type 0
OneLaneKeepsTheOrder S Q R A =
    (rules : Rules S Q R A) (batch : List Q) (units : ℕ) (s : S) (turns : ℕ)
    → AreFirstInOrder (after_turns rules batch units 1 s turns).lanes.done

-- So it is where all requests are of one client and runs are local, in any number of lanes, whatever events come.
abbrev pub OneClientKeepsTheOrder : Type 0 → Type 0 → Type 0 → Type 0 → Type 0
OneClientKeepsTheOrder S Q R A =
    (rules : Rules S Q R A) (batch : List Q) (s : S) (count : ℕ) (events : List Event) → AreLocal rules batch s
    → ((p q : Q) → IsOf batch p → IsOf batch q → rules.same_client p q ≡ true)
    → AreFirstInOrder (after_events rules batch (idle s count) events).done
