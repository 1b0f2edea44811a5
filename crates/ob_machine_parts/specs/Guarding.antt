-- Locks, and transactions in progress, as the code keeps them (this project's own).
use Rattle.std.specs.Prelude.{ℕ, Bool, false, List, [], ◌∷◌, Option, Some, None, if◌then◌else◌}
use Rattle.ob_heap_spec.specs.Marks.{is_among, without_first}
use Rattle.ob_machine_parts.specs.Guards.{Guarded}
use Rattle.ob_machine_steps.specs.Configurations.{Entered, on_receiver, on_this, on_new}

-- without the lock of a test, if it took one
abbrev pub released : Option ℕ → Guarded → Guarded
released None g = g
released (Some n) g = record g { locked = without_first n g.locked }

-- without the locks of tests, the newest first
abbrev pub all_released : List (Option ℕ) → Guarded → Guarded
all_released [] g = g
all_released (t ∷ ts) g = all_released ts (released t g)

-- the receiver of a call has no longer a transaction in progress
abbrev pub left_by : Entered → ℕ → Guarded → Guarded
left_by on_receiver n g = record g { progress = without_first n g.progress }
left_by on_this n g = g
left_by on_new n g = g

-- with the lock of a test, if it takes one
abbrev pub locked_by : Option ℕ → Guarded → Guarded
locked_by None g = g
locked_by (Some n) g = record g { locked = n ∷ g.locked }

-- whether a number that is given is among those that are locked
abbrev pub holds_lock : Option ℕ → Guarded → Bool
holds_lock None g = false
holds_lock (Some n) g = is_among n g.locked

-- with the lock of an entry, if it has one
abbrev pub locked_at_entry : Bool → Option ℕ → Guarded → Guarded
locked_at_entry lock None g = g
locked_at_entry lock (Some n) g = if lock then record g { locked = n ∷ g.locked } else g
