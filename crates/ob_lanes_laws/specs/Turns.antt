-- The turns of a batch: they go round the lanes, and each makes its events (this project's own).
use Rattle.std.specs.Prelude.{ℕ, zero, suc, ◌+◌, nat_lt, Bool, true, ◌&&◌, List, [], ◌∷◌, Option, Some, None, if◌then◌else◌}
use Rattle.ob_lanes_laws.specs.Schedule.{Rules, Done, Lanes, idle, is_done, may_start, start, slice, commit, step}

-- the first of these requests that may start; they have the numbers from this one on
abbrev pub first_start : {S Q R A : Type 0} → Rules S Q R A → List Q → Lanes S Q R A → ℕ → List Q → Option ℕ
first_start rules batch l n [] = None
first_start rules batch l n (q ∷ qs) =
    if may_start rules batch n q l then Some n else first_start rules batch l (suc n) qs

-- a lane starts the request of a number, if there is one
abbrev pub started : {S Q R A : Type 0} → Rules S Q R A → List Q → ℕ → Option ℕ → Lanes S Q R A → Lanes S Q R A
started rules batch k None l = l
started rules batch k (Some n) l = step rules batch l (start k n)

-- a turn of a lane up to its commit: if it is idle it starts the first request that may start; then it runs for a slice
abbrev pub turned : {S Q R A : Type 0} → Rules S Q R A → List Q → ℕ → ℕ → Lanes S Q R A → Lanes S Q R A
turned rules batch units k l =
    step rules batch (started rules batch k (first_start rules batch l 0 batch) l) (slice k units)

-- a whole turn: it commits where its run has ended
abbrev pub turn : {S Q R A : Type 0} → Rules S Q R A → List Q → ℕ → ℕ → Lanes S Q R A → Lanes S Q R A
turn rules batch units k l = step rules batch (turned rules batch units k l) (commit k)

-- the lane after one, round so many lanes
abbrev pub next_lane : ℕ → ℕ → ℕ
next_lane count k = if nat_lt (k + 1) count then k + 1 else 0

-- the lane whose turn is next, and the schedule
pub record Round (S Q R A : Type 0) : Type 0 where
  pub next : ℕ
  pub lanes : Lanes S Q R A

-- after so many turns of a batch on a store, with slices of so many units, round so many lanes from the first on
abbrev pub after_turns : {S Q R A : Type 0} → Rules S Q R A → List Q → ℕ → ℕ → S → ℕ → Round S Q R A
after_turns rules batch units count s zero = record { next = 0; lanes = idle s count }
after_turns rules batch units count s (suc n) =
    let r = after_turns rules batch units count s n in
    record { next = next_lane count r.next; lanes = turn rules batch units r.next r.lanes }

-- whether all of these requests are answered; they have the numbers from this one on
abbrev pub are_done_from : {S Q A : Type 0} → ℕ → List Q → List (Done S A) → Bool
are_done_from n [] done = true
are_done_from n (q ∷ qs) done = is_done n done && are_done_from (suc n) qs done

-- whether a batch is answered
abbrev pub is_answered : {S Q R A : Type 0} → List Q → Lanes S Q R A → Bool
is_answered batch l = are_done_from 0 batch l.done
