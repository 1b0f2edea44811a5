-- Which request an idle lane starts, told of what lanes keep (this project's own).
use Rattle.std.specs.Prelude.{ℕ, suc, nat_eq, Bool, true, false, not, ◌&&◌, ◌||◌, bytes_eq, List, [], ◌∷◌, slice_get, slice_set, Option, Some, None, if◌then◌else◌}
use Rattle.std.specs.List.{list_any, list_all}
use Rattle.ob_lanes.specs.declared.batch.Busy.{Busy}
use Rattle.ob_lanes.specs.declared.batch.BatchRequest.{BatchRequest}

-- whether a lane is busy with the request of a number
abbrev pub is_busy_with : ℕ → Option Busy → Bool
is_busy_with n None = false
is_busy_with n (Some b) = nat_eq n b.number

-- whether one of these lanes is
abbrev pub is_held : ℕ → List (Option Busy) → Bool
is_held n lanes = list_any (is_busy_with n) lanes

-- whether each request of a client before number `n` is answered, among these, which have the numbers from `k` on
abbrev pub are_earlier_done : List ℕ → ℕ → ℕ → List BatchRequest → Bool
are_earlier_done who n k [] = true
are_earlier_done who n k (e ∷ es) =
    nat_eq n k || ((not (bytes_eq e.request.who who) || e.is_done) && are_earlier_done who n (suc k) es)

-- whether the request of a number may start: it waits, and all earlier ones of its client are answered
abbrev pub may_start : List BatchRequest → List (Option Busy) → ℕ → BatchRequest → Bool
may_start entries lanes n e = not e.is_done && (not (is_held n lanes) && are_earlier_done e.request.who n 0 entries)

-- the first of these requests that may start; they have the numbers from this one on
abbrev pub first_from : List BatchRequest → List (Option Busy) → ℕ → List BatchRequest → Option ℕ
first_from entries lanes k [] = None
first_from entries lanes k (e ∷ es) = if may_start entries lanes k e then Some k else first_from entries lanes (suc k) es

-- a lane that has opened the request of a number
abbrev pub opened_busy : ℕ → Busy
opened_busy n = record { number = n; run = None }

-- a lane that is idle opens a request, if there is one
abbrev pub begun_with : ℕ → Option ℕ → Option (Option Busy) → List (Option Busy) → List (Option Busy)
begun_with k (Some n) (Some None) lanes = slice_set lanes k (Some (opened_busy n))
begun_with k n lane lanes = lanes

-- a lane that is idle opens the first request that may start
abbrev pub begun : List BatchRequest → ℕ → List (Option Busy) → List (Option Busy)
begun entries k lanes = begun_with k (first_from entries lanes 0 entries) (slice_get lanes k) lanes

-- whether all of these are answered
abbrev pub are_all_done : List BatchRequest → Bool
are_all_done entries = list_all (λ (e : BatchRequest). e.is_done) entries
