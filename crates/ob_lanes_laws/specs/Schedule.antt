-- The schedule of lanes: runs of a batch's requests that take turns on one store, for any rules (Kung and Robinson, "On optimistic methods
-- for concurrency control", ACM TODS 6(2), 1981, for runs that work on what they have read and are opened again where a commit has changed
-- it; the events are this project's own).
use Rattle.std.specs.Prelude.{ℕ, suc, nat_eq, Bool, true, false, not, ◌&&◌, ◌||◌, List, [], ◌∷◌, map, replicate, slice_get, slice_set, Option, Some, None, if◌then◌else◌}
use Rattle.std.specs.List.{list_any}

-- The rules of a schedule, for stores, requests, runs and answers of any kind: whether two requests are of one client; the run that a
-- request is opened with; a run after a slice of so many units on the store of the moment; whether a run has ended; the store after its
-- commit, and its answer; and whether a run is stale once a store has become another: it has read something that differs between the two.
pub record Rules (S Q R A : Type 0) : Type 0 where
  pub same_client : Q → Q → Bool
  pub opening : Q → R
  pub slice : S → ℕ → R → R
  pub has_ended : R → Bool
  pub commit : S → R → S
  pub answer : S → R → A
  pub is_stale : S → S → R → Bool

-- the run of a request that was opened on a store and was given these units, the last first
abbrev pub run_of : {S Q R A : Type 0} → Rules S Q R A → S → List ℕ → Q → R
run_of rules s [] q = rules.opening q
run_of rules s (units ∷ given) q = rules.slice s units (run_of rules s given q)

-- The state.

-- A busy lane: its request, by the number in the batch and as it is, the units of its slices since the opening, the last first, and its
-- run.
pub record Busy (Q R : Type 0) : Type 0 where
  pub number : ℕ
  pub request : Q
  pub given : List ℕ
  pub run : R

-- what a commit has done: the number of the request that it answered, the answer, and the store after it
pub record Done (S A : Type 0) : Type 0 where
  pub number : ℕ
  pub answer : A
  pub after : S

-- the store, the lanes, of which some are idle, and what was done, the last first
pub record Lanes (S Q R A : Type 0) : Type 0 where
  pub store : S
  pub lanes : List (Option (Busy Q R))
  pub done : List (Done S A)

-- so many lanes, all idle
abbrev pub idle : {S Q R A : Type 0} → S → ℕ → Lanes S Q R A
idle s count = record { store = s; lanes = replicate count None; done = [] }

-- Which request may start.

-- whether the request of a number is answered
abbrev pub is_done : {S A : Type 0} → ℕ → List (Done S A) → Bool
is_done n done = list_any (λ d. nat_eq n d.number) done

-- whether a lane is busy with the request of a number
abbrev pub is_busy_with : {Q R : Type 0} → ℕ → Option (Busy Q R) → Bool
is_busy_with n None = false
is_busy_with n (Some b) = nat_eq n b.number

-- whether one of these lanes is
abbrev pub is_held : {Q R : Type 0} → ℕ → List (Option (Busy Q R)) → Bool
is_held n lanes = list_any (is_busy_with n) lanes

-- whether each request before number `n` that is of the client of `q` is answered, among these, which have the numbers from `k` on
abbrev pub are_earlier_done : {S Q R A : Type 0} → Rules S Q R A → Q → ℕ → ℕ → List Q → List (Done S A) → Bool
are_earlier_done rules q n k [] done = true
are_earlier_done rules q n k (p ∷ ps) done =
    nat_eq n k || ((not (rules.same_client p q) || is_done k done) && are_earlier_done rules q n (suc k) ps done)

-- whether the request of a number may start: it waits, and all earlier ones of its client are answered
abbrev pub may_start : {S Q R A : Type 0} → Rules S Q R A → List Q → ℕ → Q → Lanes S Q R A → Bool
may_start rules batch n q l =
    not (is_done n l.done) && (not (is_held n l.lanes) && are_earlier_done rules q n 0 batch l.done)

-- Events.

-- a lane starts the request of a number; it runs for a slice of so many units; it commits
pub data Event : Type 0 where
  start : ℕ → ℕ → Event
  slice : ℕ → ℕ → Event
  commit : ℕ → Event

-- a lane that has opened a request
abbrev pub opened : {S Q R A : Type 0} → Rules S Q R A → ℕ → Q → Busy Q R
opened rules n q = record { number = n; request = q; given = []; run = rules.opening q }

-- a lane that has run for a slice
abbrev pub sliced : {S Q R A : Type 0} → Rules S Q R A → S → ℕ → Busy Q R → Busy Q R
sliced rules s units b = record b { given = units ∷ b.given; run = rules.slice s units b.run }

-- the same with another lane at a number
abbrev pub with_lane : {S Q R A : Type 0} → ℕ → Option (Busy Q R) → Lanes S Q R A → Lanes S Q R A
with_lane k b l = record l { lanes = slice_set l.lanes k b }

-- a lane that is idle starts a request that may start
abbrev pub starts : {S Q R A : Type 0} → Rules S Q R A → List Q → ℕ → ℕ → Option Q → Option (Option (Busy Q R)) → Lanes S Q R A → Lanes S Q R A
starts rules batch k n (Some q) (Some None) l =
    if may_start rules batch n q l then with_lane k (Some (opened rules n q)) l else l
starts rules batch k n q lane l = l

-- a busy lane whose run hasn't ended runs for a slice
abbrev pub runs : {S Q R A : Type 0} → Rules S Q R A → ℕ → ℕ → Option (Option (Busy Q R)) → Lanes S Q R A → Lanes S Q R A
runs rules k units (Some (Some b)) l =
    if rules.has_ended b.run then l else with_lane k (Some (sliced rules l.store units b)) l
runs rules k units lane l = l

-- a lane after a commit that has made one store of another: if its run is stale it is opened again
abbrev pub after_commit : {S Q R A : Type 0} → Rules S Q R A → S → S → Option (Busy Q R) → Option (Busy Q R)
after_commit rules s t None = None
after_commit rules s t (Some b) = Some (if rules.is_stale s t b.run then opened rules b.number b.request else b)

-- a lane commits: its request is answered, it is idle, and each stale run of another lane is opened again
abbrev pub committed : {S Q R A : Type 0} → Rules S Q R A → ℕ → Busy Q R → Lanes S Q R A → Lanes S Q R A
committed rules k b l = record {
  store = rules.commit l.store b.run;
  lanes = map (after_commit rules l.store (rules.commit l.store b.run)) (slice_set l.lanes k None);
  done = record { number = b.number; answer = rules.answer l.store b.run; after = rules.commit l.store b.run } ∷ l.done;
}

-- a busy lane whose run has ended commits
abbrev pub commits : {S Q R A : Type 0} → Rules S Q R A → ℕ → Option (Option (Busy Q R)) → Lanes S Q R A → Lanes S Q R A
commits rules k (Some (Some b)) l = if rules.has_ended b.run then committed rules k b l else l
commits rules k lane l = l

-- The schedule after an event. One that can't take place changes nothing.
abbrev pub step : {S Q R A : Type 0} → Rules S Q R A → List Q → Lanes S Q R A → Event → Lanes S Q R A
step rules batch l (start k n) = starts rules batch k n (slice_get batch n) (slice_get l.lanes k) l
step rules batch l (slice k units) = runs rules k units (slice_get l.lanes k) l
step rules batch l (commit k) = commits rules k (slice_get l.lanes k) l

-- the schedule after events, one after another
abbrev pub after_events : {S Q R A : Type 0} → Rules S Q R A → List Q → Lanes S Q R A → List Event → Lanes S Q R A
after_events rules batch l [] = l
after_events rules batch l (e ∷ es) = after_events rules batch (step rules batch l e) es
