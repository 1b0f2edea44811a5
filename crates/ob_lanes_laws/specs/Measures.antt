-- Why the turns of a batch end: a measure that each turn lowers (this project's own).
use Rattle.std.specs.Prelude.{◌≡◌, ℕ, suc, ◌+◌, ◌*◌, ◌<◌, ◌≤◌, Bool, true, false, List, [], ◌∷◌, ◌++◌, map, take, drop, length, Option, Some, None, is_some, if◌then◌else◌}
use Rattle.ob_lanes_laws.specs.Schedule.{Rules, Busy, Done, Lanes, is_done}
use Rattle.ob_lanes_laws.specs.Turns.{first_start}

-- how many of these requests aren't answered; they have the numbers from this one on
abbrev pub count_open : {S Q A : Type 0} → ℕ → List Q → List (Done S A) → ℕ
count_open n [] done = 0
count_open n (q ∷ qs) done = (if is_done n done then 0 else 1) + count_open (suc n) qs done

-- How far a run is from its end at most, and the most that any run is at its opening: each slice that doesn't end a run takes it nearer.
pub record Distances {S Q R A : Type 0} (rules : Rules S Q R A) : Type 0 where
  pub left : R → ℕ
  pub most : ℕ
  pub opening : (q : Q) → left (rules.opening q) ≤ most
  pub slice : (s : S) (units : ℕ) (r : R) → 0 < units → rules.has_ended r ≡ false → rules.has_ended (rules.slice s units r) ≡ false → left (rules.slice s units r) < left r

-- how much a lane can do until the next commit: an idle one can still start a request
abbrev pub weight : {Q R : Type 0} → (R → ℕ) → ℕ → Option (Busy Q R) → ℕ
weight left most None = most + 2
weight left most (Some b) = left b.run + 1

-- the same of all lanes
abbrev pub weights : {Q R : Type 0} → (R → ℕ) → ℕ → List (Option (Busy Q R)) → ℕ
weights left most [] = 0
weights left most (x ∷ xs) = weight left most x + weights left most xs

-- whether a lane does something in its turn, where a request may start or none may
abbrev pub does : {Q R : Type 0} → Bool → Option (Busy Q R) → Bool
does may None = may
does may (Some b) = true

-- how many come before the first that is true
abbrev pub first_true : List Bool → ℕ
first_true [] = 0
first_true (b ∷ bs) = if b then 0 else suc (first_true bs)

-- a list from a place on, and round to that place
abbrev pub round_from : {A : Type 0} → ℕ → List A → List A
round_from k xs = drop k xs ++ take k xs

-- how many lanes do nothing before the next one that does something
abbrev pub idle_turns : {Q R : Type 0} → Bool → ℕ → List (Option (Busy Q R)) → ℕ
idle_turns may k lanes = first_true (map (does may) (round_from k lanes))

-- the turns until the next commit, at most
abbrev pub until_commit : {Q R : Type 0} → (R → ℕ) → ℕ → Bool → ℕ → List (Option (Busy Q R)) → ℕ
until_commit left most may k lanes = weights left most lanes * suc (length lanes) + idle_turns may k lanes

-- and more than these, wherever the lanes are
abbrev pub most_until : ℕ → ℕ → ℕ
most_until most count = suc ((count * (most + 2)) * suc count + count)

-- whether a request may start
abbrev pub may_one : {S Q R A : Type 0} → Rules S Q R A → List Q → Lanes S Q R A → Bool
may_one rules batch l = is_some (first_start rules batch l 0 batch)

-- The measure, where this lane's turn is next: how many turns are left, at most.
abbrev pub turns_left : {S Q R A : Type 0} → (rules : Rules S Q R A) → Distances rules → List Q → ℕ → Lanes S Q R A → ℕ
turns_left rules d batch k l =
    count_open 0 batch l.done * most_until d.most (length l.lanes)
    + until_commit d.left d.most (may_one rules batch l) k l.lanes
