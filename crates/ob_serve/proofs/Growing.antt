-- What is done of a schedule stays done, and there are as many lanes, whatever turns come.
use Rattle.std.proofs.Common.{◌≡◌, ℕ, zero, suc, ◌+◌, Bool, true, false, List, [], ◌∷◌, ◌++◌, length, replicate, Option, None, Some, refl, sym, ◌∙◌, ap, arith, append_assoc}
use Rattle.std.specs.Prelude.{slice_get, if◌then◌else◌}
use Rattle.ob_lanes_laws.specs.Schedule.{Rules, Busy, Done, Lanes, commit, may_start, opened, sliced, with_lane, starts, runs, committed, commits}
use Rattle.ob_lanes_laws.specs.Turns.{first_start, started, turned, turn, after_turns}
use Rattle.ob_lanes_laws.proofs.Lowering.{committed_length}
use Rattle.std.proofs.lemmas.List.{length-set, length-replicate}

module _ {S Q R A : Type 0} (rules : Rules S Q R A) where
  -- nothing more is done, there are as many lanes, and the store is the same
  pub record IsStill (l m : Lanes S Q R A) : Type 0 where
    pub done : m.done ≡ l.done
    pub count : length m.lanes ≡ length l.lanes
    pub store : m.store ≡ l.store

  still : (l : Lanes S Q R A) → IsStill l l
  still l = record { done = refl; count = refl; store = refl }

  still_then : (l m n : Lanes S Q R A) → IsStill l m → IsStill m n → IsStill l n
  still_then l m n a b = record { done = b.done ∙ a.done; count = b.count ∙ a.count; store = b.store ∙ a.store }

  lane_still : (k : ℕ) (b : Option (Busy Q R)) (l : Lanes S Q R A) → IsStill l (with_lane k b l)
  lane_still k b l = record { done = refl; count = length-set l.lanes k b; store = refl }

  start_still : (batch : List Q) (k n : ℕ) (x : Option Q) (y : Option (Option (Busy Q R))) (l : Lanes S Q R A) → IsStill l (starts rules batch k n x y l)
  start_still batch k n None y l = still l
  start_still batch k n (Some q) None l = still l
  start_still batch k n (Some q) (Some (Some b)) l = still l
  start_still batch k n (Some q) (Some None) l = by (may_start rules batch n q l)
    where
      by : (may : Bool) → IsStill l (if may then with_lane k (Some (opened rules n q)) l else l)
      by true = lane_still k (Some (opened rules n q)) l
      by false = still l

  run_still : (k units : ℕ) (y : Option (Option (Busy Q R))) (l : Lanes S Q R A) → IsStill l (runs rules k units y l)
  run_still k units None l = still l
  run_still k units (Some None) l = still l
  run_still k units (Some (Some b)) l = by (rules.has_ended b.run)
    where
      by : (over : Bool) → IsStill l (if over then l else with_lane k (Some (sliced rules l.store units b)) l)
      by true = still l
      by false = lane_still k (Some (sliced rules l.store units b)) l

  started_still : (batch : List Q) (k : ℕ) (o : Option ℕ) (l : Lanes S Q R A) → IsStill l (started rules batch k o l)
  started_still batch k None l = still l
  started_still batch k (Some n) l = start_still batch k n (slice_get batch n) (slice_get l.lanes k) l

  -- a turn up to its commit does nothing
  pub turned_still : (batch : List Q) (units k : ℕ) (l : Lanes S Q R A) → IsStill l (turned rules batch units k l)
  turned_still batch units k l =
      let m = started rules batch k (first_start rules batch l 0 batch) l in
      still_then l m (turned rules batch units k l) (started_still batch k (first_start rules batch l 0 batch) l) (run_still k units (slice_get m.lanes k) m)

  -- what was done, and more, and as many lanes
  pub record Grows (l m : Lanes S Q R A) : Type 0 where
    pub more : List (Done S A)
    pub done : m.done ≡ more ++ l.done
    pub count : length m.lanes ≡ length l.lanes

  commit_grows : (k : ℕ) (y : Option (Option (Busy Q R))) (l : Lanes S Q R A) → Grows l (commits rules k y l)
  commit_grows k None l = record { more = []; done = refl; count = refl }
  commit_grows k (Some None) l = record { more = []; done = refl; count = refl }
  commit_grows k (Some (Some b)) l = by (rules.has_ended b.run)
    where
      by : (over : Bool) → Grows l (if over then committed rules k b l else l)
      by true = record {
        more = record { number = b.number; answer = rules.answer l.store b.run; after = rules.commit l.store b.run } ∷ [];
        done = refl;
        count = committed_length rules k l b;
      }
      by false = record { more = []; done = refl; count = refl }

  turn_grows : (batch : List Q) (units k : ℕ) (l : Lanes S Q R A) → Grows l (turn rules batch units k l)
  turn_grows batch units k l =
      let m = turned rules batch units k l in
      let a = turned_still batch units k l in
      let b = commit_grows k (slice_get m.lanes k) m in
      record { more = b.more; done = b.done ∙ ap (λ ds. b.more ++ ds) a.done; count = b.count ∙ a.count }

  module _ (batch : List Q) (units count : ℕ) (s : S) where
    -- there are as many lanes as at first
    pub lanes_count : (n : ℕ) → length (after_turns rules batch units count s n).lanes.lanes ≡ count
    lanes_count zero = length-replicate count None
    lanes_count (suc n) =
        let r = after_turns rules batch units count s n in
        (turn_grows batch units r.next r.lanes).count ∙ lanes_count n

    -- what was done after so many turns is so after more
    pub turns_grow : (n m : ℕ) → (more : List (Done S A)) × ((after_turns rules batch units count s (n + m)).lanes.done ≡ more ++ (after_turns rules batch units count s n).lanes.done)
    turns_grow n zero = ([], ap (λ k. (after_turns rules batch units count s k).lanes.done) (let same : n + 0 ≡ n = omega arith in same))
    turns_grow n (suc m) =
        let r = after_turns rules batch units count s (n + m) in
        let old = (after_turns rules batch units count s n).lanes.done in
        let a = turns_grow n m in
        let b = turn_grows batch units r.next r.lanes in (
          b.more ++ a.0,
          ap (λ k. (after_turns rules batch units count s k).lanes.done) (let same : n + suc m ≡ suc (n + m) = omega arith in same)
              ∙ b.done ∙ ap (λ ds. b.more ++ ds) a.1 ∙ sym (append_assoc b.more a.0 old),
        )
