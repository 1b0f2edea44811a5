-- The schedule over stores is that over what they hold.
use Rattle.std.proofs.Common.{◌≡◌, ℕ, suc, Bool, true, false, not, ◌&&◌, ◌||◌, List, [], ◌∷◌, map, Option, Some, None, refl, sym, ap, ◌∙◌, subst}
use Rattle.std.specs.Prelude.{nat_eq, slice_get, slice_set, Result, Ok, Err, if◌then◌else◌}
use Rattle.ob_heap_spec.specs.Contents.{Content}
use Rattle.ob_invocation_spec.specs.Requests.{Request}
use Rattle.ob_code.specs.declared.image.Image.{Image}
use Rattle.ob_request_run_laws.specs.Runs.{Run, opened, paused, answered, lost, content_after}
use Rattle.ob_lanes_laws.specs.Schedule.{Busy, Lanes, is_done, is_held, are_earlier_done, may_start, sliced, with_lane, starts, runs, after_commit, committed, commits}
use Rattle.ob_lanes_laws.specs.Schedule as schedule
use Rattle.ob_lanes_laws.specs.Requests.{Stores, Answer, store_by, has_ended, commit, request_rules}
use Rattle.ob_lanes_laws.specs.Turns.{first_start, started, turned}
use Rattle.ob_lanes.specs.Standing.{Fits, settled, contents, rules_on, BusyLane, State}
use Rattle.ob_lanes.specs.Seen.{IsSeenAs, TurnsAreSeen, CommitsAreSeen}

module _ {S L : Type 0} (stores : Stores S L) (fits : Fits) (image : Image) (fuel : ℕ) where
  -- Which request may start.

  earlier_seen : (q : Request) (n k : ℕ) (ps : List Request) (l : Lanes S Request Run (Answer L)) (m : State) → IsSeenAs stores l m
      → are_earlier_done (request_rules stores image fuel) q n k ps l.done ≡ are_earlier_done (rules_on fits image fuel) q n k ps m.done
  earlier_seen q n k [] l m h = refl
  earlier_seen q n k (p ∷ ps) l m h =
      ap (λ d. nat_eq n k || ((not ((rules_on fits image fuel).same_client p q) || d) && are_earlier_done (request_rules stores image fuel) q n (suc k) ps l.done)) (sym (h.done k))
      ∙ ap (λ c. nat_eq n k || ((not ((rules_on fits image fuel).same_client p q) || is_done k m.done) && c)) (earlier_seen q n (suc k) ps l m h)

  may_seen : (batch : List Request) (n : ℕ) (q : Request) (l : Lanes S Request Run (Answer L)) (m : State) → IsSeenAs stores l m
      → may_start (request_rules stores image fuel) batch n q l ≡ may_start (rules_on fits image fuel) batch n q m
  may_seen batch n q l m h =
      ap (λ d. not d && (not (is_held n l.lanes) && are_earlier_done (request_rules stores image fuel) q n 0 batch l.done)) (sym (h.done n))
      ∙ ap (λ ls. not (is_done n m.done) && (not (is_held n ls) && are_earlier_done (request_rules stores image fuel) q n 0 batch l.done)) (sym h.lanes)
      ∙ ap (λ c. not (is_done n m.done) && (not (is_held n m.lanes) && c)) (earlier_seen q n 0 batch l m h)

  first_seen : (batch : List Request) (n : ℕ) (qs : List Request) (l : Lanes S Request Run (Answer L)) (m : State) → IsSeenAs stores l m
      → first_start (request_rules stores image fuel) batch l n qs ≡ first_start (rules_on fits image fuel) batch m n qs
  first_seen batch n [] l m h = refl
  first_seen batch n (q ∷ qs) l m h =
      ap (λ b. if b then Some n else first_start (request_rules stores image fuel) batch l (suc n) qs) (may_seen batch n q l m h)
      ∙ ap (λ o. if may_start (rules_on fits image fuel) batch n q m then Some n else o) (first_seen batch (suc n) qs l m h)

  -- The turn.

  lane_seen : (k : ℕ) (x y : Option BusyLane) (l : Lanes S Request Run (Answer L)) (m : State) → IsSeenAs stores l m → x ≡ y → IsSeenAs stores (with_lane k x l) (with_lane k y m)
  lane_seen k x y l m h e = record { store = h.store; lanes = ap (λ ls. slice_set ls k y) h.lanes ∙ ap (slice_set l.lanes k) (sym e); done = h.done }

  either_seen : (b : Bool) (l a : Lanes S Request Run (Answer L)) (m z : State) → IsSeenAs stores a z → IsSeenAs stores l m → IsSeenAs stores (if b then a else l) (if b then z else m)
  either_seen true l a m z h g = h
  either_seen false l a m z h g = g

  starts_seen : (batch : List Request) (k n : ℕ) (q : Option Request) (y : Option (Option BusyLane)) (l : Lanes S Request Run (Answer L)) (m : State) → IsSeenAs stores l m
      → IsSeenAs stores (starts (request_rules stores image fuel) batch k n q y l) (starts (rules_on fits image fuel) batch k n q y m)
  starts_seen batch k n None y l m h = h
  starts_seen batch k n (Some q) None l m h = h
  starts_seen batch k n (Some q) (Some (Some b)) l m h = h
  starts_seen batch k n (Some q) (Some None) l m h =
      subst (λ b. IsSeenAs stores (if b then with_lane k (Some (schedule.opened (request_rules stores image fuel) n q)) l else l)
      (if may_start (rules_on fits image fuel) batch n q m then with_lane k (Some (schedule.opened (rules_on fits image fuel) n q)) m else m)) (sym (may_seen batch n q l m h))
      (either_seen (may_start (rules_on fits image fuel) batch n q m) l (with_lane k (Some (schedule.opened (request_rules stores image fuel) n q)) l) m (with_lane k (Some (schedule.opened (rules_on fits image fuel) n q)) m)
      (lane_seen k (Some (schedule.opened (request_rules stores image fuel) n q)) (Some (schedule.opened (rules_on fits image fuel) n q)) l m h refl) h)

  started_seen : (batch : List Request) (k : ℕ) (o : Option ℕ) (l : Lanes S Request Run (Answer L)) (m : State) → IsSeenAs stores l m
      → IsSeenAs stores (started (request_rules stores image fuel) batch k o l) (started (rules_on fits image fuel) batch k o m)
  started_seen batch k None l m h = h
  started_seen batch k (Some n) l m h =
      subst (λ ls. IsSeenAs stores (starts (request_rules stores image fuel) batch k n (slice_get batch n) (slice_get l.lanes k) l) (starts (rules_on fits image fuel) batch k n (slice_get batch n) (slice_get ls k) m)) (sym h.lanes)
      (starts_seen batch k n (slice_get batch n) (slice_get l.lanes k) l m h)

  runs_seen : (k units : ℕ) (y : Option (Option BusyLane)) (l : Lanes S Request Run (Answer L)) (m : State) → IsSeenAs stores l m
      → IsSeenAs stores (runs (request_rules stores image fuel) k units y l) (runs (rules_on fits image fuel) k units y m)
  runs_seen k units None l m h = h
  runs_seen k units (Some None) l m h = h
  runs_seen k units (Some (Some b)) l m h =
      by (has_ended b.run) (lane_seen k (Some (sliced (request_rules stores image fuel) l.store units b)) (Some (sliced (rules_on fits image fuel) m.store units b)) l m h
      (ap (λ c. Some (sliced (rules_on fits image fuel) c units b)) (sym h.store)))
    where
      by : (e : Bool) → IsSeenAs stores (with_lane k (Some (sliced (request_rules stores image fuel) l.store units b)) l) (with_lane k (Some (sliced (rules_on fits image fuel) m.store units b)) m)
          → IsSeenAs stores (if e then l else with_lane k (Some (sliced (request_rules stores image fuel) l.store units b)) l) (if e then m else with_lane k (Some (sliced (rules_on fits image fuel) m.store units b)) m)
      by true g = h
      by false g = g

  pub turn_seen : (batch : List Request) (units k : ℕ) (l : Lanes S Request Run (Answer L)) (m : State) → IsSeenAs stores l m
      → IsSeenAs stores (turned (request_rules stores image fuel) batch units k l) (turned (rules_on fits image fuel) batch units k m)
  turn_seen batch units k l m h =
      let o = first_start (request_rules stores image fuel) batch l 0 batch in
      let l2 = started (request_rules stores image fuel) batch k o l in
      let m2 = started (rules_on fits image fuel) batch k o m in
      let g = started_seen batch k o l m h in
      subst (λ p. IsSeenAs stores (turned (request_rules stores image fuel) batch units k l) (runs (rules_on fits image fuel) k units (slice_get (started (rules_on fits image fuel) batch k p m).lanes k) (started (rules_on fits image fuel) batch k p m)))
      (first_seen batch 0 batch l m h)
      (subst (λ ls. IsSeenAs stores (runs (request_rules stores image fuel) k units (slice_get l2.lanes k) l2) (runs (rules_on fits image fuel) k units (slice_get ls k) m2)) (sym g.lanes)
      (runs_seen k units (slice_get l2.lanes k) l2 m2 g))

pub turns_are_seen : {S L : Type 0} → TurnsAreSeen S L
turns_are_seen stores fits image fuel batch units k l m h = turn_seen stores fits image fuel batch units k l m h

-- The commit.

abbrev has_room : {S L : Type 0} → Result S L → Bool
has_room (Ok t) = true
has_room (Err lack) = false

-- there is room as in this store
abbrev fits_of : {S L : Type 0} → Stores S L → S → Fits
fits_of stores s = λ c after. has_room (stores.settle s after)

store_seen : {S L : Type 0} (stores : Stores S L) (s : S) (c : Content) (r : Run) → c ≡ stores.content_of s → commit (contents (fits_of stores s)) c r ≡ stores.content_of (commit stores s r)
store_seen stores s c (opened q) e = e
store_seen stores s c (paused q reads p h) e = e
store_seen stores s c lost e = e
store_seen stores s c (answered a) e =
    ap (λ x. store_by c (settled (content_after x a) (has_room (stores.settle s (content_after x a))))) e
    ∙ by (stores.settle s (content_after (stores.content_of s) a)) refl
  where
    by : (o : Result _ _) → stores.settle s (content_after (stores.content_of s) a) ≡ o
        → store_by c (settled (content_after (stores.content_of s) a) (has_room o)) ≡ stores.content_of (store_by s o)
    by (Ok t) f = sym (stores.settles s (content_after (stores.content_of s) a) t f)
    by (Err lack) f = e

after_same : {S L : Type 0} (stores : Stores S L) (fits : Fits) (image : Image) (fuel : ℕ) (s t : S) (x : Option BusyLane)
    → after_commit (rules_on fits image fuel) (stores.content_of s) (stores.content_of t) x ≡ after_commit (request_rules stores image fuel) s t x
after_same stores fits image fuel s t None = refl
after_same stores fits image fuel s t (Some b) = refl

lanes_same : {S L : Type 0} (stores : Stores S L) (fits : Fits) (image : Image) (fuel : ℕ) (s t : S) (xs : List (Option BusyLane))
    → map (after_commit (rules_on fits image fuel) (stores.content_of s) (stores.content_of t)) xs ≡ map (after_commit (request_rules stores image fuel) s t) xs
lanes_same stores fits image fuel s t [] = refl
lanes_same stores fits image fuel s t (x ∷ xs) =
    ap (λ y. y ∷ map (after_commit (rules_on fits image fuel) (stores.content_of s) (stores.content_of t)) xs) (after_same stores fits image fuel s t x)
    ∙ ap (λ ys. after_commit (request_rules stores image fuel) s t x ∷ ys) (lanes_same stores fits image fuel s t xs)

committed_seen : {S L : Type 0} (stores : Stores S L) (image : Image) (fuel : ℕ) (k : ℕ) (b : BusyLane) (l : Lanes S Request Run (Answer L)) (m : State) → IsSeenAs stores l m
    → IsSeenAs stores (committed (request_rules stores image fuel) k b l) (committed (rules_on (fits_of stores l.store) image fuel) k b m)
committed_seen stores image fuel k b l m h =
    let fits = fits_of stores l.store in
    let store = store_seen stores l.store m.store b.run h.store in
    record {
      store = store;
      lanes = ap (λ c. map (after_commit (rules_on fits image fuel) m.store c) (slice_set m.lanes k None)) store
          ∙ ap (λ c. map (after_commit (rules_on fits image fuel) c (stores.content_of (commit stores l.store b.run))) (slice_set m.lanes k None)) h.store
          ∙ lanes_same stores fits image fuel l.store (commit stores l.store b.run) (slice_set m.lanes k None)
          ∙ ap (λ ls. map (after_commit (request_rules stores image fuel) l.store (commit stores l.store b.run)) (slice_set ls k None)) h.lanes;
      done = λ n. ap (λ d. nat_eq n b.number || d) (h.done n);
    }

commits_seen : {S L : Type 0} (stores : Stores S L) (image : Image) (fuel : ℕ) (k : ℕ) (y : Option (Option BusyLane)) (l : Lanes S Request Run (Answer L)) (m : State) → IsSeenAs stores l m
    → IsSeenAs stores (commits (request_rules stores image fuel) k y l) (commits (rules_on (fits_of stores l.store) image fuel) k y m)
commits_seen stores image fuel k None l m h = h
commits_seen stores image fuel k (Some None) l m h = h
commits_seen stores image fuel k (Some (Some b)) l m h = by (has_ended b.run) (committed_seen stores image fuel k b l m h)
  where
    by : (e : Bool) → IsSeenAs stores (committed (request_rules stores image fuel) k b l) (committed (rules_on (fits_of stores l.store) image fuel) k b m)
        → IsSeenAs stores (if e then committed (request_rules stores image fuel) k b l else l) (if e then committed (rules_on (fits_of stores l.store) image fuel) k b m else m)
    by true g = g
    by false g = h

pub commits_are_seen : {S L : Type 0} → CommitsAreSeen S L
commits_are_seen stores image fuel batch k l m h = (
  fits_of stores l.store,
  subst (λ ls. IsSeenAs stores (commits (request_rules stores image fuel) k (slice_get l.lanes k) l) (commits (rules_on (fits_of stores l.store) image fuel) k (slice_get ls k) m)) (sym h.lanes)
      (commits_seen stores image fuel k (slice_get l.lanes k) l m h),
)
