-- The lanes represent the schedule after a commit.
use Rattle.std.proofs.Common.{◌≡◌, ℕ, ◌<◌, Bool, true, false, ◌||◌, List, map, length, Option, Some, None, sym, ap, ◌∙◌, subst}
use Rattle.std.specs.Prelude.{nat_eq, slice_get, slice_set, option_map, if◌then◌else◌}
use Rattle.std.specs.Option.{unwrap_or}
use Rattle.std.proofs.lemmas.List.{length-map}
use Rattle.ob_heap.specs.Contents.{Stored, content_of}
use Rattle.ob_heap.specs.declared.delta.Delta.{Delta}
use Rattle.ob_rest_spec.specs.AtRest.{IsStoreAtRest}
use Rattle.ob_invocation_spec.specs.Requests.{Request, HasLabels}
use Rattle.ob_code.specs.declared.image.Image.{Image}
use Rattle.ob_code_table.specs.ImageTables.{table_of_image}
use Rattle.ob_machine_steps.specs.Measures.{LeadsAheadOrToUnit}
use Rattle.ob_lanes_laws.specs.UnownedLaws.{KeepsStores}
use Rattle.ob_request_run_laws.specs.Runs.{reads_of_run}
use Rattle.ob_wire.specs.Meanings.{request_of}
use Rattle.ob_wire.specs.declared.request.Request as wire
use Rattle.ob_lanes_laws.specs.Schedule.{is_done, after_commit, commits, committed}
use Rattle.ob_lanes_laws.specs.Schedule as schedule
use Rattle.ob_lanes_laws.specs.Serial.{IsEnded}
use Rattle.ob_exec_handles.specs.Coming.{LeadsTo}
use Rattle.ob_lanes_laws.specs.Conflicts.{conflicts}
use Rattle.ob_lanes_laws.specs.Laws.{OfEach}
use Rattle.ob_lanes_laws.proofs.Keeping.{none_is_some, some_same, differ}
use Rattle.ob_lanes_laws.proofs.Requests.{requests_fit}
use Rattle.ob_lanes_laws.specs.Turns.{next_lane}
use Rattle.ob_lanes.specs.Committing.{reopened, lane_at, answered_in, lanes_after}
use Rattle.ob_lanes.specs.Standing.{Fits, contents, rules_on, BusyLane, State, given_run, IsBusy, IsLane, AreLanes, requests_of, LanesRepresent, NoneHasEnded, EndsAlone, committed_by, Waits, Commits}
use Rattle.ob_lanes.specs.declared.lanes.Lanes.{Lanes}
use Rattle.ob_lanes.specs.declared.batch.Busy.{Busy}
use Rattle.ob_lanes.specs.declared.batch.BatchRequest.{BatchRequest}
use Rattle.ob_lanes.proofs.Standing.{Pair, beyond, within, pair_at, pair_set, set_length, index_get, get_map}
use Rattle.ob_lanes.proofs.Answering.{same_or, eq_itself, next_within}
use Rattle.ob_lanes.proofs.Own.{own_committed}
use Rattle.ob_lanes.proofs.Committing.{run_is, Setting, answered_get, answered_here, answered_stays, answered_requests, lanes_moved, rest_goes, none_after}

-- the commit takes place
commit_is : (fits : Fits) (image : Image) (fuel : ℕ) (batch : List Request) (k : ℕ) (l : State) (s : BusyLane) → slice_get l.lanes k ≡ Some (Some s) → EndsAlone k l
    → committed_by fits image fuel batch k l ≡ committed (rules_on fits image fuel) k s l
commit_is fits image fuel batch k l s at alone =
    ap (λ y. commits (rules_on fits image fuel) k y l) at
    ∙ ap (λ b. if b then committed (rules_on fits image fuel) k s l else l) (alone k s at ∙ eq_itself k)

-- the code's lane that commits
pub record Committer (image : Image) (fuel : ℕ) (base : Stored) (entries : List BatchRequest) (lanes : List (Option Busy)) (k : ℕ) (s : BusyLane) : Type 0 where
  pub lane : Busy
  pub lane_is : slice_get lanes k ≡ Some (Some lane)
  pub is : IsBusy image fuel base entries lane s

pub committer : (image : Image) (fuel : ℕ) (base : Stored) (entries : List BatchRequest) (lanes : List (Option Busy)) (l : State) (k : ℕ) (s : BusyLane) → LanesRepresent image fuel base entries lanes l → slice_get l.lanes k ≡ Some (Some s)
    → Committer image fuel base entries lanes k s
committer image fuel base entries lanes l k s h at = by (pair_at image fuel base entries lanes l.lanes k h.each)
  where
    busy : (b : Option Busy) → slice_get lanes k ≡ Some b → IsLane image fuel base entries b (Some s) → Committer image fuel base entries lanes k s
    busy None e i = absurd i
    busy (Some b) e i = record { lane = b; lane_is = e; is = i }

    by : Pair image fuel base entries (slice_get lanes k) (slice_get l.lanes k) → Committer image fuel base entries lanes k s
    by (beyond e f) = absurd (none_is_some (sym f ∙ at))
    by (within b x e f i) = busy b e (subst (λ y. IsLane image fuel base entries b y) (some_same x (Some s) (sym f ∙ at)) i)

-- which requests are answered then
done_after : (n m : ℕ) (b : Busy) (entries : List BatchRequest) (e x : BatchRequest) (is : ℕ → Bool) → b.number ≡ m → slice_get entries b.number ≡ Some e → ((i : ℕ) (y : BatchRequest) → slice_get entries i ≡ Some y → is i ≡ y.is_done)
    → slice_get (answered_in (Some b) entries) n ≡ Some x → nat_eq n m || is n ≡ x.is_done
done_after n m b entries e x is number at told f = same_or n b.number (nat_eq n m || is n ≡ x.is_done)
    (λ same. ap (λ t. t || is n) (ap (λ i. nat_eq i m) (same ∙ number) ∙ eq_itself m)
    ∙ ap (λ (y : BatchRequest). y.is_done) (some_same (record e { is_done = true }) x (sym (answered_here b entries e at) ∙ ap (slice_get (answered_in (Some b) entries)) (sym same) ∙ f)))
    (λ other. ap (λ t. t || is n) (differ n m (λ q. other (q ∙ sym number))) ∙ told n x (sym (answered_get b entries e n at other) ∙ f))

-- What is kept after a commit represents the schedule after it.
pub commit_stands : (fits : Fits) (image : Image) (fuel : ℕ) (before after : Stored) (delta : Delta) (entries : List BatchRequest) (lanes : List (Option Busy)) (l : State) (k : ℕ) (s : BusyLane) (b : Busy)
    → LeadsAheadOrToUnit image → KeepsStores image → IsStoreAtRest (table_of_image image) (content_of before) → LeadsTo before delta (content_of after) → OfEach HasLabels (requests_of entries)
    → LanesRepresent image fuel before entries lanes l → slice_get l.lanes k ≡ Some (Some s) → EndsAlone k l → IsBusy image fuel before entries b s
    → (committed_by fits image fuel (requests_of entries) k l).store ≡ content_of after
    → LanesRepresent image fuel after (answered_in (Some b) entries) (lanes_after before delta k lanes) (committed_by fits image fuel (requests_of entries) k l) × NoneHasEnded (committed_by fits image fuel (requests_of entries) k l)
commit_stands fits image fuel before after delta entries lanes l k s b ahead keeps rest differs labelled h at alone i store =
    subst (λ x. LanesRepresent image fuel after (answered_in (Some b) entries) (lanes_after before delta k lanes) x × NoneHasEnded x) (sym its)
    (record { store = there; done = λ n x f. done_after n s.number b entries i.entry x (λ m. is_done m l.done) i.number i.entry_is h.done f; each = moved; own = own_committed fits image fuel l k s at h.own }, goes)
  where
    its : committed_by fits image fuel (requests_of entries) k l ≡ committed (rules_on fits image fuel) k s l
    its = commit_is fits image fuel (requests_of entries) k l s at alone

    there : (rules_on fits image fuel).commit l.store s.run ≡ content_of after
    there = ap (λ (x : State). x.store) (sym its) ∙ store

    labels : (n : ℕ) (e : BatchRequest) → slice_get entries n ≡ Some e → HasLabels (request_of e.request)
    labels n e f = labelled n (request_of e.request) (get_map (λ (x : BatchRequest). request_of x.request) entries n ∙ ap (option_map (λ (x : BatchRequest). request_of x.request)) f)

    committing : (rules_on fits image fuel).commit (content_of before) s.run ≡ content_of after
    committing = ap (λ c. (rules_on fits image fuel).commit c s.run) (sym h.store) ∙ there

    ended : IsEnded (rules_on fits image fuel) (content_of before) (request_of i.entry.request) s.run
    ended = record { given = s.given; is = i.run ∙ sym (run_is fits image fuel before i.entry.request s.given); over = alone k s at ∙ eq_itself k }

    setting : Setting image fuel before delta after
    setting = record {
      ahead = ahead;
      keeps = keeps;
      rest = rest;
      still = subst (IsStoreAtRest (table_of_image image)) committing
          ((requests_fit (contents fits) image fuel ahead keeps).fit (content_of before) (request_of i.entry.request) s.run rest (labels b.number i.entry i.entry_is) ended);
      differs = differs;
    }

    local : (request : wire.Request) (given : List ℕ) → HasLabels (request_of request)
        → conflicts (table_of_image image) (content_of before) (content_of after) (reads_of_run (given_run image fuel before request given)) ≡ false
        → given_run image fuel after request given ≡ given_run image fuel before request given
    local request given asked fresh =
        sym (run_is fits image fuel after request given)
        ∙ ap (λ c. schedule.run_of (rules_on fits image fuel) c given (request_of request)) (sym committing)
        ∙ (requests_fit (contents fits) image fuel ahead keeps).local (content_of before) (request_of i.entry.request) (request_of request) s.run given rest
        (labels b.number i.entry i.entry_is) asked ended
        (ap (λ c. conflicts (table_of_image image) (content_of before) c (reads_of_run (schedule.run_of (rules_on fits image fuel) (content_of before) given (request_of request)))) committing
        ∙ ap (λ r. conflicts (table_of_image image) (content_of before) (content_of after) (reads_of_run r)) (run_is fits image fuel before request given) ∙ fresh)
        ∙ run_is fits image fuel before request given

    moved : AreLanes image fuel after (answered_in (Some b) entries) (lanes_after before delta k lanes) (committed (rules_on fits image fuel) k s l).lanes
    moved = subst (λ c. AreLanes image fuel after (answered_in (Some b) entries) (lanes_after before delta k lanes) (map (after_commit (rules_on fits image fuel) c ((rules_on fits image fuel).commit c s.run)) (slice_set l.lanes k None))) (sym h.store)
        (subst (λ c. AreLanes image fuel after (answered_in (Some b) entries) (lanes_after before delta k lanes) (map (after_commit (rules_on fits image fuel) (content_of before) c) (slice_set l.lanes k None))) (sym committing)
        (lanes_moved fits image fuel before after delta entries (answered_in (Some b) entries) setting (answered_stays b entries i.entry i.entry_is) labels local
        (slice_set lanes k None) (slice_set l.lanes k None) (rest_goes k l alone) (pair_set image fuel before entries lanes l.lanes k None None h.each tt)))

    goes : NoneHasEnded (committed (rules_on fits image fuel) k s l)
    goes = none_after fits image fuel l.store ((rules_on fits image fuel).commit l.store s.run) (slice_set l.lanes k None) (rest_goes k l alone)

-- The whole commit.
pub commits_so : (image : Image) (fuel : ℕ) (batch : List Request) (before : Stored) (delta : Delta) (after : Stored) (old new : Lanes) (l : State) → Waits image fuel batch before old l
    → new.lanes.items ≡ lanes_after before delta old.next old.lanes.items → new.entries.items ≡ answered_in (lane_at old.lanes.items old.next) old.entries.items
    → new.next ≡ next_lane (length old.lanes.items) old.next → new.slice ≡ old.slice → Commits image fuel batch before delta after old.next l new
commits_so image fuel batch before delta after old new l w lanes entries next slice fits ahead keeps labels rest differs store = (
  record {
    requests = w.stands.requests ∙ sym (answered_requests at.lane old.entries.items at.is.entry at.is.entry_is) ∙ ap requests_of (sym its);
    state = subst (λ es. LanesRepresent image fuel after es new.lanes.items (committed_by fits image fuel batch old.next l)) (sym its)
        (subst (λ ls. LanesRepresent image fuel after (answered_in (Some at.lane) old.entries.items) ls (committed_by fits image fuel batch old.next l)) (sym lanes) both.0);
    next = subst (λ n. n < length new.lanes.items) (sym next) (subst (λ m. next_lane (length old.lanes.items) old.next < m) (sym count) (next_within (length old.lanes.items) old.next w.stands.next));
    slice = subst (λ n. 0 < n) (sym slice) w.stands.slice;
  },
  both.1,
)
  where
    at : Committer image fuel before old.entries.items old.lanes.items old.next w.lane
    at = committer image fuel before old.entries.items old.lanes.items l old.next w.lane w.stands.state w.lane_is

    its : new.entries.items ≡ answered_in (Some at.lane) old.entries.items
    its = entries ∙ ap (λ o. answered_in o old.entries.items) (index_get old.lanes.items old.next None ∙ ap (λ o. unwrap_or o None) at.lane_is)

    count : length new.lanes.items ≡ length old.lanes.items
    count = ap length lanes ∙ length-map (slice_set old.lanes.items old.next None) (reopened before delta) ∙ set_length old.lanes.items old.next None

    both : LanesRepresent image fuel after (answered_in (Some at.lane) old.entries.items) (lanes_after before delta old.next old.lanes.items) (committed_by fits image fuel batch old.next l)
        × NoneHasEnded (committed_by fits image fuel batch old.next l)
    both = subst (λ q. LanesRepresent image fuel after (answered_in (Some at.lane) old.entries.items) (lanes_after before delta old.next old.lanes.items) (committed_by fits image fuel q old.next l)
        × NoneHasEnded (committed_by fits image fuel q old.next l)) (sym w.stands.requests)
        (commit_stands fits image fuel before after delta old.entries.items old.lanes.items l old.next w.lane at.lane ahead keeps rest differs
        (subst (OfEach HasLabels) w.stands.requests labels) w.stands.state w.lane_is w.ended at.is
        (ap (λ q. (committed_by fits image fuel q old.next l).store) (sym w.stands.requests) ∙ store))
