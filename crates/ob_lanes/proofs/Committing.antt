-- The code's commit is the schedule's.
use Rattle.std.proofs.Common.{◌≡◌, ℕ, zero, suc, Bool, true, false, List, [], ◌∷◌, map, Option, Some, None, inl, inr, ◌⊎◌, refl, sym, ap, ◌∙◌, subst, true≢false}
use Rattle.std.specs.Prelude.{slice_get, slice_set, if◌then◌else◌}
use Rattle.std.specs.Option.{option_map_or}
use Rattle.ob_heap_spec.specs.Contents.{Content}
use Rattle.ob_heap.specs.Contents.{Stored, content_of}
use Rattle.ob_heap.specs.declared.delta.Delta.{Delta}
use Rattle.ob_rest_spec.specs.AtRest.{IsStoreAtRest}
use Rattle.ob_invocation_spec.specs.Requests.{HasLabels}
use Rattle.ob_code.specs.declared.image.Image.{Image}
use Rattle.ob_code_table.specs.ImageTables.{table_of_image}
use Rattle.ob_machine_steps.specs.Measures.{LeadsAheadOrToUnit}
use Rattle.ob_lanes_laws.specs.UnownedLaws.{KeepsStores}
use Rattle.ob_request_run_laws.specs.Runs.{opened, paused, answered, lost, reads_of_run}
use Rattle.ob_request_run_laws.specs.Runs as plain
use Rattle.ob_request_run_laws.specs.Slices.{slice}
use Rattle.ob_wire.specs.Meanings.{request_of}
use Rattle.ob_wire.specs.declared.request.Request as wire
use Rattle.ob_exec.specs.Laws.{IsPaused}
use Rattle.ob_exec.specs.Pausing.{RunRepresents, StandsAt}
use Rattle.ob_exec.specs.declared.stage.Stage.{Stage}
use Rattle.ob_exec.specs.declared.stage.Stage.TheVariants as stage
use Rattle.ob_exec.specs.declared.runs.Run.{Run}
use Rattle.ob_exec.proofs.CallerLemmas.{slices_then}
use Rattle.ob_exec.proofs.ElsewhereLemmas.{stand_elsewhere}
use Rattle.ob_lanes_laws.specs.Schedule.{is_done, after_commit, commits, commit, step}
use Rattle.ob_lanes_laws.specs.Schedule as schedule
use Rattle.ob_exec_handles.specs.Coming.{LeadsTo}
use Rattle.ob_lanes_laws.specs.Conflicts.{conflicts}
use Rattle.ob_lanes_laws.specs.Requests.{has_ended}
use Rattle.ob_lanes_laws.proofs.Keeping.{none_is_some, some_same, set_cases, map_cases, differ}
use Rattle.ob_lanes.specs.Committing.{is_stale, reopened, answered_in}
use Rattle.ob_lanes.specs.Standing.{Fits, rules_on, BusyLane, State, in_order, given_run, IsAsFar, Holds, IsBusy, IsLane, AreLanes, requests_of, EndsAlone}
use Rattle.ob_lanes.specs.declared.batch.Busy.{Busy}
use Rattle.ob_lanes.specs.declared.batch.BatchRequest.{BatchRequest}
use Rattle.ob_lanes.proofs.Standing.{set_get}
use Rattle.ob_lanes.proofs.Answering.{same_or}
use Rattle.ob_lanes.proofs.Changing.{changes_agree, stale_same}

-- The schedule's runs are the code's.

pub run_is : (fits : Fits) (image : Image) (fuel : ℕ) (base : Stored) (request : wire.Request) (given : List ℕ)
    → schedule.run_of (rules_on fits image fuel) (content_of base) given (request_of request) ≡ given_run image fuel base request given
run_is fits image fuel base request [] = refl
run_is fits image fuel base request (units ∷ given) =
    ap (slice image fuel (content_of base) units) (run_is fits image fuel base request given)
    ∙ sym (slices_then image fuel (content_of base) (in_order given) units (opened (request_of request)))

-- A run on what the store holds after a commit.

-- what it rests on: the code is sound, the store was at rest, and so it is after
pub record Setting (image : Image) (fuel : ℕ) (before : Stored) (delta : Delta) (after : Stored) : Type 0 where
  pub ahead : LeadsAheadOrToUnit image
  pub keeps : KeepsStores image
  pub rest : IsStoreAtRest (table_of_image image) (content_of before)
  pub still : IsStoreAtRest (table_of_image image) (content_of after)
  pub differs : LeadsTo before delta (content_of after)

far_stands : (image : Image) (base : Stored) (r : plain.Run) (run : Run) → has_ended r ≡ false → IsAsFar image base r run → RunRepresents image base r run.state
far_stands image base (opened q) run e h = absurd h
far_stands image base (paused q reads p held) run e h = h
far_stands image base (answered a) run e h = absurd (true≢false e)
far_stands image base lost run e h = absurd h

stands_far : (image : Image) (base : Stored) (r : plain.Run) (run : Run) → has_ended r ≡ false → RunRepresents image base r run.state → IsAsFar image base r run
stands_far image base (opened q) run e h = absurd h.at
stands_far image base (paused q reads p held) run e h = h
stands_far image base (answered a) run e h = absurd (true≢false e)
stands_far image base lost run e h = absurd (true≢false e)

paused_stage : (image : Image) (base : Stored) (r : plain.Run) (t : Stage) → has_ended r ≡ false → StandsAt image base r t → IsPaused t
paused_stage image base (opened q) t e h = absurd h
paused_stage image base (paused q reads p held) (stage.Paused s) e h = tt
paused_stage image base (paused q reads p held) (stage.Answered a) e h = absurd h
paused_stage image base (paused q reads p held) stage.Over e h = absurd h
paused_stage image base (answered a) t e h = absurd (true≢false e)
paused_stage image base lost t e h = absurd (true≢false e)

-- what the run of a lane has read, as the schedule has it and as the code has it
stale_by : (image : Image) (fuel : ℕ) (before after : Stored) (delta : Delta) (request : wire.Request) (given : List ℕ) (run : Option Run) → Setting image fuel before delta after
    → Holds image fuel before request given run → has_ended (given_run image fuel before request given) ≡ false
    → conflicts (table_of_image image) (content_of before) (content_of after) (reads_of_run (given_run image fuel before request given)) ≡ is_stale before delta run
stale_by image fuel before after delta request [] None s h e = refl
stale_by image fuel before after delta request [] (Some run) s h e = absurd h
stale_by image fuel before after delta request (u ∷ given) None s h e = absurd h
stale_by image fuel before after delta request (u ∷ given) (Some run) s h e =
    stale_same (table_of_image image) before delta after (reads_of_run (given_run image fuel before request (u ∷ given))) run.state.reads s.rest.is_content s.still.is_content s.differs
    (far_stands image before (given_run image fuel before request (u ∷ given)) run e h.1).reads

-- a run that isn't stale is the same after the commit
moved : (image : Image) (fuel : ℕ) (before after : Stored) (delta : Delta) (request : wire.Request) (given : List ℕ) (run : Option Run) → Setting image fuel before delta after → HasLabels (request_of request)
    → Holds image fuel before request given run → has_ended (given_run image fuel before request given) ≡ false
    → given_run image fuel after request given ≡ given_run image fuel before request given → is_stale before delta run ≡ false
    → Holds image fuel after request given run
moved image fuel before after delta request [] None s labels h e same fresh = tt
moved image fuel before after delta request [] (Some run) s labels h e same fresh = absurd h
moved image fuel before after delta request (u ∷ given) None s labels h e same fresh = absurd h
moved image fuel before after delta request (u ∷ given) (Some run) s labels h e same fresh = (
  h.0,
  stands_far image after (given_run image fuel after request (u ∷ given)) run (ap has_ended same ∙ e)
      (subst (λ (q : wire.Request). RunRepresents image after (given_run image fuel after q (u ∷ given)) run.state) h.0
      (stand_elsewhere image fuel before after (in_order (u ∷ given)) run s.ahead s.rest
      (s.keeps (content_of before) (request_of run.request) fuel s.rest (subst (λ (q : wire.Request). HasLabels (request_of q)) (sym h.0) labels))
      (paused_stage image before (given_run image fuel before request (u ∷ given)) run.state.stage e stands.at)
      (changes_agree before delta after s.differs run.state.reads fresh)
      (subst (λ (q : wire.Request). RunRepresents image before (given_run image fuel before q (u ∷ given)) run.state) (sym h.0) stands))),
)
  where
    stands : RunRepresents image before (given_run image fuel before request (u ∷ given)) run.state
    stands = far_stands image before (given_run image fuel before request (u ∷ given)) run e h.1

-- The entries.

-- entries of which one is answered
pub answered_get : (b : Busy) (entries : List BatchRequest) (e : BatchRequest) (n : ℕ) → slice_get entries b.number ≡ Some e → (n ≡ b.number → ⊥) → slice_get (answered_in (Some b) entries) n ≡ slice_get entries n
answered_get b entries e n at other =
    ap (λ o. slice_get (option_map_or (λ (x : BatchRequest). slice_set entries b.number (record x { is_done = true })) o entries) n) at
    ∙ set_other entries b.number n (record e { is_done = true }) (λ q. other (sym q))
  where
    set_other : (xs : List BatchRequest) (k m : ℕ) (x : BatchRequest) → (k ≡ m → ⊥) → slice_get (slice_set xs k x) m ≡ slice_get xs m
    set_other [] k m x h = refl
    set_other (y ∷ ys) zero zero x h = absurd (h refl)
    set_other (y ∷ ys) zero (suc m) x h = refl
    set_other (y ∷ ys) (suc k) zero x h = refl
    set_other (y ∷ ys) (suc k) (suc m) x h = set_other ys k m x (λ q. h (ap suc q))

pub answered_here : (b : Busy) (entries : List BatchRequest) (e : BatchRequest) → slice_get entries b.number ≡ Some e → slice_get (answered_in (Some b) entries) b.number ≡ Some (record e { is_done = true })
answered_here b entries e at =
    ap (λ o. slice_get (option_map_or (λ (x : BatchRequest). slice_set entries b.number (record x { is_done = true })) o entries) b.number) at
    ∙ set_get entries b.number (record e { is_done = true }) e at

-- each request is as it was
pub record StaysSo (entries after : List BatchRequest) : Type 0 where
  pub each : (n : ℕ) (e : BatchRequest) → slice_get entries n ≡ Some e → (f : BatchRequest) × (slice_get after n ≡ Some f) × (f.request ≡ e.request)

pub answered_stays : (b : Busy) (entries : List BatchRequest) (e : BatchRequest) → slice_get entries b.number ≡ Some e → StaysSo entries (answered_in (Some b) entries)
answered_stays b entries e at = record {
  each = λ n x f. same_or n b.number ((y : BatchRequest) × (slice_get (answered_in (Some b) entries) n ≡ Some y) × (y.request ≡ x.request))
      (λ same. (record e { is_done = true }, ap (slice_get (answered_in (Some b) entries)) same ∙ answered_here b entries e at, ap (λ (z : BatchRequest). z.request) (some_same e x (sym at ∙ ap (slice_get entries) (sym same) ∙ f))))
      (λ other. (x, answered_get b entries e n at other ∙ f, refl));
}

pub answered_requests : (b : Busy) (entries : List BatchRequest) (e : BatchRequest) → slice_get entries b.number ≡ Some e → requests_of (answered_in (Some b) entries) ≡ requests_of entries
answered_requests b entries e at =
    ap (λ o. requests_of (option_map_or (λ (x : BatchRequest). slice_set entries b.number (record x { is_done = true })) o entries)) at ∙ set_requests entries b.number e at
  where
    set_requests : (xs : List BatchRequest) (k : ℕ) (x : BatchRequest) → slice_get xs k ≡ Some x → requests_of (slice_set xs k (record x { is_done = true })) ≡ requests_of xs
    set_requests [] k x h = refl
    set_requests (y ∷ ys) zero x h = ap (λ (z : BatchRequest). request_of z.request ∷ requests_of ys) (sym (some_same y x h))
    set_requests (y ∷ ys) (suc k) x h = ap (λ qs. request_of y.request ∷ qs) (set_requests ys k x h)

-- and so are the requests as they were asked
set_kept : (xs : List BatchRequest) (k : ℕ) (x : BatchRequest) → slice_get xs k ≡ Some x → map (λ (e : BatchRequest). e.request) (slice_set xs k (record x { is_done = true })) ≡ map (λ (e : BatchRequest). e.request) xs
set_kept [] k x h = refl
set_kept (y ∷ ys) zero x h = ap (λ (z : BatchRequest). z.request ∷ map (λ (e : BatchRequest). e.request) ys) (sym (some_same y x h))
set_kept (y ∷ ys) (suc k) x h = ap (λ qs. y.request ∷ qs) (set_kept ys k x h)

pub answered_kept : (o : Option Busy) (entries : List BatchRequest) → map (λ (e : BatchRequest). e.request) (answered_in o entries) ≡ map (λ (e : BatchRequest). e.request) entries
answered_kept None entries = refl
answered_kept (Some b) entries = by (slice_get entries b.number) refl
  where
    by : (o : Option BatchRequest) → slice_get entries b.number ≡ o
        → map (λ (e : BatchRequest). e.request) (option_map_or (λ (x : BatchRequest). slice_set entries b.number (record x { is_done = true })) o entries) ≡ map (λ (e : BatchRequest). e.request) entries
    by None f = refl
    by (Some x) f = set_kept entries b.number x f

-- The lanes.

module _ (fits : Fits) (image : Image) (fuel : ℕ) (before after : Stored) (delta : Delta) (old new : List BatchRequest) (setting : Setting image fuel before delta after) (stays : StaysSo old new)
    (labels : (n : ℕ) (e : BatchRequest) → slice_get old n ≡ Some e → HasLabels (request_of e.request))
    (local : (request : wire.Request) (given : List ℕ) → HasLabels (request_of request)
    → conflicts (table_of_image image) (content_of before) (content_of after) (reads_of_run (given_run image fuel before request given)) ≡ false
    → given_run image fuel after request given ≡ given_run image fuel before request given) where
  abbrev next_lane_of : Option BusyLane → Option BusyLane
  next_lane_of s = after_commit (rules_on fits image fuel) (content_of before) (content_of after) s

  -- a lane that goes on
  busy_moved : (b : Busy) (s : BusyLane) → has_ended s.run ≡ false → (i : IsBusy image fuel before old b s)
      → (stale : Bool) → is_stale before delta b.run ≡ stale
      → IsBusy image fuel after new (if stale then record b { run = None } else b) (if stale then schedule.opened (rules_on fits image fuel) s.number s.request else s)
  busy_moved b s e i true f =
      let t = stays.each b.number i.entry i.entry_is in
      record {
        number = i.number;
        entry = t.0;
        entry_is = t.1;
        request = i.request ∙ ap request_of (sym t.2);
        run = ap opened (i.request ∙ ap request_of (sym t.2));
        holds = tt;
      }
  busy_moved b s e i false f =
      let t = stays.each b.number i.entry i.entry_is in
      let going = ap has_ended (sym i.run) ∙ e in
      let its = labels b.number i.entry i.entry_is in
      let same = local i.entry.request s.given its (stale_by image fuel before after delta i.entry.request s.given b.run setting i.holds going ∙ f) in
      record {
        number = i.number;
        entry = t.0;
        entry_is = t.1;
        request = i.request ∙ ap request_of (sym t.2);
        run = i.run ∙ sym same ∙ ap (λ (q : wire.Request). given_run image fuel after q s.given) (sym t.2);
        holds = subst (λ (q : wire.Request). Holds image fuel after q s.given b.run) (sym t.2) (moved image fuel before after delta i.entry.request s.given b.run setting its i.holds going same f);
      }

  stale_is : (b : Busy) (s : BusyLane) → has_ended s.run ≡ false → IsBusy image fuel before old b s
      → conflicts (table_of_image image) (content_of before) (content_of after) (reads_of_run s.run) ≡ is_stale before delta b.run
  stale_is b s e i =
      ap (λ r. conflicts (table_of_image image) (content_of before) (content_of after) (reads_of_run r)) i.run
      ∙ stale_by image fuel before after delta i.entry.request s.given b.run setting i.holds (ap has_ended (sym i.run) ∙ e)

  lane_moved : (b : Option Busy) (s : Option BusyLane) → ((x : BusyLane) → s ≡ Some x → has_ended x.run ≡ false) → IsLane image fuel before old b s → IsLane image fuel after new (reopened before delta b) (next_lane_of s)
  lane_moved None None g i = tt
  lane_moved None (Some s) g i = absurd i
  lane_moved (Some b) None g i = absurd i
  lane_moved (Some b) (Some s) g i =
      subst (λ t. IsBusy image fuel after new (if is_stale before delta b.run then record b { run = None } else b) (if t then schedule.opened (rules_on fits image fuel) s.number s.request else s))
      (sym (stale_is b s (g s refl) i)) (busy_moved b s (g s refl) i (is_stale before delta b.run) refl)

  pub lanes_moved : (bs : List (Option Busy)) (ss : List (Option BusyLane)) → ((j : ℕ) (x : BusyLane) → slice_get ss j ≡ Some (Some x) → has_ended x.run ≡ false) → AreLanes image fuel before old bs ss
      → AreLanes image fuel after new (map (reopened before delta) bs) (map (after_commit (rules_on fits image fuel) (content_of before) (content_of after)) ss)
  lanes_moved [] [] g h = tt
  lanes_moved [] (s ∷ ss) g h = absurd h
  lanes_moved (b ∷ bs) [] g h = absurd h
  lanes_moved (b ∷ bs) (s ∷ ss) g h = (lane_moved b s (λ x e. g 0 x (ap (λ y. Some y) e)) h.0, lanes_moved bs ss (λ j x e. g (suc j) x e) h.1)

-- no run has ended once the lane that committed is idle
pub rest_goes : (k : ℕ) (l : State) → EndsAlone k l → (j : ℕ) (x : BusyLane) → slice_get (slice_set l.lanes k None) j ≡ Some (Some x) → has_ended x.run ≡ false
rest_goes k l alone j x e = by (set_cases l.lanes k j None (Some x) e)
  where
    by : ((j ≡ k) × (None ≡ Some x)) ⊎ (slice_get l.lanes j ≡ Some (Some x)) → has_ended x.run ≡ false
    by (inl f) = absurd (none_is_some f.1)
    by (inr f) = same_or j k (has_ended x.run ≡ false)
        (λ same. absurd (none_is_some (some_same None (Some x) (sym (set_get l.lanes k None (Some x) (ap (slice_get l.lanes) (sym same) ∙ f)) ∙ ap (slice_get (slice_set l.lanes k None)) (sym same) ∙ e))))
        (λ other. alone j x f ∙ differ j k other)

-- and none has ended after the commit
pub none_after : (fits : Fits) (image : Image) (fuel : ℕ) (s t : Content) (ss : List (Option BusyLane)) → ((j : ℕ) (x : BusyLane) → slice_get ss j ≡ Some (Some x) → has_ended x.run ≡ false)
    → (j : ℕ) (x : BusyLane) → slice_get (map (after_commit (rules_on fits image fuel) s t) ss) j ≡ Some (Some x) → has_ended x.run ≡ false
none_after fits image fuel s t ss g j x e = let m = map_cases (after_commit (rules_on fits image fuel) s t) ss j (Some x) e in by m.0 m.1 m.2
  where
    kept : (y : BusyLane) (b : Bool) → has_ended y.run ≡ false → (if b then schedule.opened (rules_on fits image fuel) y.number y.request else y) ≡ x → has_ended x.run ≡ false
    kept y true f h = ap (λ (z : BusyLane). has_ended z.run) (sym h)
    kept y false f h = ap (λ (z : BusyLane). has_ended z.run) (sym h) ∙ f

    by : (y : Option BusyLane) → slice_get ss j ≡ Some y → after_commit (rules_on fits image fuel) s t y ≡ Some x → has_ended x.run ≡ false
    by None f h = absurd (none_is_some h)
    by (Some y) f h = kept y ((rules_on fits image fuel).is_stale s t y.run) (g j y f) (some_same (if (rules_on fits image fuel).is_stale s t y.run then schedule.opened (rules_on fits image fuel) y.number y.request else y) x h)
