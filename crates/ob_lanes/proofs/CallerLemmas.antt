-- What a caller of lanes rests on.
use Rattle.std.proofs.Common.{◌≡◌, ℕ, zero, suc, ◌+◌, true, List, [], ◌∷◌, Option, Some, None, refl, sym, ap, ◌∙◌, subst, arith, true≢false}
use Rattle.std.specs.Prelude.{slice_get, option_map}
use Rattle.ob_heap.specs.Contents.{Stored}
use Rattle.ob_heap.specs.declared.delta.Delta.{Delta}
use Rattle.ob_invocation_spec.specs.Requests.{Request}
use Rattle.ob_code.specs.declared.image.Image.{Image}
use Rattle.ob_wire.specs.declared.reply.Reply.{Reply}
use Rattle.ob_wire.specs.declared.request.Request as wire
use Rattle.ob_exec.specs.declared.runs.SliceOutcome.TheVariants as slice_outcome
use Rattle.ob_lanes_laws.specs.Schedule.{Rules, Done, is_done}
use Rattle.ob_lanes_laws.specs.Schedule as schedule
use Rattle.ob_lanes_laws.specs.Serial.{Meaning}
use Rattle.ob_lanes_laws.specs.Turns.{turned, are_done_from, is_answered}
use Rattle.ob_lanes_laws.proofs.Keeping.{Keeps, none_is_some, some_same, both_true}
use Rattle.ob_lanes.specs.Standing.{Fits, rules_on, BusyLane, State, Tells, LaneTells, requests_kept, EndsAlone, Waits, Turned}
use Rattle.ob_lanes.specs.declared.batch.BatchRequest.{BatchRequest}
use Rattle.ob_lanes.specs.declared.lanes.Lanes.{Lanes}
use Rattle.ob_lanes.specs.declared.lanes.Turn.TheVariants.{Commit}
use Rattle.ob_lanes.proofs.Standing.{get_map}

-- a lane that tells an answer is busy
record Telling (y : Option (Option BusyLane)) : Type 0 where
  lane : BusyLane
  is : y ≡ Some (Some lane)

telling : (base : Stored) (entries : List BatchRequest) (y : Option (Option BusyLane)) (reply : Reply) (delta : Delta) → LaneTells base entries y (slice_outcome.Ended reply delta) → Telling y
telling base entries None reply delta h = absurd h
telling base entries (Some None) reply delta h = absurd h
telling base entries (Some (Some s)) reply delta h = record { lane = s; is = refl }

-- After a turn that answers a commit the lanes wait for it.
pub waits_after : (image : Image) (fuel : ℕ) (batch : List Request) (base : Stored) (old new : Lanes) (l : State) (reply : Reply) (delta : Delta) → Turned image fuel batch base old l new (Commit reply delta)
    → (fits : Fits) → Waits image fuel batch base new (turned (rules_on fits image fuel) batch old.slice old.next l)
waits_after image fuel batch base old new l reply delta h fits =
    let a = h.answers fits in
    let m = turned (rules_on fits image fuel) batch old.slice old.next l in
    let t = telling base old.entries.items (slice_get m.lanes old.next) reply delta a.0 in
    record {
      stands = h.stands fits;
      lane = t.lane;
      lane_is = ap (slice_get m.lanes) a.2 ∙ t.is;
      ended = subst (λ k. EndsAlone k m) (sym a.2) a.1;
    }

-- And its lane's run tells that answer, with the number of the request for which the lane waits.
pub tells_after : (image : Image) (fuel : ℕ) (batch : List Request) (base : Stored) (old new : Lanes) (l : State) (reply : Reply) (delta : Delta) (requests : List wire.Request) (q : wire.Request)
    → Turned image fuel batch base old l new (Commit reply delta) → requests_kept old ≡ requests → (fits : Fits) → (w : Waits image fuel batch base new (turned (rules_on fits image fuel) batch old.slice old.next l))
    → slice_get requests w.lane.number ≡ Some q → Tells base q.id w.lane.run (slice_outcome.Ended reply delta)
tells_after image fuel batch base old new l reply delta requests q h kept fits w at = by (slice_get old.entries.items w.lane.number) refl
  where
    found : slice_get (requests_kept old) w.lane.number ≡ Some q
    found = ap (λ qs. slice_get qs w.lane.number) kept ∙ at

    lane_is : slice_get (turned (rules_on fits image fuel) batch old.slice old.next l).lanes old.next ≡ Some (Some w.lane)
    lane_is = ap (slice_get (turned (rules_on fits image fuel) batch old.slice old.next l).lanes) (sym (h.answers fits).2) ∙ w.lane_is

    tells : LaneTells base old.entries.items (Some (Some w.lane)) (slice_outcome.Ended reply delta)
    tells = subst (λ y. LaneTells base old.entries.items y (slice_outcome.Ended reply delta)) lane_is (h.answers fits).0

    by : (x : Option BatchRequest) → slice_get old.entries.items w.lane.number ≡ x → Tells base q.id w.lane.run (slice_outcome.Ended reply delta)
    by None g = absurd (none_is_some (sym (get_map (λ (e : BatchRequest). e.request) old.entries.items w.lane.number ∙ ap (option_map (λ (e : BatchRequest). e.request)) g) ∙ found))
    by (Some e) g =
        let same = some_same e.request q (sym (get_map (λ (x : BatchRequest). x.request) old.entries.items w.lane.number ∙ ap (option_map (λ (x : BatchRequest). x.request)) g) ∙ found) in
        subst (λ (r : wire.Request). Tells base r.id w.lane.run (slice_outcome.Ended reply delta)) same (tells e g)

-- Once all is answered no lane is busy.

done_at : {S Q A : Type 0} (n i : ℕ) (qs : List Q) (q : Q) (ds : List (Done S A)) → are_done_from n qs ds ≡ true → slice_get qs i ≡ Some q → is_done (n + i) ds ≡ true
done_at n i [] q ds h e = absurd (none_is_some e)
done_at n zero (p ∷ qs) q ds h e = ap (λ m. is_done m ds) (let same : n + 0 ≡ n = omega arith in same) ∙ (both_true (is_done n ds) (are_done_from (suc n) qs ds) h).0
done_at n (suc i) (p ∷ qs) q ds h e =
    ap (λ m. is_done m ds) (let same : n + suc i ≡ suc n + i = omega arith in same) ∙ done_at (suc n) i qs q ds (both_true (is_done n ds) (are_done_from (suc n) qs ds) h).1 e

pub answered_idle : {S Q R A : Type 0} (rules : Rules S Q R A) (IsFit : S → Type 0) (means : Meaning S Q A) (batch : List Q) (s : S) (l : schedule.Lanes S Q R A) → Keeps rules IsFit means batch s l → is_answered batch l ≡ true
    → (k : ℕ) (b : schedule.Busy Q R) → ¬ (slice_get l.lanes k ≡ Some (Some b))
answered_idle rules IsFit means batch s l h all k b e =
    let t = h.stand k b e in
    true≢false (sym (done_at 0 b.number batch b.request l.done all t.request) ∙ ap (λ n. is_done n l.done) (let same : 0 + b.number ≡ b.number = omega arith in same) ∙ t.unanswered)
