-- What is lent of a lane.
use Rattle.std.proofs.Common.{ℕ, List, Option, Some, None, refl, sym, ap, ◌∙◌, subst}
use Rattle.std.specs.Prelude.{slice_get}
use Rattle.ob_heap.specs.Contents.{Stored}
use Rattle.ob_code.specs.declared.image.Image.{Image}
use Rattle.ob_lanes_laws.proofs.Keeping.{some_same}
use Rattle.ob_lanes.specs.Standing.{BusyLane, State, Holds, IsLane, LanesRepresent, Lends, run_of_lane, run_at}
use Rattle.ob_lanes.specs.declared.batch.Busy.{Busy}
use Rattle.ob_lanes.specs.declared.batch.BatchRequest.{BatchRequest}
use Rattle.ob_lanes.proofs.Standing.{Pair, beyond, within, pair_at}

lane_lends : (image : Image) (fuel : ℕ) (base : Stored) (entries : List BatchRequest) (b : Option Busy) (s : Option BusyLane) → IsLane image fuel base entries b s → Lends image fuel base entries (Some s) (run_of_lane (Some b))
lane_lends image fuel base entries None None h = refl
lane_lends image fuel base entries None (Some s) h = absurd h
lane_lends image fuel base entries (Some b) None h = absurd h
lane_lends image fuel base entries (Some b) (Some s) h = λ e f.
    subst (λ (x : BatchRequest). Holds image fuel base x.request s.given b.run) (some_same h.entry e (sym h.entry_is ∙ ap (slice_get entries) h.number ∙ f)) h.holds

pub lends_so : (image : Image) (fuel : ℕ) (base : Stored) (entries : List BatchRequest) (lanes : List (Option Busy)) (l : State) (k : ℕ) → LanesRepresent image fuel base entries lanes l → Lends image fuel base entries (slice_get l.lanes k) (run_at lanes k)
lends_so image fuel base entries lanes l k h = by (pair_at image fuel base entries lanes l.lanes k h.each)
  where
    by : Pair image fuel base entries (slice_get lanes k) (slice_get l.lanes k) → Lends image fuel base entries (slice_get l.lanes k) (run_at lanes k)
    by (beyond e f) = subst (λ y. Lends image fuel base entries y (run_at lanes k)) (sym f) (ap run_of_lane e)
    by (within b s e f i) = subst (λ y. Lends image fuel base entries y (run_at lanes k)) (sym f)
        (subst (λ x. Lends image fuel base entries (Some s) (run_of_lane x)) (sym e) (lane_lends image fuel base entries b s i))
