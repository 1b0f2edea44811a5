-- A lane runs for a slice.
use Rattle.std.proofs.Common.{◌≡◌, ℕ, zero, suc, ◌<◌, true, List, [], ◌∷◌, length, Option, Some, None, refl, sym, ap, ◌∙◌, subst, arith}
use Rattle.std.specs.Prelude.{slice_get, slice_set, slice_index_or, option_map, Result, Ok, Err, IfOk}
use Rattle.ob_heap.specs.Contents.{Stored, content_of}
use Rattle.ob_code.specs.declared.image.Image.{Image}
use Rattle.ob_machine_meaning.specs.Meanings.{machine_invocation}
use Rattle.ob_request_run_laws.specs.Slices.{slice}
use Rattle.ob_wire.specs.Meanings.{request_of}
use Rattle.ob_exec_handles.specs.Coming.{IsInLimits}
use Rattle.ob_exec.specs.declared.runs.SliceOutcome.{SliceOutcome}
use Rattle.ob_exec.specs.declared.runs.SliceOutcome.TheVariants as slice_outcome
use Rattle.ob_lanes_laws.specs.Requests.{has_ended}
use Rattle.ob_lanes_laws.proofs.Keeping.{none_is_some, some_same, not_true}
use Rattle.ob_lanes.specs.Standing.{Fits, BusyLane, State, given_run, Holds, GoesOn, Tells, Leads, AreInLimits, requests_of, LanesRepresent, NoneHasEnded, MayRun, Ran, HadTurn}
use Rattle.ob_lanes.specs.declared.batch.Busy.{Busy}
use Rattle.ob_lanes.specs.declared.batch.BatchRequest.{BatchRequest}
use Rattle.ob_lanes.proofs.SliceLemmas.{one_more}
use Rattle.ob_lanes.specs.Starting.{begun}
use Rattle.ob_lanes.proofs.Standing.{get_map, begun_state, begin_stands, begin_going, begun_within, both_at, had_turn}

-- an idle lane stays so
pub idle_ran : (image : Image) (fuel : ℕ) (base : Stored) (entries : List BatchRequest) (units : ℕ) (s : Option BusyLane) → MayRun image fuel base entries None s → Ran image fuel base entries units s None slice_outcome.Paused
idle_ran image fuel base entries units None h = record { is = tt; tells = tt }
idle_ran image fuel base entries units (Some s) h = absurd h.is

-- what a busy lane holds, and the request of it
pub record Held (image : Image) (fuel : ℕ) (base : Stored) (entries : List BatchRequest) (b : Busy) : Type 0 where
  pub lane : BusyLane
  pub entry : BatchRequest
  pub entry_is : slice_get entries b.number ≡ Some entry
  pub goes : GoesOn image fuel base entry.request lane.given b.run

pub held_by : (image : Image) (fuel : ℕ) (base : Stored) (entries : List BatchRequest) (b : Busy) (s : Option BusyLane) → MayRun image fuel base entries (Some b) s → Held image fuel base entries b
held_by image fuel base entries b None h = absurd h.is
held_by image fuel base entries b (Some s) h = record {
  lane = s;
  entry = h.is.entry;
  entry_is = h.is.entry_is;
  goes = record { holds = h.is.holds; going = ap has_ended (sym h.is.run) ∙ not_true (has_ended s.run) h.going };
}

-- a request of these is in its limits
pub limits_at : (image : Image) (fuel : ℕ) (base : Stored) (entries : List BatchRequest) (n : ℕ) (e : BatchRequest) → AreInLimits image fuel base (requests_of entries) → slice_get entries n ≡ Some e → IsInLimits (machine_invocation image (content_of base) (request_of e.request) fuel)
limits_at image fuel base entries n e h at = h n (request_of e.request) (get_map (λ (x : BatchRequest). request_of x.request) entries n ∙ ap (option_map (λ (x : BatchRequest). request_of x.request)) at)

-- a busy lane after its slice
pub busy_ran : (image : Image) (fuel : ℕ) (base : Stored) (entries : List BatchRequest) (units : ℕ) (old new : Busy) (s : Option BusyLane) (e : BatchRequest) (outcome : SliceOutcome) → MayRun image fuel base entries (Some old) s → slice_get entries old.number ≡ Some e → new.number ≡ old.number
    → ((given : List ℕ) → GoesOn image fuel base e.request given old.run → Leads image fuel base e.request units given new.run outcome) → Ran image fuel base entries units s (Some new) outcome
busy_ran image fuel base entries units old new None e outcome h at number led = absurd h.is
busy_ran image fuel base entries units old new (Some s) e outcome h at number led =
    let same = some_same h.is.entry e (sym h.is.entry_is ∙ at) in
    let run = h.is.run ∙ ap (λ (x : BatchRequest). given_run image fuel base x.request s.given) same in
    let l = led s.given (record { holds = subst (λ (x : BatchRequest). Holds image fuel base x.request s.given old.run) same h.is.holds; going = ap has_ended (sym run) ∙ not_true (has_ended s.run) h.going }) in
    let next = ap (slice image fuel (content_of base) units) run ∙ one_more image fuel base e.request units s.given in
    record {
      is = record { number = number ∙ h.is.number; entry = e; entry_is = ap (slice_get entries) number ∙ at; request = h.is.request ∙ ap (λ (x : BatchRequest). request_of x.request) same; run = next; holds = l.holds };
      tells = λ x f. subst (λ (y : BatchRequest). Tells base y.request.id (slice image fuel (content_of base) units s.run) outcome) (some_same e x (sym at ∙ ap (slice_get entries) h.is.number ∙ f))
          (subst (λ r. Tells base e.request.id r outcome) (sym next) l.tells);
    }

-- the same by what its slice has answered
pub busy_ran_if : {E : Type 0} (image : Image) (fuel : ℕ) (base : Stored) (entries : List BatchRequest) (units : ℕ) (old new : Busy) (s : Option BusyLane) (e : BatchRequest) (result : Result SliceOutcome E) → MayRun image fuel base entries (Some old) s
    → slice_get entries old.number ≡ Some e → new.number ≡ old.number → ((given : List ℕ) → GoesOn image fuel base e.request given old.run → IfOk result (Leads image fuel base e.request units given new.run))
    → IfOk result (Ran image fuel base entries units s (Some new))
busy_ran_if image fuel base entries units old new s e (Ok outcome) h at number led = busy_ran image fuel base entries units old new s e outcome h at number led
busy_ran_if image fuel base entries units old new s e (Err error) h at number led = tt

-- the number of what a list has
pub found_within : {A : Type 0} (xs : List A) (n : ℕ) (x : A) → slice_get xs n ≡ Some x → n < length xs
found_within [] n x e = absurd (none_is_some e)
found_within (y ∷ ys) zero x e = omega arith
found_within (y ∷ ys) (suc n) x e = let less = found_within ys n x e in omega (arith, less)

pub found_there : {A : Type 0} (xs : List A) (n : ℕ) (x d : A) → slice_get xs n ≡ Some x → slice_index_or xs n d ≡ x
found_there [] n x d e = absurd (none_is_some e)
found_there (y ∷ ys) zero x d e = some_same y x e
found_there (y ∷ ys) (suc n) x d e = found_there ys n x d e

-- what a list has within its length, whatever comes behind
pub index_any : {A : Type 0} (xs : List A) (k : ℕ) (d e : A) → k < length xs → slice_index_or xs k d ≡ slice_index_or xs k e
index_any [] k d e h = absurd (omega (arith, h))
index_any (x ∷ xs) zero d e h = refl
index_any (x ∷ xs) (suc k) d e h = index_any xs k d e (omega (arith, h))

now_within : (entries : List BatchRequest) (k : ℕ) (old now : List (Option Busy)) → now ≡ begun entries k old → k < length old → k < length now
now_within entries k old now same w = subst (λ (ls : List (Option Busy)). k < length ls) (sym same) (begun_within entries k old w)

-- the turn of a lane, by what its run has answered
pub lane_turned : {E : Type 0} (image : Image) (fuel : ℕ) (base : Stored) (entries : List BatchRequest) (units k : ℕ) (l : State) (old now : List (Option Busy)) (d b : Option Busy) (result : Result SliceOutcome E) → now ≡ begun entries k old
    → LanesRepresent image fuel base entries old l → NoneHasEnded l → k < length old
    → ((s : Option BusyLane) → MayRun image fuel base entries (slice_index_or now k d) s → IfOk result (Ran image fuel base entries units s b))
    → IfOk result (HadTurn image fuel base entries units k l (slice_set now k b))
lane_turned image fuel base entries units k l old now d b (Ok outcome) same h g w run =
    subst (λ ls. HadTurn image fuel base entries units k l (slice_set ls k b) outcome) (sym same)
    (had_turn image fuel base entries units k l old b outcome h g w (λ s m. run s (subst (λ x. MayRun image fuel base entries x s) (index_any now k None d (now_within entries k old now same w))
    (subst (λ ls. MayRun image fuel base entries (slice_index_or ls k None) s) (sym same) m))))
lane_turned image fuel base entries units k l old now d b (Err error) same h g w run = tt

-- a lane may run once it has begun
pub begun_may : (image : Image) (fuel : ℕ) (base : Stored) (entries : List BatchRequest) (k : ℕ) (l : State) (old now : List (Option Busy)) (d : Option Busy) → now ≡ begun entries k old → LanesRepresent image fuel base entries old l → NoneHasEnded l → k < length old
    → (s : Option BusyLane) × MayRun image fuel base entries (slice_index_or now k d) s
begun_may image fuel base entries k l old now d same h g w =
    let fits : Fits = λ before after. true in
    let both = both_at image fuel base entries (begun entries k old) (begun_state fits image fuel entries k l) k (begin_stands fits image fuel base entries old l k h) (begin_going fits image fuel entries l k g) (begun_within entries k old w) in (
      both.lane,
      subst (λ x. MayRun image fuel base entries x both.lane) (index_any now k None d (now_within entries k old now same w))
          (subst (λ ls. MayRun image fuel base entries (slice_index_or ls k None) both.lane) (sym same) both.may),
    )
