-- For which state of the schedule the code's lanes stand, on what a store holds (this project's own).
use Rattle.std.specs.Prelude.{◌≡◌, ℕ, ℤ, nat_eq, ◌<◌, Bool, true, false, not, List, [], ◌∷◌, ◌++◌, map, length, slice_get, Option, Some, None, Result, Ok, Err, if◌then◌else◌, ⊤}
use Rattle.std.proofs.Common.{sym, ap, true≢false}
use Rattle.ob_heap_spec.specs.Contents.{Content}
use Rattle.ob_heap_spec.specs.Worlds.{ReadSame}
use Rattle.ob_heap.specs.Contents.{Stored, content_of}
use Rattle.ob_heap.specs.declared.delta.Delta.{Delta}
use Rattle.ob_rest_spec.specs.AtRest.{IsStoreAtRest}
use Rattle.ob_invocation_spec.specs.Replies.{invoked}
use Rattle.ob_invocation_spec.specs.Requests.{Request, HasLabels}
use Rattle.ob_code.specs.declared.image.Image.{Image}
use Rattle.ob_code_table.specs.ImageTables.{table_of_image}
use Rattle.ob_machine_meaning.specs.Meanings.{machine_invocation}
use Rattle.ob_machine_steps.specs.Measures.{LeadsAheadOrToUnit}
use Rattle.ob_lanes_laws.specs.UnownedLaws.{KeepsStores}
use Rattle.ob_request_run_laws.specs.Laws.{AgreeOn}
use Rattle.ob_request_run_laws.specs.Runs.{paused, answered, invoked_by}
use Rattle.ob_request_run_laws.specs.Runs as plain
use Rattle.ob_request_run_laws.specs.Slices.{slice}
use Rattle.ob_wire.specs.Meanings.{request_of}
use Rattle.ob_wire.specs.declared.request.Request as wire
use Rattle.ob_exec_handles.specs.Coming.{ComesTo, LeadsTo, IsInLimits}
use Rattle.ob_exec.specs.Pausing.{RunRepresents, run_of}
use Rattle.ob_exec.specs.declared.runs.Run.{Run}
use Rattle.ob_exec.specs.declared.runs.SliceOutcome.{SliceOutcome}
use Rattle.ob_exec.specs.declared.runs.SliceOutcome.TheVariants as slice_outcome
use Rattle.ob_lanes_laws.specs.Schedule.{Rules, is_done, step, commit}
use Rattle.ob_lanes_laws.specs.Schedule as schedule
use Rattle.ob_lanes_laws.specs.Requests.{Stores, Answer, has_ended, request_rules}
use Rattle.ob_lanes_laws.specs.Turns.{turned, next_lane, is_answered}
use Rattle.ob_lanes_laws.specs.Laws.{OfEach}
use Rattle.ob_lanes.specs.declared.batch.Busy.{Busy}
use Rattle.ob_lanes.specs.declared.batch.BatchRequest.{BatchRequest}
use Rattle.ob_lanes.specs.Starting.{are_all_done}
use Rattle.ob_lanes.specs.declared.lanes.Lanes.{Lanes}
use Rattle.ob_lanes.specs.declared.lanes.Turn.{Turn}
use Rattle.ob_lanes.specs.declared.lanes.Turn.TheVariants.{Commit, Going, Done}

-- Runs.

-- units in the order in which they were given, of which the last one stands first
abbrev pub in_order : List ℕ → List ℕ
in_order [] = []
in_order (units ∷ given) = in_order given ++ units ∷ []

-- the run of a request that was opened on what a store holds, once it was given slices of these units, the last first
abbrev pub given_run : Image → ℕ → Stored → wire.Request → List ℕ → plain.Run
given_run image fuel base request given = run_of image fuel base (in_order given) request

-- The code's run is as far as a plain one, on what a store holds: it is paused where that is, or it has ended and its answer was taken;
-- and it has read and taken as much.
abbrev pub IsAsFar : Image → Stored → plain.Run → Run → Type 0
IsAsFar image base (paused q reads p h) run = RunRepresents image base (paused q reads p h) run.state
IsAsFar image base (answered a) run = ReadSame a.reads run.state.reads × (run.state.taken ≡ a.taken)
IsAsFar image base r run = ⊥

-- What a lane holds of the run of its request that was given slices of these units: none where it wasn't sliced since it was opened, and
-- else the run.
abbrev pub Holds : Image → ℕ → Stored → wire.Request → List ℕ → Option Run → Type 0
Holds image fuel base request [] None = ⊤
Holds image fuel base request [] (Some run) = ⊥
Holds image fuel base request (units ∷ given) None = ⊥
Holds image fuel base request (units ∷ given) (Some run) =
    (run.request ≡ request) × IsAsFar image base (given_run image fuel base request (units ∷ given)) run

-- The lane holds this run, which hasn't ended.
pub record GoesOn (image : Image) (fuel : ℕ) (base : Stored) (request : wire.Request) (given : List ℕ) (run : Option Run) : Type 0 where
  pub holds : Holds image fuel base request given run
  pub going : has_ended (given_run image fuel base request given) ≡ false

-- A run of the code's that a slice takes as far as the plain one that was given these units.
pub record IsReady (image : Image) (fuel : ℕ) (base : Stored) (request : wire.Request) (given : List ℕ) (run : Run) : Type 0 where
  pub request_is : run.request ≡ request
  pub slices_so_far : List ℕ
  pub stands : RunRepresents image base (run_of image fuel base slices_so_far request) run.state
  pub same : (units : ℕ) → slice image fuel (content_of base) units (run_of image fuel base slices_so_far request) ≡ given_run image fuel base request (units ∷ given)

-- the same of what a lane holds: there is one
abbrev pub AreReady : Image → ℕ → Stored → wire.Request → List ℕ → Option Run → Type 0
AreReady image fuel base request given None = ⊥
AreReady image fuel base request given (Some run) = IsReady image fuel base request given run

-- What a run that has ended tells: the reply, and what differs in the store after it; and one that is paused nothing.
abbrev pub Tells : Stored → ℤ → plain.Run → SliceOutcome → Type 0
Tells base id (paused q reads p h) slice_outcome.Paused = ⊤
Tells base id (answered a) (slice_outcome.Ended reply delta) = (reply.id ≡ Some id) × ComesTo (invoked (invoked_by (content_of base) a)) base reply.answer delta
Tells base id r outcome = ⊥

-- After one more slice the lane holds the run, which tells so.
pub record Leads (image : Image) (fuel : ℕ) (base : Stored) (request : wire.Request) (units : ℕ) (given : List ℕ) (run : Option Run) (outcome : SliceOutcome) : Type 0 where
  pub holds : Holds image fuel base request (units ∷ given) run
  pub tells : Tells base request.id (given_run image fuel base request (units ∷ given)) outcome

-- Lanes.

-- Stores that are no more than what they hold, of which this tells whether there is room for a change.
abbrev pub settled : Content → Bool → Result Content ⊤
settled after true = Ok after
settled after false = Err tt

abbrev pub store_or : Content → Result Content ⊤ → Content
store_or c (Ok t) = t
store_or c (Err lack) = c

abbrev pub has_room : Result Content ⊤ → Bool
has_room (Ok t) = true
has_room (Err lack) = false

pub settled_is : (after t : Content) (fits : Bool) → settled after fits ≡ Ok t → t ≡ after
settled_is after t true e = sym (ap (store_or after) e)
settled_is after t false e = absurd (true≢false (sym (ap has_room e)))

abbrev pub Fits : Type 0
Fits = Content → Content → Bool

abbrev pub contents : Fits → Stores Content ⊤
contents fits = record {
  content_of = λ c. c;
  settle = λ s after. settled after (fits s after);
  settles = λ s after t e. settled_is after t (fits s after) e;
}

-- the rules of requests on them
abbrev pub rules_on : Fits → Image → ℕ → Rules Content Request plain.Run (Answer ⊤)
rules_on fits image fuel = request_rules (contents fits) image fuel

-- a busy lane of the schedule of requests, and a state of the schedule on contents
abbrev pub BusyLane : Type 0
BusyLane = schedule.Busy Request plain.Run

abbrev pub State : Type 0
State = schedule.Lanes Content Request plain.Run (Answer ⊤)

-- A lane that is busy is so in the schedule: it has the same request, and holds its run.
pub record IsBusy (image : Image) (fuel : ℕ) (base : Stored) (entries : List BatchRequest) (b : Busy) (s : BusyLane) : Type 0 where
  pub number : b.number ≡ s.number
  pub entry : BatchRequest
  pub entry_is : slice_get entries b.number ≡ Some entry
  pub request : s.request ≡ request_of entry.request
  pub run : s.run ≡ given_run image fuel base entry.request s.given
  pub holds : Holds image fuel base entry.request s.given b.run

-- a lane is one of the schedule
abbrev pub IsLane : Image → ℕ → Stored → List BatchRequest → Option Busy → Option BusyLane → Type 0
IsLane image fuel base entries None None = ⊤
IsLane image fuel base entries (Some b) (Some s) = IsBusy image fuel base entries b s
IsLane image fuel base entries b s = ⊥

-- and these are those of the schedule
abbrev pub AreLanes : Image → ℕ → Stored → List BatchRequest → List (Option Busy) → List (Option BusyLane) → Type 0
AreLanes image fuel base entries [] [] = ⊤
AreLanes image fuel base entries (b ∷ bs) (s ∷ ss) = IsLane image fuel base entries b s × AreLanes image fuel base entries bs ss
AreLanes image fuel base entries bs ss = ⊥

-- the requests of a batch
abbrev pub requests_of : List BatchRequest → List Request
requests_of entries = map (λ (e : BatchRequest). request_of e.request) entries

-- the requests of a batch as lanes keep them, with their numbers for the replies
abbrev pub requests_kept : Lanes → List wire.Request
requests_kept lanes = map (λ (e : BatchRequest). e.request) lanes.entries.items

-- Each busy lane has a request that isn't answered, and no two lanes have the same one.
pub record HaveOwnRequests (l : State) : Type 0 where
  pub unanswered : (k : ℕ) (b : BusyLane) → slice_get l.lanes k ≡ Some (Some b) → is_done b.number l.done ≡ false
  pub apart : (j k : ℕ) (b d : BusyLane) → slice_get l.lanes j ≡ Some (Some b) → slice_get l.lanes k ≡ Some (Some d) → b.number ≡ d.number → j ≡ k

-- Lanes, and what is kept of the batch, represent a state of the schedule on what a store holds.
pub record LanesRepresent (image : Image) (fuel : ℕ) (base : Stored) (entries : List BatchRequest) (lanes : List (Option Busy)) (l : State) : Type 0 where
  pub store : l.store ≡ content_of base
  pub done : (n : ℕ) (e : BatchRequest) → slice_get entries n ≡ Some e → is_done n l.done ≡ e.is_done
  pub each : AreLanes image fuel base entries lanes l.lanes
  pub own : HaveOwnRequests l

-- The code's lanes represent a state of the schedule of a batch, on what a store holds.
pub record LanesRepresentBatch (image : Image) (fuel : ℕ) (batch : List Request) (base : Stored) (lanes : Lanes) (l : State) : Type 0 where
  pub requests : batch ≡ requests_of lanes.entries.items
  pub state : LanesRepresent image fuel base lanes.entries.items lanes.lanes.items l
  pub next : lanes.next < length lanes.lanes.items
  pub slice : 0 < lanes.slice

-- no lane's run has ended
abbrev pub NoneHasEnded : State → Type 0
NoneHasEnded l = (k : ℕ) (b : BusyLane) → slice_get l.lanes k ≡ Some (Some b) → has_ended b.run ≡ false

-- the run of just one lane has ended
abbrev pub EndsAlone : ℕ → State → Type 0
EndsAlone k l = (j : ℕ) (b : BusyLane) → slice_get l.lanes j ≡ Some (Some b) → has_ended b.run ≡ nat_eq j k

-- no other lane's run has ended
abbrev pub OthersGoOn : ℕ → State → Type 0
OthersGoOn k l = (j : ℕ) (b : BusyLane) → slice_get l.lanes j ≡ Some (Some b) → ¬ (j ≡ k) → has_ended b.run ≡ false

-- no lane is busy
abbrev pub AreIdle : State → Type 0
AreIdle l = (k : ℕ) (b : BusyLane) → ¬ (slice_get l.lanes k ≡ Some (Some b))

-- a request of a batch that has just begun
abbrev pub waiting : wire.Request → BatchRequest
waiting request = record { request = request; is_done = false }

-- the schedule after a commit of a lane
abbrev pub committed_by : Fits → Image → ℕ → List Request → ℕ → State → State
committed_by fits image fuel batch k l = step (rules_on fits image fuel) batch l (commit k)

-- no request of these goes wrong on what a store holds, or leaves more objects than there may be
abbrev pub AreInLimits : Image → ℕ → Stored → List Request → Type 0
AreInLimits image fuel base batch = (n : ℕ) (q : Request) → slice_get batch n ≡ Some q → IsInLimits (machine_invocation image (content_of base) q fuel)

-- what the lane of a number tells, if it is busy
abbrev pub LaneTells : Stored → List BatchRequest → Option (Option BusyLane) → SliceOutcome → Type 0
LaneTells base entries (Some (Some b)) outcome = (e : BatchRequest) → slice_get entries b.number ≡ Some e → Tells base e.request.id b.run outcome
LaneTells base entries lane slice_outcome.Paused = ⊤
LaneTells base entries lane (slice_outcome.Ended reply delta) = ⊥

-- whether a lane of the schedule has a run that hasn't ended
abbrev pub is_going : Option BusyLane → Bool
is_going None = true
is_going (Some s) = not (has_ended s.run)

-- A lane may run for a slice: it is this one of the schedule, whose run hasn't ended.
pub record MayRun (image : Image) (fuel : ℕ) (base : Stored) (entries : List BatchRequest) (b : Option Busy) (s : Option BusyLane) : Type 0 where
  pub is : IsLane image fuel base entries b s
  pub going : is_going s ≡ true

-- a lane of the schedule after a slice
abbrev pub lane_ran : Image → ℕ → Stored → ℕ → Option BusyLane → Option BusyLane
lane_ran image fuel base units None = None
lane_ran image fuel base units (Some s) = Some (record s { given = units ∷ s.given; run = slice image fuel (content_of base) units s.run })

-- It has run for a slice, and tells so.
pub record Ran (image : Image) (fuel : ℕ) (base : Stored) (entries : List BatchRequest) (units : ℕ) (s : Option BusyLane) (b : Option Busy) (outcome : SliceOutcome) : Type 0 where
  pub is : IsLane image fuel base entries b (lane_ran image fuel base units s)
  pub tells : LaneTells base entries (Some (lane_ran image fuel base units s)) outcome

-- a lane has had its turn, up to its commit, and its run tells so
pub record HadTurn (image : Image) (fuel : ℕ) (base : Stored) (entries : List BatchRequest) (units k : ℕ) (l : State) (lanes : List (Option Busy)) (outcome : SliceOutcome) : Type 0 where
  pub state : (fits : Fits) → LanesRepresent image fuel base entries lanes (turned (rules_on fits image fuel) (requests_of entries) units k l)
  pub others : (fits : Fits) → OthersGoOn k (turned (rules_on fits image fuel) (requests_of entries) units k l)
  pub tells : (fits : Fits) → LaneTells base entries (slice_get (turned (rules_on fits image fuel) (requests_of entries) units k l).lanes k) outcome

-- What a turn of a lane answers in a state of the schedule, and whose turn is next: the reply of the lane's run, which has ended, and what
-- differs in the store after it; that nothing commits, and there is something left to answer; or that there is nothing left, and no lane
-- is busy.
abbrev pub Answers : Stored → List Request → List BatchRequest → ℕ → State → Turn → ℕ → Type 0
Answers base batch entries k l (Commit reply delta) next = LaneTells base entries (slice_get l.lanes k) (slice_outcome.Ended reply delta) × EndsAlone k l × (next ≡ k)
Answers base batch entries k l Going next =
    NoneHasEnded l × (is_answered batch l ≡ false) × (next ≡ next_lane (length l.lanes) k)
Answers base batch entries k l Done next =
    NoneHasEnded l × (is_answered batch l ≡ true) × (next ≡ next_lane (length l.lanes) k) × AreIdle l

-- What a turn comes to and whose turn is next, by what its slice has led to and what is kept of the batch.
abbrev pub TurnComesTo : Lanes → SliceOutcome → ℕ → Turn → Type 0
TurnComesTo lanes (slice_outcome.Ended reply delta) next turn = (turn ≡ Commit reply delta) × (next ≡ lanes.next)
TurnComesTo lanes slice_outcome.Paused next turn =
    (turn ≡ (if are_all_done lanes.entries.items then Done else Going)) × (next ≡ next_lane (length lanes.lanes.items) lanes.next)

-- A turn has made its events, up to the commit, and answers so.
pub record Turned (image : Image) (fuel : ℕ) (batch : List Request) (base : Stored) (old : Lanes) (l : State) (new : Lanes) (turn : Turn) : Type 0 where
  pub stands : (fits : Fits) → LanesRepresentBatch image fuel batch base new (turned (rules_on fits image fuel) batch old.slice old.next l)
  pub slice : new.slice ≡ old.slice
  pub count : length new.lanes.items ≡ length old.lanes.items
  pub answers : (fits : Fits) → Answers base batch old.entries.items old.next (turned (rules_on fits image fuel) batch old.slice old.next l) turn new.next

-- A turn can be made: the lanes represent a state in which no run waits for its commit.
pub record CanTurn (image : Image) (fuel : ℕ) (batch : List Request) (base : Stored) (lanes : Lanes) (l : State) : Type 0 where
  pub stands : LanesRepresentBatch image fuel batch base lanes l
  pub going : NoneHasEnded l
  pub limits : AreInLimits image fuel base batch

-- the run of a lane, if it is busy and was sliced
abbrev pub run_of_lane : Option (Option Busy) → Option Run
run_of_lane (Some (Some b)) = b.run
run_of_lane lane = None

abbrev pub run_at : List (Option Busy) → ℕ → Option Run
run_at lanes k = run_of_lane (slice_get lanes k)

-- what is lent of a lane of the schedule: what it holds of its run
abbrev pub Lends : Image → ℕ → Stored → List BatchRequest → Option (Option BusyLane) → Option Run → Type 0
Lends image fuel base entries (Some (Some s)) lent = (e : BatchRequest) → slice_get entries s.number ≡ Some e → Holds image fuel base e.request s.given lent
Lends image fuel base entries lane lent = lent ≡ None

-- Commits.

-- The lanes wait for the commit of the lane whose turn it was: its run has ended, and no other one has.
pub record Waits (image : Image) (fuel : ℕ) (batch : List Request) (base : Stored) (lanes : Lanes) (l : State) : Type 0 where
  pub stands : LanesRepresentBatch image fuel batch base lanes l
  pub lane : BusyLane
  pub lane_is : slice_get l.lanes lanes.next ≡ Some (Some lane)
  pub ended : EndsAlone lanes.next l

-- After a change of what a store holds the run of each lane, if it was sliced since it was opened, has read nothing that is changed.
abbrev pub AreUntouched : Stored → Delta → List (Option Busy) → Type 0
AreUntouched before delta lanes =
    (k : ℕ) (run : Run) (after : Stored) → run_at lanes k ≡ Some run → LeadsTo before delta (content_of after)
    → AgreeOn run.state.reads (content_of before) (content_of after)

-- From a store at rest, and for code by which none goes wrong or leaves one that isn't: if the delta leads to what the schedule's store
-- holds after the commit, and has just what differs, then the lanes represent the schedule after the commit.
abbrev pub Commits : Image → ℕ → List Request → Stored → Delta → Stored → ℕ → State → Lanes → Type 0
Commits image fuel batch before delta after k l new =
    (fits : Fits) → LeadsAheadOrToUnit image → KeepsStores image → OfEach HasLabels batch → IsStoreAtRest (table_of_image image) (content_of before)
    → LeadsTo before delta (content_of after) → (committed_by fits image fuel batch k l).store ≡ content_of after
    → LanesRepresentBatch image fuel batch after new (committed_by fits image fuel batch k l) × NoneHasEnded (committed_by fits image fuel batch k l)
