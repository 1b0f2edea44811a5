-- The turns of a batch on a store; for private clauses.
use Rattle.std.specs.Prelude.{ℕ, suc, ◌≡◌, ◌<◌, ◌≤◌, ⊤, Bool, true, false, List, [], ◌++◌, length, map, slice_get, Option, Result, Ok, Err}
use Rattle.ob_code.specs.declared.image.Image.{Image}
use Rattle.ob_code_table.specs.ImageTables.{table_of_image}
use Rattle.ob_heap.specs.declared.delta.Delta.{Delta}
use Rattle.ob_invocation_spec.specs.Requests as asked
use Rattle.ob_invocation_spec.specs.Requests.{HasLabels}
use Rattle.ob_lanes_laws.specs.Laws.{OfEach}
use Rattle.ob_lanes_laws.specs.Requests.{Answer}
use Rattle.ob_lanes_laws.specs.Schedule as schedule
use Rattle.ob_lanes_laws.specs.Turns.{Round, turned}
use Rattle.ob_lanes.specs.Seen.{IsSeenAs}
use Rattle.ob_exec.specs.declared.runs.SliceOutcome.TheVariants.{Ended}
use Rattle.ob_lanes.specs.Standing.{State, LanesRepresentBatch, NoneHasEnded, LaneTells, requests_kept}
use Rattle.ob_lanes.specs.Standing as of_lanes
use Rattle.ob_lanes.specs.declared.lanes.Lanes.{Lanes}
use Rattle.ob_machine_steps.specs.Measures.{LeadsAheadOrToUnit}
use Rattle.ob_request_run_laws.specs.Runs.{Run}
use Rattle.ob_rest_spec.specs.AtRest.{IsStoreAtRest}
use Rattle.ob_sound_code.specs.SoundCode.{IsSoundImage}
use Rattle.ob_store_spec.specs.Stores.{StoreState}
use Rattle.ob_store.specs.Stores.{program_of, area_of_store, kept_of, state_of}
use Rattle.ob_store.specs.declared.store.Store.{Store}
use Rattle.ob_wire.specs.Meanings.{request_of}
use Rattle.ob_wire.specs.declared.request.Incoming.TheVariants.{Batch}
use Rattle.ob_wire.specs.declared.request.Request.{Request}
use Rattle.ob_wire.specs.declared.reply.Reply.{Reply}
use Rattle.ob_serve.specs.Batches.{session_stores, batch_rules, batch_after, answered_numbers, enough_turns}
use Rattle.ob_serve.specs.Items.{by_machine, request_items, in_order, items_of_asked}
use Rattle.ob_serve.specs.Serving.{Moment, Answered, Stopped}
use Rattle.ob_serve.specs.Session.{SessionItem}
use Rattle.ob_serve.specs.declared.limits.Limits.{Limits}
use Rattle.ob_serve.specs.declared.serving.Served.{Served}

-- a batch, the store on which it begins and where that is kept, and by which code and limits it is answered
pub record BatchOn : Type 0 where
  pub code : Image
  pub limits : Limits
  pub area : Option ℕ
  pub start : StoreState
  pub requests : List Request

-- the same, of its parts
abbrev pub batch_on : Image → Limits → Option ℕ → StoreState → List Request → BatchOn
batch_on code limits area start requests = record { code = code; limits = limits; area = area; start = start; requests = requests }

-- what its requests ask
abbrev pub asked_in : BatchOn → List asked.Request
asked_in b = map request_of b.requests

-- its schedule after so many turns, and whose turn is next
abbrev pub round_after : BatchOn → ℕ → Round StoreState asked.Request Run (Answer (ℕ × ℕ))
round_after b turns = batch_after (program_of b.code) b.code b.limits b.area b.start (asked_in b) turns

-- its schedule after so many turns and one more, up to the commit of that one
abbrev pub round_turned : BatchOn → ℕ → schedule.Lanes StoreState asked.Request Run (Answer (ℕ × ℕ))
round_turned b turns =
    turned (batch_rules (program_of b.code) b.code b.limits b.area) (asked_in b) b.limits.slice (round_after b turns).next (round_after b turns).lanes

-- the items of the requests that are answered after so many turns
abbrev pub items_after : BatchOn → ℕ → List (SessionItem StoreState)
items_after b turns = request_items (by_machine b.code b.limits b.area) b.start (in_order b.requests (answered_numbers (round_after b turns).lanes.done))

-- all of its items
abbrev pub all_items : BatchOn → List (SessionItem StoreState)
all_items b = items_of_asked (by_machine b.code b.limits b.area) b.start (Ok (Batch b.requests))

-- as many turns as are enough
abbrev pub turns_of : BatchOn → ℕ
turns_of b = enough_turns b.code b.limits (length (asked_in b))

-- It can be answered: the code is sound, its jumps lead ahead or to a `unit`, the names in the requests are labels, the store is at
-- rest, there is a lane, and a slice has a unit.
pub record CanBeAnswered (b : BatchOn) : Type 0 where
  pub ahead : LeadsAheadOrToUnit b.code
  pub sound : IsSoundImage b.code
  pub labels : OfEach HasLabels (asked_in b)
  pub at_rest : IsStoreAtRest (table_of_image b.code) b.start.content
  pub lanes : 0 < b.limits.lanes
  pub slice : 0 < b.limits.slice

-- The lanes are as far as the schedule after so many turns, and the store is that of the schedule.
pub record AreAsFar (b : BatchOn) (turns : ℕ) (store : Store) (lanes : Lanes) : Type 0 where
  pub few : turns ≤ turns_of b
  pub state : State
  pub seen : IsSeenAs (session_stores (program_of b.code) b.area) (round_after b turns).lanes state
  pub stand : LanesRepresentBatch b.code b.limits.fuel (asked_in b) (kept_of store) lanes state
  pub requests : requests_kept lanes ≡ b.requests
  pub going : NoneHasEnded state
  pub next : lanes.next ≡ (round_after b turns).next
  pub slice : lanes.slice ≡ b.limits.slice
  pub store_is : state_of store ≡ (round_after b turns).lanes.store
  pub area : area_of_store store ≡ b.area

-- The lanes wait for the commit of a turn, which has come to this reply and this delta.
pub record WaitsWith (b : BatchOn) (turns : ℕ) (store : Store) (lanes : Lanes) (reply : Reply) (delta : Delta) : Type 0 where
  pub few : turns ≤ turns_of b
  pub state : State
  pub seen : IsSeenAs (session_stores (program_of b.code) b.area) (round_turned b turns) state
  pub waits : of_lanes.Waits b.code b.limits.fuel (asked_in b) (kept_of store) lanes state
  pub tells : LaneTells (kept_of store) lanes.entries.items (slice_get state.lanes lanes.next) (Ended reply delta)
  pub requests : requests_kept lanes ≡ b.requests
  pub next : lanes.next ≡ (round_after b turns).next
  pub slice : lanes.slice ≡ b.limits.slice
  pub store_is : state_of store ≡ (round_after b turns).lanes.store
  pub area : area_of_store store ≡ b.area

-- the items of a turn that isn't the last
pub record GoesOn (b : BatchOn) (turns : ℕ) (old new : Moment) (lanes : Lanes) : Type 0 where
  pub items : List (SessionItem StoreState)
  pub more : items_after b (suc turns) ≡ items_after b turns ++ items
  pub far : AreAsFar b (suc turns) new.store lanes
  pub answered : Answered b.code items old new

-- after so many turns all is answered, and nothing changes any more
pub record IsLast (b : BatchOn) (turns : ℕ) (old new : Moment) : Type 0 where
  pub all : all_items b ≡ items_after b turns
  pub nothing : Answered b.code [] old new

-- it stopped in the items of a turn
pub record StopsIn (b : BatchOn) (turns : ℕ) (served : Served) (old new : Moment) : Type 0 where
  pub items : List (SessionItem StoreState)
  pub rest : List (SessionItem StoreState)
  pub all : all_items b ≡ (items_after b turns ++ items) ++ rest
  pub stopped : Stopped b.code served items old new

-- what a turn answers: whether it was the last
abbrev pub Turns : BatchOn → ℕ → Moment → Moment → Lanes → Result Bool Served → Type 0
Turns b turns old new lanes (Ok true) = IsLast b turns old new
Turns b turns old new lanes (Ok false) = GoesOn b turns old new lanes
Turns b turns old new lanes (Err served) = StopsIn b turns served old new

-- what the commit of a turn answers
abbrev pub Commits : BatchOn → ℕ → Moment → Moment → Lanes → Result ⊤ Served → Type 0
Commits b turns old new lanes (Ok done) = GoesOn b turns old new lanes
Commits b turns old new lanes (Err served) = StopsIn b turns served old new
