-- In which order the requests of a batch are answered: that of the commits of its lanes. Lanes run code, and what commits first depends on
-- how many units each request takes by it; so the order is said by the code, also where the replies are said by the source (this project's
-- own).
use Rattle.std.specs.Prelude.{◌≡◌, ℕ, suc, ◌*◌, ◌<◌, List, ◌∷◌, ◌++◌, length, map, reverse, slice_get, Option, Some}
use Rattle.std.specs.List.{Contains}
use Rattle.ob_code.specs.declared.image.Image.{Image}
use Rattle.ob_invocation_spec.specs.Requests.{Request}
use Rattle.ob_lanes_laws.specs.Measures.{most_until}
use Rattle.ob_lanes_laws.specs.Requests.{Stores, Answer, request_rules}
use Rattle.ob_lanes_laws.specs.Schedule.{Rules, Done, Lanes}
use Rattle.ob_lanes_laws.specs.Turns.{Round, after_turns}
use Rattle.ob_machine_steps.specs.Measures.{longest}
use Rattle.ob_request_run_laws.specs.Runs.{Run}
use Rattle.ob_store_spec.specs.Settling.{settled}
use Rattle.ob_store_spec.specs.Stores.{StoreProgram, StoreState}
use Rattle.ob_serve.specs.Settled.{settled_holds}
use Rattle.ob_serve.specs.declared.limits.Limits.{Limits}

-- the stores of a session, as a schedule has them: what one holds, and what becomes of it
abbrev pub session_stores : StoreProgram → Option ℕ → Stores StoreState (ℕ × ℕ)
session_stores program area = record {
  content_of = λ s. s.content;
  settle = settled program area;
  settles = settled_holds program area;
}

-- the rules of the requests of a batch, by code
abbrev pub batch_rules : StoreProgram → Image → Limits → Option ℕ → Rules StoreState Request Run (Answer (ℕ × ℕ))
batch_rules program code limits area = request_rules (session_stores program area) code limits.fuel

-- more turns than a batch of so many requests takes, each of which has so many units of fuel, in so many lanes
abbrev pub enough_turns : Image → Limits → ℕ → ℕ
enough_turns code limits requests = suc requests * most_until (suc (suc (limits.fuel * longest code))) limits.lanes

-- the schedule of a batch on a store, and whose turn is next, after so many turns
abbrev pub batch_after : StoreProgram → Image → Limits → Option ℕ → StoreState → List Request → ℕ → Round StoreState Request Run (Answer (ℕ × ℕ))
batch_after program code limits area s batch turns =
    after_turns (batch_rules program code limits area) batch limits.slice limits.lanes s turns

-- the numbers of the requests that were answered, in the order in which they committed
abbrev pub answered_numbers : List (Done StoreState (Answer (ℕ × ℕ))) → List ℕ
answered_numbers done = reverse (map (λ d. d.number) done)

-- the numbers of a batch's requests, in the order in which they commit
abbrev pub commit_order : StoreProgram → Image → Limits → Option ℕ → StoreState → List Request → List ℕ
commit_order program code limits area s batch =
    answered_numbers (batch_after program code limits area s batch (enough_turns code limits (length batch))).lanes.done

-- The requests of a batch that come before a place of the order: this one isn't among them, and each earlier one of its client is.
pub record MayFollow (batch : List Request) (before : List ℕ) (number : ℕ) : Type 0 where
  pub request : Request
  pub is_its : slice_get batch number ≡ Some request
  pub once : ¬ (Contains before number)
  pub earlier : (n : ℕ) (q : Request) → n < number → slice_get batch n ≡ Some q → q.who ≡ request.who → Contains before n

-- Each request of a batch stands in an order once, and those of a client as they stand in the batch.
pub record IsOrderOf (batch : List Request) (order : List ℕ) : Type 0 where
  pub all : (n : ℕ) → n < length batch → Contains order n
  pub each : (before after : List ℕ) (number : ℕ) → order ≡ before ++ number ∷ after → MayFollow batch before number
