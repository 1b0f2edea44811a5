-- The schedule over stores of any kind, seen as that over what they hold (this project's own).
use Rattle.std.specs.Prelude.{◌≡◌, ℕ, List}
use Rattle.ob_invocation_spec.specs.Requests.{Request}
use Rattle.ob_code.specs.declared.image.Image.{Image}
use Rattle.ob_request_run_laws.specs.Runs.{Run}
use Rattle.ob_lanes_laws.specs.Schedule.{Lanes, is_done, step, commit}
use Rattle.ob_lanes_laws.specs.Requests.{Stores, Answer, request_rules}
use Rattle.ob_lanes_laws.specs.Turns.{turned}
use Rattle.ob_lanes.specs.Standing.{Fits, rules_on, State, committed_by}

-- A state of the schedule over stores is seen as one over contents: its store holds that content, it has the same lanes, and the same
-- requests are answered.
pub record IsSeenAs {S L : Type 0} (stores : Stores S L) (l : Lanes S Request Run (Answer L)) (m : State) : Type 0 where
  pub store : m.store ≡ stores.content_of l.store
  pub lanes : m.lanes ≡ l.lanes
  pub done : (n : ℕ) → is_done n m.done ≡ is_done n l.done

-- A turn up to its commit is seen so, whatever there is room for.
abbrev pub TurnsAreSeen : Type 0 → Type 0 → Type 0
TurnsAreSeen S L =
    (stores : Stores S L) (fits : Fits) (image : Image) (fuel : ℕ) (batch : List Request) (units k : ℕ) (l : Lanes S Request Run (Answer L)) (m : State)
    → IsSeenAs stores l m
    → IsSeenAs stores (turned (request_rules stores image fuel) batch units k l) (turned (rules_on fits image fuel) batch units k m)

-- A commit is, where there is room as in the store of the moment.
abbrev pub CommitsAreSeen : Type 0 → Type 0 → Type 0
CommitsAreSeen S L =
    (stores : Stores S L) (image : Image) (fuel : ℕ) (batch : List Request) (k : ℕ) (l : Lanes S Request Run (Answer L)) (m : State) → IsSeenAs stores l m
    → (fits : Fits) × IsSeenAs stores (step (request_rules stores image fuel) batch l (commit k)) (committed_by fits image fuel batch k m)
