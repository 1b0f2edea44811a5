-- What the laws of the schedule say (this project's own).
use Rattle.std.specs.Prelude.{◌≡◌, ℕ, ◌+◌, ◌<◌, true, false, List, length, slice_get, Some}
use Rattle.ob_table.specs.Tables.{ClassTable}
use Rattle.ob_heap_spec.specs.Contents.{Content, IsContent}
use Rattle.ob_heap_spec.specs.Worlds.{ReadItem}
use Rattle.ob_rest_spec.specs.AtRest.{IsStoreAtRest}
use Rattle.ob_invocation_spec.specs.Requests.{Request, HasLabels}
use Rattle.ob_code.specs.declared.image.Image.{Image}
use Rattle.ob_code_table.specs.ImageTables.{table_of_image}
use Rattle.ob_machine_steps.specs.Measures.{LeadsAheadOrToUnit}
use Rattle.ob_lanes_laws.specs.UnownedLaws.{KeepsStores}
use Rattle.ob_request_run_laws.specs.Runs.{Run}
use Rattle.ob_request_run_laws.specs.Laws.{AgreeOn}
use Rattle.ob_lanes_laws.specs.Schedule.{Rules, Busy, Lanes, Event, idle, is_done, after_events}
use Rattle.ob_lanes_laws.specs.Serial.{Meaning, IsSerializable, RunsAlone, AreLocal}
use Rattle.ob_lanes_laws.specs.Turns.{turn, next_lane, after_turns, is_answered}
use Rattle.ob_lanes_laws.specs.Measures.{Distances, turns_left}
use Rattle.ob_lanes_laws.specs.Conflicts.{conflicts}
use Rattle.ob_lanes_laws.specs.Requests.{Stores, Answer, IsInvoked, request_rules}

-- Any rules.

-- Where runs are local, a schedule is serializable, whatever events come and in whatever order.
abbrev pub SchedulesAreSerializable : Type 0 → Type 0 → Type 0 → Type 0 → Type 0
SchedulesAreSerializable S Q R A =
    (rules : Rules S Q R A) (batch : List Q) (s : S) (count : ℕ) (events : List Event) → AreLocal rules batch s
    → IsSerializable rules (RunsAlone rules) batch s (after_events rules batch (idle s count) events)

-- Each busy lane has a request of the batch that isn't answered, and its run is no farther from its end than one that is opened.
abbrev pub AreUnderWay : {S Q R A : Type 0} → (rules : Rules S Q R A) → Distances rules → List Q → Lanes S Q R A → Type 0
AreUnderWay {Q = Q} {R = R} rules d batch l =
    (k : ℕ) (b : Busy Q R) → slice_get l.lanes k ≡ Some (Some b)
    → (slice_get batch b.number ≡ Some b.request) × (is_done b.number l.done ≡ false) × (d.left b.run < d.most + 1)

-- Each turn lowers the measure, until the batch is answered.
abbrev pub TurnsLowerTheMeasure : Type 0 → Type 0 → Type 0 → Type 0 → Type 0
TurnsLowerTheMeasure S Q R A =
    (rules : Rules S Q R A) (d : Distances rules) (batch : List Q) (units k : ℕ) (l : Lanes S Q R A)
    → AreUnderWay rules d batch l → 0 < units → k < length l.lanes → is_answered batch l ≡ false
    → turns_left rules d batch (next_lane (length l.lanes) k) (turn rules batch units k l) < turns_left rules d batch k l

-- after so many turns all of a batch is answered, and the schedule is serializable
pub record IsAnsweredIn {S Q R A : Type 0} (rules : Rules S Q R A) (means : Meaning S Q A) (batch : List Q) (units count : ℕ) (s : S) (turns : ℕ) : Type 0 where
  pub all : is_answered batch (after_turns rules batch units count s turns).lanes ≡ true
  pub serializable : IsSerializable rules means batch s (after_turns rules batch units count s turns).lanes

-- The turns of a batch end, with slices of at least one unit and at least one lane: after as many turns as the measure says at first all
-- is answered.
abbrev pub BatchesEnd : Type 0 → Type 0 → Type 0 → Type 0 → Type 0
BatchesEnd S Q R A =
    (rules : Rules S Q R A) (d : Distances rules) (batch : List Q) (units count : ℕ) (s : S) → AreLocal rules batch s → 0 < units → 0 < count
    → IsAnsweredIn rules (RunsAlone rules) batch units count s (turns_left rules d batch 0 (idle s count))

-- Once all of a batch is answered, more turns change nothing.
abbrev pub AnsweredBatchesStay : Type 0 → Type 0 → Type 0 → Type 0 → Type 0
AnsweredBatchesStay S Q R A =
    (rules : Rules S Q R A) (batch : List Q) (units count : ℕ) (s : S) (turns more : ℕ) → AreLocal rules batch s
    → is_answered batch (after_turns rules batch units count s turns).lanes ≡ true
    → (after_turns rules batch units count s (turns + more)).lanes ≡ (after_turns rules batch units count s turns).lanes

-- Requests.

-- Between two contents of the class table none of these items conflicts exactly where the contents agree on them.
abbrev pub ConflictsAreDifferences : Type 0
ConflictsAreDifferences =
    (table : ClassTable) (c d : Content) (items : List ReadItem) → IsContent table c → IsContent table d
    → (conflicts table c d items ≡ false → AgreeOn items c d) × (AgreeOn items c d → conflicts table c d items ≡ false)

-- this holds of each request of a batch
abbrev pub OfEach : {Q : Type 0} → (Q → Type 0) → List Q → Type 0
OfEach {Q = Q} P batch = (n : ℕ) (q : Q) → slice_get batch n ≡ Some q → P q

-- a store of a kind is at rest
abbrev pub IsAtRestIn : {S L : Type 0} → Stores S L → Image → S → Type 0
IsAtRestIn stores image s = IsStoreAtRest (table_of_image image) (stores.content_of s)

-- the schedule of a batch of requests after events
abbrev pub after_request_events : {S L : Type 0} → Stores S L → Image → ℕ → List Request → S → ℕ → List Event → Lanes S Request Run (Answer L)
after_request_events stores image fuel batch s count events =
    let rules = request_rules stores image fuel in after_events rules batch (idle s count) events

-- Whatever events come, from every store at rest: replies and changes are those of the invocation by code, where the store has room for
-- them, of one request after another in the order of commits; each client's requests are answered in their order; and the store stays at
-- rest. So it is by each image whose jumps lead ahead, or to a `unit`, and by whose code no request on a store at rest goes wrong, or
-- leaves it not at rest.
abbrev pub RequestsAreSerializable : Type 0 → Type 0 → Type 0
RequestsAreSerializable S L =
    (stores : Stores S L) (image : Image) (fuel : ℕ) (batch : List Request) (s : S) (count : ℕ) (events : List Event)
    → LeadsAheadOrToUnit image → KeepsStores image → OfEach HasLabels batch → IsAtRestIn stores image s
    → IsSerializable (request_rules stores image fuel) (IsInvoked stores image fuel) batch s (after_request_events stores image fuel batch s count events)
    × IsAtRestIn stores image (after_request_events stores image fuel batch s count events).store

-- The turns of a batch of requests end: after some number of them all is answered, one request after another, and the store is at rest.
abbrev pub RequestBatchesEnd : Type 0 → Type 0 → Type 0
RequestBatchesEnd S L =
    (stores : Stores S L) (image : Image) (fuel : ℕ) (batch : List Request) (units count : ℕ) (s : S)
    → LeadsAheadOrToUnit image → KeepsStores image → OfEach HasLabels batch → IsAtRestIn stores image s → 0 < units → 0 < count
    → (turns : ℕ) × IsAnsweredIn (request_rules stores image fuel) (IsInvoked stores image fuel) batch units count s turns
    × IsAtRestIn stores image (after_turns (request_rules stores image fuel) batch units count s turns).lanes.store
