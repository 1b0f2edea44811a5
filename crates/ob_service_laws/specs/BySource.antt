-- What a schedule of requests comes to by the source meaning, over stores that may lack room for what a request changes (this project's
-- own).
use Rattle.std.specs.Prelude.{◌≡◌, ℕ, ◌<◌, List}
use Rattle.ob_table.specs.Tables.{ClassTable}
use Rattle.ob_rest_spec.specs.AtRest.{IsStoreAtRest}
use Rattle.ob_invocation_spec.specs.Replies.{Invoked, invoked}
use Rattle.ob_invocation_spec.specs.Requests.{Request, HasLabels}
use Rattle.ob_invocation_spec.specs.SourceInvocation.{source_invocation}
use Rattle.ob_silica_steps.specs.Configurations.{SilicaProgram}
use Rattle.ob_code.specs.declared.image.Image.{Image}
use Rattle.ob_lanes_laws.specs.Schedule.{Event}
use Rattle.ob_lanes_laws.specs.Serial.{IsSerializable}
use Rattle.ob_lanes_laws.specs.Turns.{after_turns}
use Rattle.ob_lanes_laws.specs.Requests.{Stores, Answer, answer_by, store_by, request_rules}
use Rattle.ob_lanes_laws.specs.Laws.{OfEach, IsAnsweredIn, after_request_events}
use Rattle.ob_serve.specs.Kept.{IsSoundFor}

-- What a request comes to on a store by the source meaning, taken alone: the invocation by its class table, of which the store has room
-- for the changes or lacks it.
pub record IsInvokedBySource {S L : Type 0} (stores : Stores S L) (table : ClassTable) (fuel : ℕ) (s : S) (q : Request) (answer : Answer L) (after : S) : Type 0 where
  pub comes_to : Invoked
  pub is : source_invocation table (stores.content_of s) q fuel ≡ invoked comes_to
  pub answer_is : answer ≡ answer_by comes_to.reply (stores.settle s comes_to.content)
  pub after_is : after ≡ store_by s (stores.settle s comes_to.content)

-- a store of a kind is at rest by the class table of a program
abbrev pub RestsIn : {S L : Type 0} → Stores S L → ClassTable → S → Type 0
RestsIn stores table s = IsStoreAtRest table (stores.content_of s)

-- Whatever events come, from every store at rest: replies and changes are those of the source meaning, where the store has room for them,
-- of one request after another in the order of commits; each client's requests are answered in their order; and the store stays at rest.
abbrev pub SchedulesGoAsTheSource : Type 0 → Type 0 → Type 0
SchedulesGoAsTheSource S L =
    (program : SilicaProgram) (image : Image) (stores : Stores S L) (fuel : ℕ) (batch : List Request) (s : S) (count : ℕ) (events : List Event)
    → IsSoundFor program image → OfEach HasLabels batch → RestsIn stores program.table s
    → IsSerializable (request_rules stores image fuel) (IsInvokedBySource stores program.table fuel) batch s (after_request_events stores image fuel batch s count events)
    × RestsIn stores program.table (after_request_events stores image fuel batch s count events).store

-- The turns of a batch of requests end: after some number of them all is answered so, and the store is at rest.
abbrev pub BatchesEndAsTheSource : Type 0 → Type 0 → Type 0
BatchesEndAsTheSource S L =
    (program : SilicaProgram) (image : Image) (stores : Stores S L) (fuel : ℕ) (batch : List Request) (units count : ℕ) (s : S)
    → IsSoundFor program image → OfEach HasLabels batch → RestsIn stores program.table s → 0 < units → 0 < count
    → (turns : ℕ) × IsAnsweredIn (request_rules stores image fuel) (IsInvokedBySource stores program.table fuel) batch units count s turns
    × RestsIn stores program.table (after_turns (request_rules stores image fuel) batch units count s turns).lanes.store
