-- The laws of the machine's steps (this project's own).
use Rattle.std.specs.Prelude.{◌≡◌, ℕ, suc, ◌+◌, ◌*◌, ◌<◌, ◌≤◌, true, false, List, [], ◌∷◌, ◌++◌, length, Contains, ◌⊎◌, Option, Some, None, option_map, slice_get, bytes_eq, ⊤}
use Rattle.ob_base.specs.declared.id.ContractId.{ContractId}
use Rattle.ob_base.specs.declared.id.StateId.{StateId}
use Rattle.ob_table.specs.Tables.{contract_at}
use Rattle.ob_heap_spec.specs.Dispatch.{transaction_named}
use Rattle.ob_heap_spec.specs.Objects.{Object, has_field, is_in_state}
use Rattle.ob_heap_spec.specs.Marks.{is_among, without_first}
use Rattle.ob_heap_spec.specs.Worlds.{ReadItem, object_item, World, Spent, SameWorld, SameSpent}
use Rattle.ob_source_laws.specs.Laws.{Grows, KeepsObjects, KeepsUnread}
use Rattle.ob_code.specs.declared.image.BodyCode.{BodyCode}
use Rattle.ob_code.specs.declared.image.ContractCode.{ContractCode}
use Rattle.ob_code.specs.declared.image.Image.{Image}
use Rattle.ob_code.specs.Code.{is_constructor, contract_code}
use Rattle.ob_code_table.specs.Images.{transaction_number, has_field_code, is_in_state_of}
use Rattle.ob_code_table.specs.ImageTables.{contract_of_code, table_of_image}
use Rattle.ob_machine_steps.specs.Configurations.{MachineFrame, Configuration, End, ended, aborted, Next, goes, stops}
use Rattle.ob_machine_steps.specs.Entries.{MachineEntry, Phase, entry_world, starting, running, next_step, HasStep}
use Rattle.ob_machine_steps.specs.Runs.{Stop, paused, over, after_steps, GoesNoFurther, world_of, run_in, Slices, IsSoundIn}
use Rattle.ob_machine_steps.specs.Measures.{longest, steps_left, LeadsAheadOrToUnit}
use Rattle.ob_machine_steps.specs.Outcomes.{outcome_of, outcome}

-- Slices.

-- Two slices one after another are one slice of the sum.
abbrev pub SlicesAddUp : Type 0
SlicesAddUp =
    (image : Image) (m n : ℕ) (p q : Phase) (s : Stop)
    → Slices image m p (paused q) → Slices image n q s → Slices image (m + n) p s

-- Where a slice stops with the run, that is what the run comes to.
abbrev pub SlicesEndAsRuns : Type 0
SlicesEndAsRuns =
    (image : Image) (units : ℕ) (p : Phase) (end : End)
    → LeadsAheadOrToUnit image → Slices image units p (over end) → outcome image p ≡ outcome_of end

-- A slice of as many units as the run has left never waits for one.
abbrev pub WholeSlicesEnd : Type 0
WholeSlicesEnd = (image : Image) (units : ℕ) (p q : Phase) → (world_of p).fuel ≤ units → ¬ (Slices image units p (paused q))

-- The end.

-- Each step lowers the measure.
abbrev pub StepsLowerTheMeasure : Type 0
StepsLowerTheMeasure =
    (image : Image) (p : Phase) (d : Configuration)
    → LeadsAheadOrToUnit image → next_step image p ≡ Some (goes d) → steps_left image (running d) < steps_left image p

-- After more steps than the measure a run goes no further.
abbrev pub RunsGoNoFurther : Type 0
RunsGoNoFurther =
    (image : Image) (p : Phase) (n : ℕ)
    → LeadsAheadOrToUnit image → steps_left image p < n → GoesNoFurther (after_steps image n p)

-- Wherever a run is paused it has a next step.
pub record IsSoundRun (image : Image) (p : Phase) : Type 0 where
  pub at : (n : ℕ) (q : Phase) → after_steps image n p ≡ Some (paused q) → HasStep image q

-- a run is over after so many steps
pub record IsOverAfter (image : Image) (n : ℕ) (p : Phase) : Type 0 where
  pub end : End
  pub by : after_steps image n p ≡ Some (over end)

-- A run that has a next step wherever it is, is over after at most as many steps as its measure says.
abbrev pub RunsEnd : Type 0
RunsEnd = (image : Image) (p : Phase) → LeadsAheadOrToUnit image → IsSoundRun image p → IsOverAfter image (steps_left image p) p

-- Such a run from an entry is over after at most (units + 2) * n steps, where n > 0 is the number of instructions of the longest
-- body.
abbrev pub EntriesEnd : Type 0
EntriesEnd =
    (image : Image) (e : MachineEntry) (w : World) → LeadsAheadOrToUnit image → 0 < longest image
    → IsSoundRun image (starting e w) → IsOverAfter image (suc (suc w.fuel) * longest image) (starting e w)

-- What was read before.

-- the world in which these items were read before all others
abbrev pub read_before : List ReadItem → World → World
read_before items w = record w { reads = w.reads ++ items }

-- the same of a run
abbrev pub phase_before : List ReadItem → Phase → Phase
phase_before items (starting e w) = starting e (read_before items w)
phase_before items (running c) = running (record c { world = read_before items c.world })

-- the same of the end of a run
abbrev pub end_before : List ReadItem → End → End
end_before items (ended result w) = ended result (read_before items w)
end_before items (aborted cause s) = aborted cause (record s { reads = s.reads ++ items })

-- the same of what a step leads to
abbrev pub next_before : List ReadItem → Next → Next
next_before items (goes c) = goes (record c { world = read_before items c.world })
next_before items (stops end) = stops (end_before items end)

-- the same of where a slice stops
abbrev pub stop_before : List ReadItem → Stop → Stop
stop_before items (paused p) = paused (phase_before items p)
stop_before items (over end) = over (end_before items end)

-- No step looks at what was read: where more was read before, it leads to the same, and more was read before that.
abbrev pub StepsIgnoreReads : Type 0
StepsIgnoreReads =
    (image : Image) (items : List ReadItem) (p : Phase)
    → next_step image (phase_before items p) ≡ option_map (next_before items) (next_step image p)

-- No slice does.
abbrev pub SlicesIgnoreReads : Type 0
SlicesIgnoreReads =
    (image : Image) (items : List ReadItem) (n units : ℕ) (p : Phase)
    → run_in image n units (phase_before items p) ≡ option_map (stop_before items) (run_in image n units p)

-- two configurations are the same but for the order in which items were read, and how often
pub record SameConfiguration (c d : Configuration) : Type 0 where
  pub top : d.top ≡ c.top
  pub below : d.below ≡ c.below
  pub world : SameWorld c.world d.world

-- the same of two runs
abbrev pub SamePhase : Phase → Phase → Type 0
SamePhase (starting e w) (starting f v) = (f ≡ e) × SameWorld w v
SamePhase (running c) (running d) = SameConfiguration c d
SamePhase p q = ⊥

-- the same of the ends of two runs
abbrev pub SameEnd : End → End → Type 0
SameEnd (ended result w) (ended other v) = (other ≡ result) × SameWorld w v
SameEnd (aborted cause s) (aborted other t) = (other ≡ cause) × SameSpent s t
SameEnd x y = ⊥

-- the same of what two steps lead to
abbrev pub SameNext : Option Next → Option Next → Type 0
SameNext None None = ⊤
SameNext (Some (goes c)) (Some (goes d)) = SameConfiguration c d
SameNext (Some (stops x)) (Some (stops y)) = SameEnd x y
SameNext m n = ⊥

-- Two runs that have read the same items, in whatever order and however often, and are else the same, have the same next step.
abbrev pub SameReadsSameSteps : Type 0
SameReadsSameSteps =
    (image : Image) (p q : Phase) → SamePhase p q → SameNext (next_step image p) (next_step image q)

-- the same of where two slices stop
abbrev pub SameStop : Option Stop → Option Stop → Type 0
SameStop None None = ⊤
SameStop (Some (paused p)) (Some (paused q)) = SamePhase p q
SameStop (Some (over x)) (Some (over y)) = SameEnd x y
SameStop s t = ⊥

-- Slices of two such runs, with as many units, stop in the same way.
abbrev pub SameReadsSameSlices : Type 0
SameReadsSameSlices =
    (image : Image) (n units : ℕ) (p q : Phase) → SamePhase p q → SameStop (run_in image n units p) (run_in image n units q)

-- What is kept.

-- where steps lead to a world, the first holds of it; where the run has aborted, the second of what it has spent
abbrev pub LeadsSo : (World → Type 0) → (Spent → Type 0) → Option Stop → Type 0
LeadsSo P Q None = ⊤
LeadsSo P Q (Some (paused p)) = P (world_of p)
LeadsSo P Q (Some (over (ended result w))) = P w
LeadsSo P Q (Some (over (aborted cause s))) = Q s

-- After any number of steps, units left and units taken add up to those that were there; an aborted run has taken no more than were
-- there.
abbrev pub UnitsAddUp : Type 0
UnitsAddUp =
    (image : Image) (n : ℕ) (p : Phase)
    → LeadsSo (λ v. v.fuel + v.taken ≡ (world_of p).fuel + (world_of p).taken) (λ s. s.taken ≤ (world_of p).fuel + (world_of p).taken)
    (after_steps image n p)

-- What was read stays read, also where the run aborts.
abbrev pub ReadsGrow : Type 0
ReadsGrow =
    (image : Image) (n : ℕ) (p : Phase)
    → LeadsSo (λ v. Grows (world_of p).reads v.reads) (λ s. Grows (world_of p).reads s.reads) (after_steps image n p)

-- No object goes away or becomes one of another contract, no mark is taken off, and what is made comes after all that was there.
abbrev pub ObjectsStay : Type 0
ObjectsStay = (image : Image) (n : ℕ) (p : Phase) → LeadsSo (KeepsObjects (world_of p)) (λ s. ⊤) (after_steps image n p)

-- the run has made or read the object of a number
abbrev pub IsTold : World → ℕ → Type 0
IsTold w n = (length w.objects ≤ n + w.made) ⊎ Contains w.reads (object_item n)

-- the same of the object of each frame
abbrev pub AreTold : World → List MachineFrame → Type 0
AreTold w [] = ⊤
AreTold w (f ∷ fs) = IsTold w f.this × AreTold w fs

-- the same of all frames of a run; at its start there is none
abbrev pub HasToldFrames : Phase → Type 0
HasToldFrames (starting e w) = ⊤
HasToldFrames (running c) = AreTold c.world (c.top ∷ c.below)

-- What a run changes it has made or read.
abbrev pub UnreadStay : Type 0
UnreadStay =
    (image : Image) (n : ℕ) (p : Phase) → HasToldFrames p
    → LeadsSo (KeepsUnread None (world_of p)) (λ s. ⊤) (after_steps image n p)

-- So it has of each frame's object, wherever it is paused.
abbrev pub FramesStayTold : Type 0
FramesStayTold =
    (image : Image) (n : ℕ) (p q : Phase) → HasToldFrames p → after_steps image n p ≡ Some (paused q) → HasToldFrames q

-- a list has each number at most once: without its first, none is left
pub record HasEachOnce (ns : List ℕ) : Type 0 where
  pub once : (n : ℕ) → is_among n (without_first n ns) ≡ false

-- no object is locked twice, and none has two transactions in progress
pub record LocksOnce (w : World) : Type 0 where
  pub locked : HasEachOnce w.locked
  pub progress : HasEachOnce w.progress

-- So it stays after any number of steps: locks and transactions in progress are sets.
abbrev pub LocksAreSets : Type 0
LocksAreSets = (image : Image) (n : ℕ) (p : Phase) → LocksOnce (world_of p) → LeadsSo LocksOnce (λ s. ⊤) (after_steps image n p)

-- So it is where the run of an entry begins.
abbrev pub EntriesLockOnce : Type 0
EntriesLockOnce = (image : Image) (e : MachineEntry) (objects : List Object) (fuel : ℕ) → LocksOnce (entry_world image e objects fuel)

-- Soundness.

-- A run that always has a next step has one wherever a slice of it goes on, and goes on so where a slice of it is paused.
abbrev pub SoundRunsAreSoundInSlices : Type 0
SoundRunsAreSoundInSlices =
    (image : Image) (units : ℕ) (p : Phase) → IsSoundRun image p → IsSoundIn image units p

-- and so is what is left of it where a slice pauses
abbrev pub PausedRunsAreSound : Type 0
PausedRunsAreSound =
    (image : Image) (units : ℕ) (p q : Phase) → IsSoundRun image p → Slices image units p (paused q) → IsSoundRun image q

-- The class table of an image.

-- What the class table of an image has at a number, which fields an object has, and in which state it is seen, is as the image
-- says it.
abbrev pub ContractsAgree : Type 0
ContractsAgree =
    (image : Image) (id : ContractId) → contract_at (table_of_image image) id ≡ option_map contract_of_code (contract_code image id)

-- which fields a contract has in a state is the same by both
abbrev pub FieldsAgree : Type 0
FieldsAgree =
    (c : ContractCode) (state : Option StateId) (k : ℕ) → has_field (contract_of_code c) state k ≡ has_field_code c state k

-- and as which state an object's is seen
abbrev pub StatesAgree : Type 0
StatesAgree =
    (image : Image) (declared : ContractId) (s : StateId) (o : Object)
    → is_in_state (table_of_image image) declared s o ≡ is_in_state_of image declared s o

-- no constructor of a contract has this name; a constructor's own is empty
pub record IsUnnamed (c : ContractCode) (name : List ℕ) : Type 0 where
  pub of : (k : ℕ) (b : BodyCode) → slice_get c.bodies k ≡ Some b → is_constructor b ≡ true → bytes_eq name b.name ≡ false

-- The first transaction of a name is the same, where no constructor has that name.
abbrev pub NamesAgree : Type 0
NamesAgree =
    (c : ContractCode) (name : List ℕ) → IsUnnamed c name
    → transaction_named (contract_of_code c) name ≡ transaction_number c name
