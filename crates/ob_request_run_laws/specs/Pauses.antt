-- What the laws of paused runs say (this project's own).
use Rattle.std.specs.Prelude.{◌≡◌, ◌<◌, ℕ, ◌+◌, List, ◌++◌, length, Some, ⊤}
use Rattle.std.specs.List.{sum}
use Rattle.ob_heap_spec.specs.Contents.{Content, object_at}
use Rattle.ob_heap_spec.specs.Objects.{Object}
use Rattle.ob_heap_spec.specs.Worlds.{ReadItem}
use Rattle.ob_invocation_spec.specs.Requests.{Request}
use Rattle.ob_code.specs.declared.image.Image.{Image}
use Rattle.ob_machine_steps.specs.Entries.{MachineEntry, Phase, started}
use Rattle.ob_machine_steps.specs.Measures.{LeadsAheadOrToUnit}
use Rattle.ob_machine_steps.specs.Runs.{after_steps, world_of}
use Rattle.ob_machine_laws.specs.Laws.{LeadsSo}
use Rattle.ob_request_run_laws.specs.Held.{Held, found, held_by, laid_over}
use Rattle.ob_request_run_laws.specs.Laws.{AgreeOn}
use Rattle.ob_request_run_laws.specs.Runs.{Run, opened, paused, taken_by_run}
use Rattle.ob_request_run_laws.specs.Slices.{slice, slices}

-- What is taken off a run is all that it has changed and made: laid over its content it gives the run's objects, wherever it is paused,
-- and where it has ended.
abbrev pub HeldIsLaidBack : Type 0
HeldIsLaidBack =
    (image : Image) (e : MachineEntry) (objects : List Object) (fuel n : ℕ)
    → LeadsSo (λ w. laid_over objects (held_by w) ≡ w.objects) (λ s. ⊤) (after_steps image n (started image e objects fuel))

-- What a run of the first content has and hasn't changed is the second content's.
pub record IsOfTheMoment (c d : Content) (h : Held) : Type 0 where
  pub held : (n : ℕ) (o : Object) → found n h.read ≡ Some o → object_at c.objects n ≡ Some o → object_at d.objects n ≡ Some o
  pub laid : (n : ℕ) → n < length c.objects → object_at (laid_over c.objects h) n ≡ object_at c.objects n
      → object_at (laid_over d.objects h) n ≡ object_at d.objects n

-- Nothing but its changes is kept of an earlier store: what a paused run has and hasn't changed is what each content has that agrees on the
-- items read so far.
abbrev pub UnchangedIsOfTheMoment : Type 0
UnchangedIsOfTheMoment =
    (image : Image) (fuel : ℕ) (c d : Content) (q : Request) (units : List ℕ) (reads : List ReadItem) (p : Phase) (h : Held)
    → LeadsAheadOrToUnit image → slices image fuel c units (opened q) ≡ paused q reads p h → AgreeOn ((world_of p).reads ++ reads) c d
    → IsOfTheMoment c d h

-- A slice that doesn't end a run takes just its units, on whatever content.
abbrev pub SlicesTakeTheirUnits : Type 0
SlicesTakeTheirUnits =
    (image : Image) (fuel : ℕ) (c : Content) (units : ℕ) (r : Run) (q : Request) (reads : List ReadItem) (p : Phase) (h : Held)
    → slice image fuel c units r ≡ paused q reads p h → (world_of p).taken ≡ taken_by_run r + units

-- So a run that is paused has taken just the units of its slices.
abbrev pub PausedRunsTookTheirUnits : Type 0
PausedRunsTookTheirUnits =
    (image : Image) (fuel : ℕ) (c : Content) (q : Request) (units : List ℕ) (reads : List ReadItem) (p : Phase) (h : Held)
    → slices image fuel c units (opened q) ≡ paused q reads p h → (world_of p).taken ≡ sum units
