-- What the laws of locality say (this project's own).
use Rattle.std.specs.Prelude.{◌≡◌, ℕ, ◌<◌, List, length, Contains, Option, Some, ⊤}
use Rattle.ob_heap_spec.specs.Objects.{Object}
use Rattle.ob_heap_spec.specs.Contents.{object_at}
use Rattle.ob_heap_spec.specs.Worlds.{ReadItem, object_item, next_item, World}
use Rattle.ob_code.specs.declared.image.Image.{Image}
use Rattle.ob_machine_steps.specs.Configurations.{Next}
use Rattle.ob_machine_steps.specs.Entries.{MachineEntry, Phase, started, next_step}
use Rattle.ob_machine_steps.specs.Runs.{Stop, after_steps, world_of, run_in}
use Rattle.ob_machine_laws.specs.Laws.{LeadsSo}
use Rattle.ob_request_run_laws.specs.Locality.{Agree, Setting, Alike, next_onto, phase_onto, stop_onto, reads_of_next, reads_of_stop, IsGoodPhase, IsGoodNext, AlikeNext, AlikeStop, ComesThere}

-- a run that has read these items in the end, on a content of so many objects, and on another with these
abbrev pub setting : List ReadItem → ℕ → List Object → Setting
setting items count others = record { items = items; count = count; others = others }

-- One step: the second run has the same step, on objects that are alike again.
pub record StepsAlike (s : Setting) (x : Next) (y : Option Next) : Type 0 where
  pub objects : List Object
  pub same : y ≡ Some (next_onto objects x)
  pub alike : AlikeNext s x objects

-- The same of any number of steps, or of a slice.
pub record StopsAlike (s : Setting) (x : Stop) (y : Option Stop) : Type 0 where
  pub objects : List Object
  pub same : y ≡ Some (stop_onto objects x)
  pub alike : AlikeStop s x objects

-- On each content that agrees on the items that are read, a step leads to the same, with the same reads.
abbrev pub StepsAreLocal : Type 0
StepsAreLocal =
    (image : Image) (count : ℕ) (others : List Object) (p : Phase) (ys : List Object) (x : Next)
    → IsGoodPhase count p → next_step image p ≡ Some x → Alike (setting (reads_of_next x) count others) (world_of p).objects ys
    → StepsAlike (setting (reads_of_next x) count others) x (next_step image (phase_onto ys p))

-- What a run keeps of its content it keeps at each step.
abbrev pub StepsStayGood : Type 0
StepsStayGood = (image : Image) (count : ℕ) (p : Phase) (x : Next) → IsGoodPhase count p → next_step image p ≡ Some x → IsGoodNext count x

-- So any number of steps do,
abbrev pub RunsAreLocal : Type 0
RunsAreLocal =
    (image : Image) (count : ℕ) (others : List Object) (n : ℕ) (p : Phase) (ys : List Object) (x : Stop)
    → IsGoodPhase count p → after_steps image n p ≡ Some x → Alike (setting (reads_of_stop x) count others) (world_of p).objects ys
    → StopsAlike (setting (reads_of_stop x) count others) x (after_steps image n (phase_onto ys p))

-- and slices of so many units.
abbrev pub SlicesAreLocal : Type 0
SlicesAreLocal =
    (image : Image) (count : ℕ) (others : List Object) (n units : ℕ) (p : Phase) (ys : List Object) (x : Stop)
    → IsGoodPhase count p → run_in image n units p ≡ Some x → Alike (setting (reads_of_stop x) count others) (world_of p).objects ys
    → StopsAlike (setting (reads_of_stop x) count others) x (run_in image n units (phase_onto ys p))

-- From its entry on, with the marks of what comes in: on each content that agrees on the items read so far, a run is as far after as
-- many steps, with the same frames, locks, units, reads and end.
abbrev pub EntriesAreLocal : Type 0
EntriesAreLocal =
    (image : Image) (e : MachineEntry) (xs ys : List Object) (fuel n : ℕ) (x : Stop)
    → ComesThere xs e → after_steps image n (started image e xs fuel) ≡ Some x → Agree (reads_of_stop x) xs ys
    → StopsAlike (setting (reads_of_stop x) (length xs) ys) x (after_steps image n (started image e ys fuel))

-- The same of one slice of so many units from its entry on.
abbrev pub EntrySlicesAreLocal : Type 0
EntrySlicesAreLocal =
    (image : Image) (e : MachineEntry) (xs ys : List Object) (fuel n units : ℕ) (x : Stop)
    → ComesThere xs e → run_in image n units (started image e xs fuel) ≡ Some x → Agree (reads_of_stop x) xs ys
    → StopsAlike (setting (reads_of_stop x) (length xs) ys) x (run_in image n units (started image e ys fuel))

-- What a run of a content changes it has read: each of the content's objects, and the next number where it has made one.
pub record HasReadChanges (xs : List Object) (w : World) : Type 0 where
  pub objects : (n : ℕ) → n < length xs → ¬ (Contains w.reads (object_item n)) → object_at w.objects n ≡ object_at xs n
  pub next : 0 < w.made → Contains w.reads next_item

-- Wherever a run is paused, and where it has ended, it has read what it changed and didn't make.
abbrev pub ChangesAreRead : Type 0
ChangesAreRead =
    (image : Image) (e : MachineEntry) (xs : List Object) (fuel n : ℕ)
    → LeadsSo (HasReadChanges xs) (λ s. ⊤) (after_steps image n (started image e xs fuel))
