-- When two contents agree on what a run reads, and the run on other objects (this project's own).
use Rattle.std.specs.Prelude.{◌≡◌, ℕ, ◌+◌, ◌<◌, ◌≤◌, true, List, [], ◌∷◌, length, Contains, ◌⊎◌, Option, Some, None, ⊤}
use Rattle.ob_heap_spec.specs.Objects.{Object}
use Rattle.ob_heap_spec.specs.Contents.{object_at}
use Rattle.ob_heap_spec.specs.Values.{Value, int_value, bool_value, text_value, reference}
use Rattle.ob_heap_spec.specs.Worlds.{ReadItem, object_item, next_item, World}
use Rattle.ob_heap_spec.specs.Marks.{is_among}
use Rattle.ob_machine_steps.specs.Configurations.{MachineFrame, Configuration, End, ended, aborted, Next, goes, stops}
use Rattle.ob_machine_steps.specs.Entries.{MachineEntry, Phase, starting, running}
use Rattle.ob_machine_steps.specs.Runs.{Stop, paused, over, world_of}

-- Agreement.

-- two lists of objects agree on items: the object of each number among them is the same, and so is the next number if it is one
pub record Agree (items : List ReadItem) (xs ys : List Object) : Type 0 where
  pub objects : (n : ℕ) → Contains items (object_item n) → object_at ys n ≡ object_at xs n
  pub next : Contains items next_item → length ys ≡ length xs

-- A run on two contents: the items that it reads in the end, how many objects the first content has, and the second's objects.
pub record Setting : Type 0 where
  pub items : List ReadItem
  pub count : ℕ
  pub others : List Object

-- the object of a number is read in the end, or the run makes it
abbrev pub IsKnown : Setting → ℕ → Type 0
IsKnown s n = Contains s.items (object_item n) ⊎ (Contains s.items next_item × (s.count ≤ n))

-- The objects of a run so far, on the two contents: what is known is the same, any other object is the second content's own, and
-- there are as many if the next number is read.
pub record Alike (s : Setting) (xs ys : List Object) : Type 0 where
  pub known : (n : ℕ) → IsKnown s n → object_at ys n ≡ object_at xs n
  pub others : (n : ℕ) → ¬ (IsKnown s n) → object_at ys n ≡ object_at s.others n
  pub next : Contains s.items next_item → length ys ≡ length xs

-- The same run on other objects: frames, locks, units and reads are its own.

-- a world on other objects
abbrev pub onto : List Object → World → World
onto ys w = record w { objects = ys }

-- a configuration on other objects
abbrev pub configuration_onto : List Object → Configuration → Configuration
configuration_onto ys c = record c { world = onto ys c.world }

-- the end of a run on other objects
abbrev pub end_onto : List Object → End → End
end_onto ys (ended result w) = ended result (onto ys w)
end_onto ys (aborted cause s) = aborted cause s

-- what a step leads to, on other objects
abbrev pub next_onto : List Object → Next → Next
next_onto ys (goes c) = goes (configuration_onto ys c)
next_onto ys (stops e) = stops (end_onto ys e)

-- where a run is, on other objects
abbrev pub phase_onto : List Object → Phase → Phase
phase_onto ys (starting e w) = starting e (onto ys w)
phase_onto ys (running c) = running (configuration_onto ys c)

-- how far a run has come, on other objects
abbrev pub stop_onto : List Object → Stop → Stop
stop_onto ys (paused p) = paused (phase_onto ys p)
stop_onto ys (over e) = over (end_onto ys e)

-- What was read.

-- what a run has read that is over
abbrev pub reads_of_end : End → List ReadItem
reads_of_end (ended result w) = w.reads
reads_of_end (aborted cause s) = s.reads

-- what was read after a step
abbrev pub reads_of_next : Next → List ReadItem
reads_of_next (goes c) = c.world.reads
reads_of_next (stops e) = reads_of_end e

-- what a run has read so far
abbrev pub reads_of_stop : Stop → List ReadItem
reads_of_stop (paused p) = (world_of p).reads
reads_of_stop (over e) = reads_of_end e

-- What every run keeps on a content of so many objects.

-- Objects that aren't the content's were made, the next number was read before the first of them, and what has a transaction in
-- progress is there.
pub record IsGood (count : ℕ) (w : World) : Type 0 where
  pub objects : length w.objects ≡ count + w.made
  pub next : 0 < w.made → Contains w.reads next_item
  pub progress : (n : ℕ) → is_among n w.progress ≡ true → n < length w.objects

-- the object of a number isn't the content's, or was read
abbrev pub IsTold : ℕ → List ReadItem → ℕ → Type 0
IsTold count reads n = (count ≤ n) ⊎ Contains reads (object_item n)

-- the same of the object of each frame
abbrev pub AreTold : ℕ → List ReadItem → List MachineFrame → Type 0
AreTold count reads [] = ⊤
AreTold count reads (f ∷ fs) = IsTold count reads f.this × AreTold count reads fs

-- the same of a configuration, with its world
abbrev pub IsGoodConfiguration : ℕ → Configuration → Type 0
IsGoodConfiguration count c = IsGood count c.world × AreTold count c.world.reads (c.top ∷ c.below)

-- the same of the end of a run; an abort leaves no world
abbrev pub IsGoodEnd : ℕ → End → Type 0
IsGoodEnd count (ended result w) = IsGood count w
IsGoodEnd count (aborted cause s) = ⊤

-- the same of what a step leads to
abbrev pub IsGoodNext : ℕ → Next → Type 0
IsGoodNext count (goes c) = IsGoodConfiguration count c
IsGoodNext count (stops e) = IsGoodEnd count e

-- the same of where a run is
abbrev pub IsGoodPhase : ℕ → Phase → Type 0
IsGoodPhase count (starting e w) = IsGood count w
IsGoodPhase count (running c) = IsGoodConfiguration count c

-- the same of how far a run has come
abbrev pub IsGoodStop : ℕ → Stop → Type 0
IsGoodStop count (paused p) = IsGoodPhase count p
IsGoodStop count (over e) = IsGoodEnd count e

-- the objects at an end are alike; an abort leaves none
abbrev pub AlikeEnd : Setting → End → List Object → Type 0
AlikeEnd s (ended result w) ys = Alike s w.objects ys
AlikeEnd s (aborted cause t) ys = ⊤

-- the same after a step
abbrev pub AlikeNext : Setting → Next → List Object → Type 0
AlikeNext s (goes c) ys = Alike s c.world.objects ys
AlikeNext s (stops e) ys = AlikeEnd s e ys

-- the same of how far a run has come
abbrev pub AlikeStop : Setting → Stop → List Object → Type 0
AlikeStop s (paused p) ys = Alike s (world_of p).objects ys
AlikeStop s (over e) ys = AlikeEnd s e ys

-- Entries.

-- a value refers to one of these objects, or to none
abbrev pub IsThere : List Object → Value → Type 0
IsThere xs (int_value z) = ⊤
IsThere xs (bool_value b) = ⊤
IsThere xs (text_value bytes) = ⊤
IsThere xs (reference n) = n < length xs

-- so do all these values
abbrev pub AreThere : List Object → List Value → Type 0
AreThere xs [] = ⊤
AreThere xs (v ∷ vs) = IsThere xs v × AreThere xs vs

-- the object of a receiver is one of these, if there is a receiver
abbrev pub IsReceiverThere : List Object → Option ℕ → Type 0
IsReceiverThere xs None = ⊤
IsReceiverThere xs (Some n) = n < length xs

-- what an entry comes with is there: its receiver, and what its arguments refer to
pub record ComesThere (xs : List Object) (e : MachineEntry) : Type 0 where
  pub receiver : IsReceiverThere xs e.receiver
  pub args : AreThere xs e.args
