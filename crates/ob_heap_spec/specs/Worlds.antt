-- The world on which a run works, and how a run ends (this project's own).
use Rattle.std.specs.Prelude.{◌≡◌, ℕ, zero, suc, ◌+◌, Bool, true, false, nat_le, List, [], ◌∷◌, ◌++◌, length, slice_set, Contains, Option, Some, None, if◌then◌else◌}
use Rattle.std.specs.Option.{option_map_or}
use Rattle.ob_base.specs.declared.id.StateId.{StateId}
use Rattle.ob_heap_spec.specs.Objects.{Object}
use Rattle.ob_heap_spec.specs.Contents.{HandleName, object_at}

-- What can be read of a store: the object of a number; which number is the next; what a client's name for a handle
-- denotes; whether there are as many handles as there may be. A body reads only the first two: the two of handles are
-- read by an invocation, before its body runs and after it.
pub data ReadItem : Type 0 where
  object_item : ℕ → ReadItem
  next_item : ReadItem
  handle_item : HandleName → ReadItem
  handles_full_item : ReadItem

-- The world of a run: the objects, of which the run has made the last ones, the numbers of those that are locked, and of
-- those that have a transaction in progress, the units that it has left and has taken, and what it has read. What came
-- last stands first in these lists. There is no list of what it has changed: that is where its objects differ from those
-- at its start.
pub record World : Type 0 where
  pub objects : List Object
  pub made : ℕ
  pub locked : List ℕ
  pub progress : List ℕ
  pub fuel : ℕ
  pub taken : ℕ
  pub reads : List ReadItem

-- the world at the start of a run with so many units
abbrev pub first_world : List Object → ℕ → World
first_world objects fuel = record {
  objects = objects;
  made = 0;
  locked = [];
  progress = [];
  fuel = fuel;
  taken = 0;
  reads = [];
}

-- why a run aborts: by `revert`, with its text; by the state of the object of a number, and by which one where a request
-- finds its object outside the declared ones; by a call of an object that has a transaction in progress; by a result
-- that is no `int`, of an operator on a line; since no unit is left; since there are as many objects as there may be
pub data AbortCause : Type 0 where
  by_revert : List ℕ → AbortCause
  by_state : ℕ → Option StateId → AbortCause
  by_reentry : ℕ → AbortCause
  by_overflow : ℕ → AbortCause
  by_fuel : AbortCause
  by_full : AbortCause

-- what is told of a run that aborts beside the cause: the units that it has taken, and what it has read
pub record Spent : Type 0 where
  pub taken : ℕ
  pub reads : List ReadItem

-- what a run has spent so far
abbrev pub spent : World → Spent
spent w = record { taken = w.taken; reads = w.reads }

-- how a part of a run ends: it gives a thing, and the world after it; it aborts, and leaves the cause and what it has
-- spent, and no world; it goes wrong
pub data RunOutcome (A : Type 0) : Type 0 where
  gives : A → World → RunOutcome A
  aborts : AbortCause → Spent → RunOutcome A
  wrong : RunOutcome A

-- an abort in a world
abbrev pub abort : {A : Type 0} → AbortCause → World → RunOutcome A
abort cause w = aborts cause (spent w)

-- a part, and then what follows from what it gives
infixl 10 ◌>>=◌
abbrev pub ◌>>=◌ : {A B : Type 0} → RunOutcome A → (A → World → RunOutcome B) → RunOutcome B
(gives a w) >>= go = go a w
(aborts cause s) >>= go = aborts cause s
wrong >>= go = wrong

-- what follows where a test holds; else the run goes wrong
abbrev pub if_right : {A : Type 0} → Bool → RunOutcome A → RunOutcome A
if_right true go = go
if_right false go = wrong

-- what follows where there is a thing; else the run goes wrong
abbrev pub with_some : {A B : Type 0} → Option A → (A → RunOutcome B) → RunOutcome B
with_some None go = wrong
with_some (Some a) go = go a

-- what follows, unless a test holds: then the run aborts
abbrev pub unless_aborted : {A : Type 0} → Bool → AbortCause → World → RunOutcome A → RunOutcome A
unless_aborted true cause w go = abort cause w
unless_aborted false cause w go = go

-- Units.

-- the world with so many units left, one more having been taken
abbrev pub with_unit_taken : World → ℕ → World
with_unit_taken w n = record w { fuel = n; taken = suc w.taken }

-- what follows where so many units are left, at least one; where none is left the run aborts
abbrev pub with_fuel : {A : Type 0} → ℕ → World → (World → RunOutcome A) → RunOutcome A
with_fuel zero w go = abort by_fuel w
with_fuel (suc n) w go = go (with_unit_taken w n)

-- a unit is taken at the start of what follows
abbrev pub unit : {A : Type 0} → World → (World → RunOutcome A) → RunOutcome A
unit w go = with_fuel w.fuel w go

-- Reads.

-- whether the run has made the object of a number
abbrev pub is_made : World → ℕ → Bool
is_made w n = nat_le (length w.objects) (n + w.made)

-- the world in which this was read too
abbrev pub with_read : World → ReadItem → World
with_read w item = record w { reads = item ∷ w.reads }

-- an object is read; one that the run has made counts for nothing
abbrev pub read_object : World → ℕ → World
read_object w n = if is_made w n then w else with_read w (object_item n)

-- What two runs have read.

-- what was read the one time was read the other time too
abbrev pub AllRead : List ReadItem → List ReadItem → Type 0
AllRead first second = (item : ReadItem) → Contains first item → Contains second item

-- the same items were read both times; in which order, and how often, doesn't count
abbrev pub ReadSame : List ReadItem → List ReadItem → Type 0
ReadSame first second = AllRead first second × AllRead second first

-- two worlds are the same but for the order in which items were read, and how often
pub record SameWorld (w v : World) : Type 0 where
  pub objects : v.objects ≡ w.objects
  pub made : v.made ≡ w.made
  pub locked : v.locked ≡ w.locked
  pub progress : v.progress ≡ w.progress
  pub fuel : v.fuel ≡ w.fuel
  pub taken : v.taken ≡ w.taken
  pub reads : ReadSame w.reads v.reads

-- two aborted runs have taken as many units, and have read the same items
pub record SameSpent (s t : Spent) : Type 0 where
  pub taken : t.taken ≡ s.taken
  pub reads : ReadSame s.reads t.reads

-- Objects.

-- the object of a number becomes this one
abbrev pub set_object : World → ℕ → Object → World
set_object w n o = record w { objects = slice_set w.objects n o }

-- the object of a number becomes what f makes of it
abbrev pub edit_object : (Object → Object) → ℕ → World → World
edit_object f n w = option_map_or (λ o. set_object w n (f o)) (object_at w.objects n) w

-- an object is made, with the next number
abbrev pub make_object : World → Object → World
make_object w o = record w { objects = w.objects ++ o ∷ []; made = suc w.made }

-- what follows from the object of a number; where there is none the run goes wrong
abbrev pub with_object : {A : Type 0} → World → ℕ → (Object → RunOutcome A) → RunOutcome A
with_object w n go = with_some (object_at w.objects n) go
