-- The calls of the system that are made of the file of a disk, in their order. A call that fails has done nothing, and is none of
-- these; but of a name that is looked up it is told that it wasn't found.
use Rattle.std.specs.Prelude.{ℕ, ◌≡◌, Bool, List, [], ◌∷◌, ◌++◌, ⊤, Option, None, Some, Result, Ok, Err}
use Rattle.ob_io_std.specs.declared.system.Access.{Access}
use Rattle.ob_io_std.specs.declared.system.Identity.{Identity}

-- what was done, and what was answered
pub data Call : Type 0 where
  -- whether the file of a name is a regular one; None where no such file was found
  kind_of : List ℕ → Option Bool → Call
  -- the file of a name was opened, to be read alone or to be written too
  opened : List ℕ → Access → Call
  -- whether the open file is a regular one
  kind : Bool → Call
  -- which file it is
  identity : Identity → Call
  -- the number under which it is open
  descriptor : ℕ → Call
  -- which file a name means; None where no such file was found
  identity_of : List ℕ → Option Identity → Call
  -- the file was locked
  locked : Call
  -- the names in the folder of the file of this name were brought to the disk
  folder_synced : List ℕ → Call
  -- how many bytes it has
  measured : ℕ → Call
  -- from an offset on these bytes were read
  read : ℕ → List ℕ → Call
  -- from an offset on these bytes were written
  written : ℕ → List ℕ → Call
  -- what was written was brought to the disk
  synced : Call

-- The calls so far are the old ones and then these. Where they are observable they may stop to be, and then aren't any more.
abbrev pub Adds : Option (List Call) → Option (List Call) → List Call → Type 0
Adds old None calls = ⊤
Adds None (Some now) calls = ⊥
Adds (Some before) (Some now) calls = now ≡ before ++ calls

-- some calls were made, and this holds of them
abbrev pub AddsSome : Option (List Call) → Option (List Call) → (List Call → Type 0) → Type 0
AddsSome old new P = (calls : List Call) × P calls × Adds old new calls

-- one call was made; where it answered `Ok` it did this
abbrev pub Does : {T E : Type 0} → Option (List Call) → Option (List Call) → Result T E → (T → Call) → Type 0
Does old new (Ok value) call = Adds old new (call value ∷ [])
Does old new (Err error) call = Adds old new []

-- one look at a name was made, and this was found
abbrev pub Finds : {T E : Type 0} → Option (List Call) → Option (List Call) → Result T E → (Option T → Call) → Type 0
Finds old new (Ok value) call = Adds old new (call (Some value) ∷ [])
Finds old new (Err error) call = Adds old new (call None ∷ [])
