-- How a file is taken as a disk.
use Rattle.std.specs.Prelude.{ℕ, ◌≡◌, ◌≢◌, ◌<◌, Bool, true, false, List, [], ◌∷◌, ◌++◌, ⊤, Option, Some, codes}
use Rattle.ob_io_std.specs.Calls.{Call, kind_of, opened, kind, identity, descriptor, identity_of, locked, folder_synced, measured, read, written, synced}
use Rattle.ob_io_std.specs.declared.system.Access.{Access}
use Rattle.ob_io_std.specs.declared.system.Identity.{Identity}

-- The name was looked up, and means no device, pipe or folder: a regular file, or none.
abbrev pub IsNoneElse : List ℕ → List Call → Type 0
IsNoneElse name calls = (seen : Option Bool) × (seen ≢ Some false) × (calls ≡ kind_of name seen ∷ [])

-- So the file was opened, and this is a regular one.
abbrev pub IsOpened : List ℕ → Access → Identity → List Call → Type 0
IsOpened name access own calls =
    (before : List Call) × IsNoneElse name before × (calls ≡ before ++ (opened name access ∷ kind true ∷ identity own ∷ []))

-- the standard input, output and error of this run, by their names in /proc
abbrev pub streams : List (List ℕ)
streams = codes "/proc/self/fd/0" ∷ codes "/proc/self/fd/1" ∷ codes "/proc/self/fd/2" ∷ []

-- These names were looked up, one by one: each means another file than this one, or none.
abbrev pub MeanOthers : Identity → List (List ℕ) → List Call → Type 0
MeanOthers own [] calls = calls ≡ []
MeanOthers own (name ∷ names) calls =
    (found : Option Identity) × (rest : List Call) × (calls ≡ identity_of name found ∷ rest) × (found ≢ Some own) × MeanOthers own names rest

-- The number of the file is above those of the three streams, and by some name /proc tells the file as one that this run has open.
pub record IsNumbered (own : Identity) (calls : List Call) : Type 0 where
  pub number : ℕ
  pub name : List ℕ
  pub is_above : 2 < number
  pub is : calls ≡ descriptor number ∷ identity_of name (Some own) ∷ []

-- The file is none that this run has or names beside it: it is numbered so, and no stream and none of the other names means it.
pub record IsApart (others : List (List ℕ)) (own : Identity) (calls : List Call) : Type 0 where
  pub first : List Call
  pub second : List Call
  pub third : List Call
  pub is_numbered : IsNumbered own first
  pub is_no_stream : MeanOthers own streams second
  pub is_no_other : MeanOthers own others third
  pub is : calls ≡ first ++ (second ++ third)

-- The file was locked, then its name still meant it, and at last the names in its folder were brought to the disk.
abbrev pub IsHeld : List ℕ → Identity → List Call → Type 0
IsHeld name own calls = calls ≡ locked ∷ identity_of name (Some own) ∷ folder_synced name ∷ []

-- These calls take the file of a name: it is opened, and is one of its own, and is held.
pub record IsTaken (name : List ℕ) (access : Access) (others : List (List ℕ)) (calls : List Call) : Type 0 where
  pub own : Identity
  pub first : List Call
  pub second : List Call
  pub third : List Call
  pub is_opened : IsOpened name access own first
  pub is_apart : IsApart others own second
  pub is_held : IsHeld name own third
  pub is : calls ≡ first ++ (second ++ third)

-- whether a call neither reads nor writes the file, nor asks its length, nor syncs it
abbrev pub IsLook : Call → Type 0
IsLook (kind_of name seen) = ⊤
IsLook (opened name access) = ⊤
IsLook (kind regular) = ⊤
IsLook (identity own) = ⊤
IsLook (descriptor number) = ⊤
IsLook (identity_of name found) = ⊤
IsLook locked = ⊤
IsLook (folder_synced name) = ⊤
IsLook (measured count) = ⊥
IsLook (read at bytes) = ⊥
IsLook (written at bytes) = ⊥
IsLook synced = ⊥

-- each of these calls is such a one
abbrev pub AreLooks : List Call → Type 0
AreLooks [] = ⊤
AreLooks (call ∷ calls) = IsLook call × AreLooks calls
