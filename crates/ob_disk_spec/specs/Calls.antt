-- Which calls are made of a disk (this project's own).
use Rattle.std.specs.Prelude.{ℕ, ◌≡◌, ◌+◌, ◌-◌, ◌^◌, ◌⊎◌, ◌↔◌, min, List, [], ◌∷◌, ◌++◌, Some, Result, Ok, Err}
use Rattle.ob_disk_spec.specs.Disk.{Attach, DiskView}

-- The disk of this name was attached, once, and no other was: where it is told which were, it was told so far, and this one comes
-- behind them, with how many other calls there had been.
abbrev pub IsAttached : DiskView → DiskView → List ℕ → Type 0
IsAttached old new name =
    (all : List Attach) → new.attaches ≡ Some all
    → (before : List Attach) × (old.attaches ≡ Some before) × (all ≡ before ++ record { name = name; calls = old.calls } ∷ [])

-- What attaching a disk notes. Where it failed, it may be that nothing was noted.
abbrev pub NotesAttach : {T E : Type 0} → DiskView → DiskView → List ℕ → Result T E → Type 0
NotesAttach old new name (Ok done) = IsAttached old new name
NotesAttach old new name (Err error) = IsAttached old new name ⊎ (new.attaches ≡ old.attaches)

-- one call more was made, up to the end of 64 bits
abbrev pub IsOneMore : ℕ → ℕ → Type 0
IsOneMore before now = now ≡ min (before + 1) (2 ^ 64 - 1)

-- No call was made: all that a disk tells is as it was.
pub record IsUntouched (old new : DiskView) : Type 0 where
  pub content : new.content ≡ old.content
  pub images : (c : List ℕ) → new.now c ↔ old.now c
  pub since : (t : ℕ) (c : List ℕ) → new.since t c ↔ old.since t c
  pub clock : new.clock ≡ old.clock
  pub faults : new.faults ≡ old.faults
  pub attaches : new.attaches ≡ old.attaches
  pub calls : new.calls ≡ old.calls
