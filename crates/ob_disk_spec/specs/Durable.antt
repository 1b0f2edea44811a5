-- What is said of a disk and of each crash image of it together.
use Rattle.std.specs.Prelude.{ℕ, ◌≡◌, ◌⊎◌, List, drop}
use Rattle.ob_disk_spec.specs.Disk.{DiskView, Reads, After, Torn, LeavesOnly}

-- what a read gives, where it is observable, or a crash image
abbrev pub May : DiskView → List ℕ → Type 0
May v c = Reads v c ⊎ v.now c

-- the disk as it reads and each crash image of it have P
pub record Throughout (v : DiskView) (P : List ℕ → Type 0) : Type 0 where
  pub content : (c : List ℕ) → Reads v c → P c
  pub images : (c : List ℕ) → v.now c → P c

-- Between two moments, the last of them counted in, a crash leaves only what has P, and so the disk reads in the end.
pub record During (old new : DiskView) (P : List ℕ → Type 0) : Type 0 where
  pub since : LeavesOnly old new P
  pub now : Throughout new P

-- a torn form of the disk or of a crash image of it
abbrev pub TornFrom : DiskView → ℕ → ℕ → List ℕ → Type 0
TornFrom v at n c = After (May v) (Torn at n) c

-- from an offset on the bytes are the same
abbrev pub SameBehind : ℕ → List ℕ → List ℕ → Type 0
SameBehind size old new = drop size new ≡ drop size old

-- What follows so many bytes at the start of a disk stays: behind them a read gives what one gave, and each image that a crash
-- leaves, or left between the two moments, has what the disk or a crash image of it had.
pub record KeepsBehind (size : ℕ) (old new : DiskView) : Type 0 where
  pub content : (c : List ℕ) → Reads new c → After (Reads old) (SameBehind size) c
  pub crash : During old new (After (May old) (SameBehind size))
