-- What a crash at any moment leaves of a store that is served (this project's own).
use Rattle.std.specs.Prelude.{ℕ, ◌≡◌, ◌⊎◌, List, ◌++◌, take}
use Rattle.ob_disk_spec.specs.Disk.{DiskView, LeavesOnly}
use Rattle.ob_disk_spec.specs.Durable.{May, Throughout}
use Rattle.ob_serve.specs.Crash.{AfterFirst, AfterSome}
use Rattle.ob_serve.specs.Session.{SessionItem, replies}

-- the replies of a prefix of the items, of this length, hold all that was written
abbrev pub HoldsGiven : {S : Type 0} → List (SessionItem S) → List ℕ → ℕ → Type 0
HoldsGiven items given j = (rest : List ℕ) × (replies (take j items) ≡ given ++ rest)

-- A crash at any moment loses no item of whose reply a byte was written. The disk as it reads, and each image that a crash now may leave,
-- represents the store after a prefix of the items, whose replies hold all that was written. Each image that a crash might have left since
-- the run began is one that the disk was handed in with, or represents the store after a prefix of the items.
pub record Survives {S : Type 0} (stands : S → List ℕ → Type 0) (start : S) (items : List (SessionItem S)) (given : List ℕ) (before after : DiskView) : Type 0 where
  pub now : Throughout after (AfterFirst stands start items (HoldsGiven items given))
  pub since : LeavesOnly before after (λ c. May before c ⊎ AfterSome stands start items c)
