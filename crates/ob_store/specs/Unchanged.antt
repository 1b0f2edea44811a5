-- What is said of a disk of which no byte changed (this project's own).
use Rattle.std.specs.Prelude.{ℕ, List}
use Rattle.ob_disk_spec.specs.Disk.{DiskView, Reads}
use Rattle.ob_disk_spec.specs.Durable.{May, During}

-- No byte of a disk changed: a read gives what one gave, and each image that a crash leaves, or left between the two moments, was one
-- before, or what a read gave.
pub record KeepsBytes (before after : DiskView) : Type 0 where
  pub content : (c : List ℕ) → Reads after c → Reads before c
  pub crash : During before after (May before)
