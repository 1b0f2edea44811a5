-- Which calls were made of a disk, as it is kept.
use Rattle.std.specs.Prelude.{ℕ, List, map, string_bytes}
use Rattle.ob_disk_spec.specs.Disk.{Attach}
use Rattle.ob_disk.specs.declared.calls.Attached.{Attached}
use Rattle.ob_disk.specs.declared.calls.Calls.TheInside.{Inside}

-- which disks were attached, in their order, and how many other calls there were
pub record DiskCalls : Type 0 where
  pub attaches : List Attach
  pub others : ℕ

-- a disk that was attached
abbrev pub attach_of : Attached → Attach
attach_of attached = record { name = string_bytes attached.name; calls = attached.calls }

-- all that is kept
abbrev pub calls_of : Inside → DiskCalls
calls_of kept = record { attaches = map attach_of kept.attached.items; others = kept.others }
