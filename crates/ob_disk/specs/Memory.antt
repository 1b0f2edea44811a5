-- What a disk in memory tells.
use Rattle.std.specs.Prelude.{ℕ, Bool, List, length, reverse, Option, Some, None, if◌then◌else◌}
use Rattle.ob_disk_spec.specs.Disk.{Attach, DiskView}
use Rattle.ob_disk.specs.Notes.{Left, LeftSince}
use Rattle.ob_disk.specs.declared.memory.MemoryDisk.{MemoryDisk}
use Rattle.ob_disk.specs.declared.memory.Note.{Note}
use Rattle.ob_disk.specs.declared.plan.Plan.{Plan}

-- what is told of these bytes after the noted calls, the newest first
abbrev pub told : List ℕ → List Note → ℕ → Option (List Attach) → ℕ → DiskView
told bytes notes faults attaches calls = record {
  content = Some bytes;
  now = Left notes bytes;
  since = λ t c. LeftSince notes t bytes c;
  clock = length notes;
  faults = faults;
  attaches = attaches;
  calls = calls;
}

-- the calls that it noted, the newest first
abbrev pub notes_of : MemoryDisk → List Note
notes_of d = reverse d.notes.items

-- which disks were attached, as long as each was noted
abbrev pub attaches_told : Bool → List Attach → Option (List Attach)
attaches_told notes_all attaches = if notes_all then Some attaches else None

-- a disk in memory tells all
abbrev pub memory_disk_view : MemoryDisk → DiskView
memory_disk_view d = told d.bytes.items (notes_of d) d.plan.faults (attaches_told d.notes_all d.calls.attaches) d.calls.others

-- which of its calls are to fail
abbrev pub disk_plan : MemoryDisk → Plan
disk_plan d = d.plan

-- how many bytes it holds at most
abbrev pub memory_disk_room : MemoryDisk → ℕ
memory_disk_room d = d.room
