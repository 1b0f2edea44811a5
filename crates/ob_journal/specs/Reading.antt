-- How reading a disk answers and fails.
use Rattle.std.specs.Prelude.{ℕ, ◌≡◌, ◌≤◌, ◌+◌, List, length, Result, Ok, Err}
use Rattle.ob_disk_spec.specs.Disk.{DiskView, Reads}
use Rattle.ob_io.specs.Causes.{Rose}
use Rattle.ob_journal.specs.declared.error.ReadFault.{ReadFault}
use Rattle.ob_journal.specs.declared.error.ReadFault.TheVariants.{Disk, Memory}

-- the disk has so many bytes
abbrev pub Counts : ℕ → DiskView → Type 0
Counts count v = (c : List ℕ) → Reads v c → count ≡ length c

-- the count of faults rose, by one, where the disk failed, and else it stayed
abbrev pub ReadsAs : {T : Type 0} → Result T ReadFault → ℕ → ℕ → Type 0
ReadsAs (Ok x) before now = now ≡ before
ReadsAs (Err Disk) before now = Rose before now × (before ≤ now) × (now ≤ before + 1)
ReadsAs (Err Memory) before now = now ≡ before
