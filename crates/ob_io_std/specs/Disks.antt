-- The view of a file of the system as a disk: how often a call failed, by which names it was attached and how many other calls there
-- were, and nothing of what its bytes are or a crash may leave.
use Rattle.std.specs.Prelude.{ℕ, Bool, List, map, None, Some}
use Rattle.ob_disk_spec.specs.Disk.{Attach, DiskView}
use Rattle.ob_io_std.specs.declared.disk.FileDisk.{FileDisk}
use Rattle.ob_io_std.specs.declared.system.Access.{Access}

-- nothing is observable but the faults and the calls
abbrev pub untold : ℕ → List Attach → ℕ → DiskView
untold faults attaches calls = record {
  content = None;
  now = λ c. ⊥;
  since = λ t c. ⊥;
  clock = 0;
  faults = faults;
  attaches = Some attaches;
  calls = calls;
}

-- the view of a file as a disk
abbrev pub file_disk_view : {F : Type 0} → FileDisk F → DiskView
file_disk_view d = untold d.faults d.calls.attaches d.calls.others

-- the file itself
abbrev pub file_of : {F : Type 0} → FileDisk F → F
file_of d = d.file

-- whether it was taken
abbrev pub is_attached : {F : Type 0} → FileDisk F → Bool
is_attached d = d.is_attached

-- whether it may be written
abbrev pub access_of : {F : Type 0} → FileDisk F → Access
access_of d = d.access

-- the names of the other files that the run uses
abbrev pub others_of : {F : Type 0} → FileDisk F → List (List ℕ)
others_of d = map (λ name. name.now) d.others.now
