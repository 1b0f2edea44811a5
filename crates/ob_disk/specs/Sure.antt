-- What a disk tells that never fails: no image, no name by which it was attached, and its bytes until there was no room or no
-- memory for them.
use Rattle.std.specs.Prelude.{ℕ, ◌≡◌, Bool, List, Some, None, if◌then◌else◌}
use Rattle.ob_disk_spec.specs.Disk.{DiskView}
use Rattle.ob_disk.specs.declared.sure.SureDisk.{SureDisk}

-- its bytes, as long as it keeps them, no image and no name, and how many calls there were but those that attached it
abbrev pub sure_told : Bool → List ℕ → ℕ → DiskView
sure_told tells bytes calls = record {
  content = if tells then Some bytes else None;
  now = λ c. ⊥;
  since = λ t c. ⊥;
  clock = 0;
  faults = 0;
  attaches = None;
  calls = calls;
}

-- what it tells
abbrev pub sure_disk_view : SureDisk → DiskView
sure_disk_view d = sure_told d.tells d.bytes.items d.calls

-- how many bytes it keeps at most
abbrev pub sure_disk_room : SureDisk → ℕ
sure_disk_room d = d.room

-- all but the calls is as it was
pub record IsSameDisk (old new : SureDisk) : Type 0 where
  pub alloc : new.alloc ≡ old.alloc
  pub bytes : new.bytes ≡ old.bytes
  pub room : new.room ≡ old.room
  pub tells : new.tells ≡ old.tells
