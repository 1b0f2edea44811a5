-- What calls over a disk in memory that never fails come to (this project's own).
use Rattle.std.specs.Prelude.{Result, IsOk}
use Rattle.ob_disk.specs.Sure.{sure_disk_view}
use Rattle.ob_disk.specs.declared.sure.SureDisk.{SureDisk}
use Rattle.ob_io.specs.Causes.{HasCause}

-- A call that fails only where the count of faults rose is Ok over a disk that never fails, whatever room that has.
abbrev pub SureCallsSucceed : Type 0 → Type 0 → Type 0
SureCallsSucceed T E =
    (old new : SureDisk) (result : Result T E) → HasCause (sure_disk_view old).faults (sure_disk_view new).faults result → IsOk result
