-- No count of faults rises where there is none.
use Rattle.std.proofs.Common.{refl, arith}
use Rattle.std.specs.Prelude.{Result, Ok, Err, IsOk}
use Rattle.ob_disk.specs.Sure.{sure_disk_view}
use Rattle.ob_disk.specs.declared.sure.SureDisk.{SureDisk}
use Rattle.ob_io.specs.Causes.{HasCause, Rose}

never_rose : Rose 0 0 → ⊥
never_rose rose = omega (arith, rose)

pub sure_calls_succeed : {T E : Type 0} (old new : SureDisk) (result : Result T E) → HasCause (sure_disk_view old).faults (sure_disk_view new).faults result → IsOk result
sure_calls_succeed old new (Ok x) cause = refl
sure_calls_succeed old new (Err e) cause = absurd (never_rose cause.failed)
