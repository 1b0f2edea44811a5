use Rattle.std.proofs.Common.{refl}
use Rattle.std.proofs.lemmas.Result.{err_from_is_err_and}
use Rattle.ob_front.proofs.ProgramsLaws.{terms_told, conditions_met, numbered_slice, slice_told, slice_derives}
use Rattle.ob_front.proofs.programs.checked.Goals as goal

pub check_bodies-requires-clause-table : goal.check_bodies-requires-clause-table
check_bodies-requires-clause-table c = conditions_met _ _ _ c.in_ok-program.ensures.terms

pub check_bodies-requires-clause-states : goal.check_bodies-requires-clause-states
check_bodies-requires-clause-states c = numbered_slice _ _ _ _ c.in_ok-program.ensures.terms c.as_slice.ensures

pub new-requires-clause-table : goal.new-requires-clause-table
new-requires-clause-table c = conditions_met _ _ _ c.in_ok-program.ensures.terms

pub new-requires-clause-states : goal.new-requires-clause-states
new-requires-clause-states c = numbered_slice _ _ _ _ c.in_ok-program.ensures.terms refl

pub returns-in-Err-clause-fault : goal.returns-in-Err-clause-fault
returns-in-Err-clause-fault c =
    slice_told _ _ _ _ _ c.in_ok-program.ensures.terms c.as_slice.ensures c.in-Err.ensures.fault

pub returns-in_err-program-clause-fault : goal.returns-in_err-program-clause-fault
returns-in_err-program-clause-fault c =
    let failed = err_from_is_err_and c.from_residual.result c.from_residual.ensures.1 in
    rw (failed.1, failed.2) (terms_told _ _ c.in_err-program.ensures.fault)

pub returns-in-Ok-clause-checked : goal.returns-in-Ok-clause-checked
returns-in-Ok-clause-checked c = slice_derives _ _ _ _ c.in_ok-program.ensures.terms c.as_slice.ensures c.in-Ok.ensures.derive
