use Rattle.std.proofs.lemmas.Result.{err_from_is_err_and}
use Rattle.ob_front.proofs.ProgramsLaws.{table_told, slot_told}
use Rattle.ob_front.proofs.programs.lowered.Goals as goal

pub returns-in_err-bodies-clause-fault : goal.returns-in_err-bodies-clause-fault
returns-in_err-bodies-clause-fault c =
    let failed = err_from_is_err_and c.from_residual-in_err-bodies.result c.from_residual-in_err-bodies.ensures.1 in
    rw (failed.1, failed.2) (slot_told _ _ _ c.in_ok-table.ensures.table c.in_err-bodies.ensures.fault)

pub returns-in_err-table-clause-fault : goal.returns-in_err-table-clause-fault
returns-in_err-table-clause-fault c =
    let failed = err_from_is_err_and c.from_residual.result c.from_residual.ensures.1 in
    rw (failed.1, failed.2) (table_told _ _ c.in_err-table.ensures.fault)

pub returns-clause-terms : goal.returns-clause-terms
returns-clause-terms c = record { has = c.in_ok-table.ensures.table; lowered = c.in_ok-bodies.ensures.bodies }
