use Rattle.ob_io_std.proofs.TakingLemmas.{looks_then, numbered_then}
use Rattle.ob_io_std.proofs.taking.numbered.Goals as goal

pub returns-in_err-told_by_proc-clause-looks : goal.returns-in_err-told_by_proc-clause-looks
returns-in_err-told_by_proc-clause-looks g c =
    looks_then _ _ _ c.number_above.ensures.looks c.told_by_proc.ensures.looks

pub returns-clause-numbered : goal.returns-clause-numbered
returns-clause-numbered g c =
    numbered_then _ _ _ c.args.own c.in_ok-number.number c.in_ok-number.ensures.above.0 c.in_ok-number.ensures.above.1 c.in_ok-told_by_proc.ensures.told

pub returns-clause-looks : goal.returns-clause-looks
returns-clause-looks g c =
    looks_then _ _ _ c.number_above.ensures.looks c.told_by_proc.ensures.looks
