use Rattle.ob_io_std.proofs.TakingLemmas.{looks_then, apart_then}
use Rattle.ob_io_std.proofs.taking.apart.Goals as goal

pub returns-in_err-mean_others-clause-looks : goal.returns-in_err-mean_others-clause-looks
returns-in_err-mean_others-clause-looks g c =
    looks_then _ _ _ c.numbered.ensures.looks c.mean_others.ensures.looks

pub returns-in_err-mean_others-2-clause-looks : goal.returns-in_err-mean_others-2-clause-looks
returns-in_err-mean_others-2-clause-looks g c =
    looks_then _ _ _ c.numbered.ensures.looks (looks_then _ _ _ c.mean_others.ensures.looks c.mean_others-2.ensures.looks)

pub returns-clause-apart : goal.returns-clause-apart
returns-clause-apart g c =
    apart_then _ _ _ _ _ c.args.own c.in_ok-numbered.ensures.numbered c.in_ok-mean_others.ensures.others c.in_ok-mean_others-2.ensures.others

pub returns-clause-looks : goal.returns-clause-looks
returns-clause-looks g c =
    looks_then _ _ _ c.numbered.ensures.looks (looks_then _ _ _ c.mean_others.ensures.looks c.mean_others-2.ensures.looks)
