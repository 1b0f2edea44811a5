use Rattle.ob_io_std.proofs.TakingLemmas.{looks_none, looks_one, looks_then}
use Rattle.ob_io_std.proofs.taking.hold.Goals as goal

pub returns-in_err-means_it-clause-looks : goal.returns-in_err-means_it-clause-looks
returns-in_err-means_it-clause-looks g c =
    looks_then _ _ _ (looks_one _ _ _ c.in_ok-lock.ensures tt) c.means_it.ensures.looks

pub returns-in_err-sync_folder-clause-looks : goal.returns-in_err-sync_folder-clause-looks
returns-in_err-sync_folder-clause-looks g c =
    looks_then _ _ _ (looks_one _ _ _ c.in_ok-lock.ensures tt) (looks_then _ _ _ c.means_it.ensures.looks (looks_none _ _ c.in_err-sync_folder.ensures))

pub returns-clause-looks : goal.returns-clause-looks
returns-clause-looks g c =
    looks_then _ _ _ (looks_one _ _ _ c.in_ok-lock.ensures tt) (looks_then _ _ _ c.means_it.ensures.looks (looks_one _ _ _ c.in_ok-sync_folder.ensures tt))
