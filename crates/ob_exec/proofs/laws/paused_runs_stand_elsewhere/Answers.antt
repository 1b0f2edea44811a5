-- By what each of its objects is on the other store, and by the law on requests.
use Rattle.ob_exec.proofs.ElsewhereLemmas.{stand_elsewhere}
use Rattle.ob_exec.proofs.laws.paused_runs_stand_elsewhere.Goals as goal

pub returns : goal.returns
returns c = stand_elsewhere
