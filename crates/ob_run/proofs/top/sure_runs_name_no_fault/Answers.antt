use Rattle.ob_run.proofs.SureLemmas.{names_none}
use Rattle.ob_run.proofs.top.sure_runs_name_no_fault.Goals as goal

pub returns : goal.returns
returns c = λ words before after exit run. names_none before after exit run.named
