use Rattle.ob_invocation_laws.proofs.Taking.{refused_takes_nothing, still_takes_nothing}
use Rattle.ob_invocation_laws.proofs.laws.only_runs_take_units.Goals as goal

pub returns : goal.returns
returns c = record { refused = refused_takes_nothing; still = still_takes_nothing }
