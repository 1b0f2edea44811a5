use Rattle.ob_silica_laws.proofs.Lasting.{runs_end}
use Rattle.ob_silica_laws.proofs.laws.runs_end.Goals as goal

pub returns : goal.returns
returns c = runs_end
