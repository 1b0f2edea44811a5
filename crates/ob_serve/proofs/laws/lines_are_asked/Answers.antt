use Rattle.ob_serve.proofs.Asking.{lines_asked}
use Rattle.ob_serve.proofs.laws.lines_are_asked.Goals as goal

pub returns : goal.returns
returns c = lines_asked
