use Rattle.ob_serve.proofs.Keeping.{goes_as_source, keeps_sessions}
use Rattle.ob_serve.proofs.Orders.{keeps_orders}
use Rattle.ob_serve.proofs.laws.sessions_are_kept.Goals as goal

pub returns : goal.returns
returns c = record { same = goes_as_source; kept = keeps_sessions; ordered = keeps_orders }
