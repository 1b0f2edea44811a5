use Rattle.std.proofs.Common.{inr, refl}
use Rattle.ob_run.specs.Statuses.{accepted_line}
use Rattle.ob_run.proofs.telling.accept.Goals as goal

-- the prefix that was written is one of the line
pub returns-in-Err-clause-tells : goal.returns-in-Err-clause-tells
returns-in-Err-clause-tells g c = λ name text accepted. record {
  bytes = accepted_line;
  said = inr (accepted, refl);
  cause = c.in-Err.ensures.cause.failed;
  front = c.in-Err.ensures.err;
}
