use Rattle.std.proofs.Common.{refl}
use Rattle.ob_run.specs.Auditing.{audit_text}
use Rattle.ob_run.proofs.auditing.tell_counts.Goals as goal

-- the prefix that was written is one of the numbers
pub returns-clause-tells : goal.returns-clause-tells
returns-clause-tells g c = record {
  bytes = audit_text c.args.counts;
  said = refl;
  cause = c.in-Err.ensures.cause.failed;
  front = rw (c.as_bytes.ensures.value, c.in-Ok.ensures) at c.in-Err.ensures.err;
}
