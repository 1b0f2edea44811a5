use Rattle.std.proofs.Common.{refl}
use Rattle.ob_run.specs.StoreLine.{store_line, refusal_view}
use Rattle.ob_run.proofs.telling.refuse_store.Goals as goal

-- the prefix that was written is one of the refusal
pub returns-clause-tells : goal.returns-clause-tells
returns-clause-tells g c = record {
  bytes = store_line (refusal_view c.args.refusal);
  said = refl;
  cause = c.in-Err.ensures.cause.failed;
  front = rw (c.as_bytes.ensures.value, c.in-Ok.ensures) at c.in-Err.ensures.err;
}
