use Rattle.std.proofs.Common.{inr}
use Rattle.ob_run.specs.TrialLines.{trial_text}
use Rattle.ob_run.proofs.trying.tell_trial.Goals as goal

-- the prefix that was written is one of the numbers
pub returns-clause-tells : goal.returns-clause-tells
returns-clause-tells g c = λ length text found. record {
  bytes = trial_text c.args.counts;
  said = inr found;
  cause = c.in-Err.ensures.cause.failed;
  front = rw (c.as_bytes.ensures.value, c.in-Ok.ensures) at c.in-Err.ensures.err;
}
