use Rattle.ob_client.specs.TrialView.{holding_view}
use Rattle.ob_client.proofs.TrialLemmas.{IsWritten}
use Rattle.ob_client.proofs.trial.trial_lines.Given as goal

-- so many lines are written
abbrev pub invariant-loop-done : goal.invariant-loop-done
invariant-loop-done l = IsWritten l.length l.lines.items l.done l.drawn (holding_view l.held)
