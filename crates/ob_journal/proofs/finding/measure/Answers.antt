use Rattle.ob_disk_spec.proofs.Behind.{behind_quiet, behind_then}
use Rattle.ob_journal.proofs.finding.measure.Goals as goal

pub returns-in_err-settle-clause-behind : goal.returns-in_err-settle-clause-behind
returns-in_err-settle-clause-behind g c = λ size. behind_quiet size _ _ c.settle.ensures.quiet

pub returns-in_err-count-clause-behind : goal.returns-in_err-count-clause-behind
returns-in_err-count-clause-behind g c = λ size. behind_then size _ _ _ (behind_quiet size _ _ c.settle.ensures.quiet) (behind_quiet size _ _ c.len.ensures.quiet)

pub returns-clause-behind : goal.returns-clause-behind
returns-clause-behind g c = λ size. behind_then size _ _ _ (behind_quiet size _ _ c.settle.ensures.quiet) (behind_quiet size _ _ c.len.ensures.quiet)
