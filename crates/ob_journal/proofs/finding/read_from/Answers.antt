use Rattle.ob_disk_spec.proofs.Behind.{behind_none, behind_quiet}
use Rattle.ob_journal.proofs.finding.read_from.Goals as goal

pub returns-in_default-clause-behind : goal.returns-in_default-clause-behind
returns-in_default-clause-behind g c = λ size. behind_none size (g.D.Disk.view c.args.disk.now)

pub returns-then-is_err-clause-behind : goal.returns-then-is_err-clause-behind
returns-then-is_err-clause-behind g c = λ size. behind_quiet size _ _ c.read.ensures.quiet

pub returns-clause-behind : goal.returns-clause-behind
returns-clause-behind g c = λ size. behind_quiet size _ _ c.read.ensures.quiet
