use Rattle.ob_journal_spec.proofs.Complete.{each_disk}
use Rattle.ob_journal_spec.proofs.laws.each_finding.Goals as goal

pub returns : goal.returns
returns c = each_disk
