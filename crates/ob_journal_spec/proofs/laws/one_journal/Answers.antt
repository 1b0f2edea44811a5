use Rattle.ob_journal_spec.proofs.UniqueDisks.{one_journal, one_damage_disk}
use Rattle.ob_journal_spec.proofs.laws.one_journal.Goals as goal

pub returns-clause-journal : goal.returns-clause-journal
returns-clause-journal c = one_journal

pub returns-clause-offset : goal.returns-clause-offset
returns-clause-offset c = one_damage_disk
