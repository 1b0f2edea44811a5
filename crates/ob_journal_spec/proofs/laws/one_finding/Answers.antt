use Rattle.ob_journal_spec.proofs.UniqueDisks.{blank_or_no_store_disk, blank_or_damaged_disk, blank_or_journal, no_store_or_damaged_disk, no_store_or_journal, journal_or_damaged_disk}
use Rattle.ob_journal_spec.proofs.laws.one_finding.Goals as goal

pub returns-clause-blank_or_no_store : goal.returns-clause-blank_or_no_store
returns-clause-blank_or_no_store c = blank_or_no_store_disk

pub returns-clause-blank_or_damaged : goal.returns-clause-blank_or_damaged
returns-clause-blank_or_damaged c = blank_or_damaged_disk

pub returns-clause-blank_or_journal : goal.returns-clause-blank_or_journal
returns-clause-blank_or_journal c = blank_or_journal

pub returns-clause-no_store_or_damaged : goal.returns-clause-no_store_or_damaged
returns-clause-no_store_or_damaged c = no_store_or_damaged_disk

pub returns-clause-no_store_or_journal : goal.returns-clause-no_store_or_journal
returns-clause-no_store_or_journal c = no_store_or_journal

pub returns-clause-journal_or_damaged : goal.returns-clause-journal_or_damaged
returns-clause-journal_or_damaged c = journal_or_damaged_disk
