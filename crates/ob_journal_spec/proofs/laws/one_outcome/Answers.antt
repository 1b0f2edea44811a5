use Rattle.ob_journal_spec.proofs.Unique.{blank_or_no_store, blank_or_damaged, blank_or_stands, no_store_or_damaged, no_store_or_stands, whole_or_damaged}
use Rattle.ob_journal_spec.proofs.laws.one_outcome.Goals as goal

pub returns-clause-blank_or_no_store : goal.returns-clause-blank_or_no_store
returns-clause-blank_or_no_store c = blank_or_no_store

pub returns-clause-blank_or_damaged : goal.returns-clause-blank_or_damaged
returns-clause-blank_or_damaged c = blank_or_damaged

pub returns-clause-blank_or_stands : goal.returns-clause-blank_or_stands
returns-clause-blank_or_stands c = blank_or_stands

pub returns-clause-no_store_or_damaged : goal.returns-clause-no_store_or_damaged
returns-clause-no_store_or_damaged c = no_store_or_damaged

pub returns-clause-no_store_or_stands : goal.returns-clause-no_store_or_stands
returns-clause-no_store_or_stands c = no_store_or_stands

pub returns-clause-whole_or_damaged : goal.returns-clause-whole_or_damaged
returns-clause-whole_or_damaged c = whole_or_damaged
