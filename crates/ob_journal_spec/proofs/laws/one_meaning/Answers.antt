use Rattle.ob_journal_spec.proofs.Unique.{one_stands, one_damage}
use Rattle.ob_journal_spec.proofs.laws.one_meaning.Goals as goal

pub returns-clause-stands : goal.returns-clause-stands
returns-clause-stands c = one_stands

pub returns-clause-offset : goal.returns-clause-offset
returns-clause-offset c = one_damage
