use Rattle.ob_format_spec.proofs.Failing.{one_value, one_offset, not_spelled}
use Rattle.ob_format_spec.proofs.laws.one_answer.Goals as goal

pub returns-clause-value : goal.returns-clause-value
returns-clause-value g c = one_value g.T.Formatted.format g.T.Formatted.lawful

pub returns-clause-offset : goal.returns-clause-offset
returns-clause-offset g c = one_offset g.T.Formatted.format

pub returns-clause-apart : goal.returns-clause-apart
returns-clause-apart g c = λ bytes a k fails spells. not_spelled g.T.Formatted.format bytes k a fails spells
