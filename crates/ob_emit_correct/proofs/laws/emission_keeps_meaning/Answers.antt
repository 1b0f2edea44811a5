-- By the laws of runs.
use Rattle.ob_emit_correct.proofs.Running.{calls_end, news_end}
use Rattle.ob_emit_correct.proofs.laws.emission_keeps_meaning.Goals as goal

pub returns-clause-calls : goal.returns-clause-calls
returns-clause-calls c = calls_end

pub returns-clause-news : goal.returns-clause-news
returns-clause-news c = news_end
