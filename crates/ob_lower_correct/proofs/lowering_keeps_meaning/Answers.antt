-- By the law.
use Rattle.ob_lower_correct.proofs.Law.{calls_keep_meaning, news_keep_meaning}
use Rattle.ob_lower_correct.proofs.lowering_keeps_meaning.Goals as goal

pub returns : goal.returns
returns c = record { calls = calls_keep_meaning; news = news_keep_meaning }
