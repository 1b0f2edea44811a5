use Rattle.ob_store_laws.proofs.News.{news_are_differences}
use Rattle.ob_store_laws.proofs.laws.news_are_differences.Goals as goal

pub returns : goal.returns
returns c = news_are_differences
