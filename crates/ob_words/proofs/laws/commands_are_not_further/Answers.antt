use Rattle.ob_words.proofs.FurtherLemmas.{not_further}
use Rattle.ob_words.proofs.laws.commands_are_not_further.Goals as goal

pub returns : goal.returns
returns c = not_further
