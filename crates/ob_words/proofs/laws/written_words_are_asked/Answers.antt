use Rattle.ob_words.proofs.WrittenLemmas.{written}
use Rattle.ob_words.proofs.laws.written_words_are_asked.Goals as goal

pub returns : goal.returns
returns c = written
