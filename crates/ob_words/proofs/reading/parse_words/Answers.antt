use Rattle.ob_words.proofs.WrittenLemmas.{when_written}
use Rattle.ob_words.proofs.reading.parse_words.Goals as goal

pub returns-clause-written : goal.returns-clause-written
returns-clause-written c = λ asked h. when_written c.read_words.result _ c.read_words.ensures.ok c.read_words.ensures.usage asked h
